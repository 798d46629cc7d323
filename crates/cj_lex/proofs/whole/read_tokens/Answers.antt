use Rattle.std.proofs.lemmas.Result.{err_from_is_err_and}
use Rattle.cj_lex.proofs.Leads.{leads_err, leads_more, leads_end, leads_only, shorter}
use Rattle.cj_lex.proofs.whole.read_tokens.Goals as goal

pub returns-in_err-token : goal.returns-in_err-token
returns-in_err-token c =
    let p = err_from_is_err_and c.from_residual.result c.from_residual.ensures.1 in
    rw (p.1, p.2) (leads_err c.args.text.now c.loop-found.found.items c.loop-found.left.now c.in_err-token.field-0.0 c.loop-found.invariant c.in_err-token.ensures)

pub loop-found-smaller : goal.loop-found-smaller
loop-found-smaller c =
    let k = rw c.in-Some.is at c.in_ok-token.ensures in
    shorter c.loop-found.left.now c.in-Some.token c.in-Some.rest.now k

pub loop-found-preserved : goal.loop-found-preserved
loop-found-preserved c =
    let k = rw c.in-Some.is at c.in_ok-token.ensures in
    rw c.in_ok-push_back.ensures.items (leads_more c.args.text.now c.loop-found.found.items c.loop-found.left.now c.in-Some.token c.in-Some.rest.now c.loop-found.invariant k)

pub returns : goal.returns
returns c =
    let k = rw c.in_default.is at c.in_ok-token.ensures in (
      leads_end c.args.text.now c.loop-found.found.items c.loop-found.left.now c.loop-found.invariant k,
      leads_only c.args.text.now c.loop-found.found.items c.loop-found.left.now c.loop-found.invariant k,
    )
