use Rattle.std.proofs.Common.{rules, arith}
use Rattle.std.proofs.lemmas.Grind.{common_steps}
use Rattle.cj_sql.specs.Proving.Reader.{items_from}
use Rattle.cj_sql.proofs.Turns.{one_more, no_more}
use Rattle.cj_sql.proofs.list.items.Goals as goal

pub returns-in_err-read : goal.returns-in_err-read
unfolding items_from
returns-in_err-read g c =
    let e = one_more (λ n. items_from g.T.Element.reader n c.loop-turn.found c.loop-turn.tokens) c.args.limit c.loop-turn._turn c.loop-turn-test.true c.loop-turn.invariant in
    first_of (search rules, grind (arith, common_steps))

pub returns-then-not-eat_symbol : goal.returns-then-not-eat_symbol
unfolding items_from
returns-then-not-eat_symbol g c =
    let e = one_more (λ n. items_from g.T.Element.reader n c.loop-turn.found c.loop-turn.tokens) c.args.limit c.loop-turn._turn c.loop-turn-test.true c.loop-turn.invariant in
    first_of (search rules, grind (arith, common_steps))

pub loop-turn-preserved : goal.loop-turn-preserved
unfolding items_from
loop-turn-preserved g c =
    let e = one_more (λ n. items_from g.T.Element.reader n c.loop-turn.found c.loop-turn.tokens) c.args.limit c.loop-turn._turn c.loop-turn-test.true c.loop-turn.invariant in
    first_of (search rules, grind (arith, common_steps))

pub returns : goal.returns
unfolding items_from
returns g c =
    let e = no_more (λ n. items_from g.T.Element.reader n c.loop-turn.found c.loop-turn.tokens) c.args.limit c.loop-turn._turn c.loop-turn-test.false c.loop-turn.invariant in
    first_of (search rules, grind (arith, common_steps))
