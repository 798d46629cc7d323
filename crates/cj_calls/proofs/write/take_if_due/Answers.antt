use Rattle.std.proofs.Common.{◌≡◌, ◌∙◌, None, ap, is_some, not, rules}
use Rattle.cj_calls.proofs.Cited.{Apply, both_ways, left_alone, left_same, not_due, not_now, took, takes_open}
use Rattle.cj_calls.proofs.write.take_if_due.Goals as goal

pub returns-then-is_none-clause-taken : goal.returns-then-is_none-clause-taken
returns-then-is_none-clause-taken g c =
    let now : not_now c.args.state.now.core (Apply c.args.b) ≡ None = search rules in
    let took_open = c.catch_up_open.ensures in
    took g.B.Backend.tells c.args.state.now c.catch_up_open.new.self c.args.b c.catch_up_open.result took_open.applies c.legal.ensures.world c.requires.within now took_open.counts took_open.logins took_open.setup took_open.recovery_log took_open.cache
    took_open.asks took_open.balance

pub returns-then-is_none-clause-here : goal.returns-then-is_none-clause-here
returns-then-is_none-clause-here g c =
    let now : not_now c.args.state.now.core (Apply c.args.b) ≡ None = search rules in
    let took_open = c.catch_up_open.ensures in
    takes_open g.B.Backend.tells c.args.state.now c.catch_up_open.new.self c.args.b c.catch_up_open.result took_open.applies c.legal.ensures.world c.requires.within now took_open.logins

pub returns-then-is_none-clause-others : goal.returns-then-is_none-clause-others
returns-then-is_none-clause-others g c = λ k other.
    let took_open = c.catch_up_open.ensures in
    left_alone g.B.Backend.tells c.args.state.now c.catch_up_open.new.self c.args.b c.catch_up_open.result took_open.applies k other (took_open.others k other)

pub returns-else-is_none-clause-here : goal.returns-else-is_none-clause-here
returns-else-is_none-clause-here g c =
    not_due c.args.state.now c.args.b c.requires.open
    (λ now. both_ways (is_some c.not_now_apply.result) (ap is_some (c.not_now_apply.ensures ∙ now)) (c.is_none.ensures ∙ ap not c.if-is_none.false))

pub returns-else-is_none-clause-others : goal.returns-else-is_none-clause-others
returns-else-is_none-clause-others g c = λ k other. left_same c.args.state.now k
