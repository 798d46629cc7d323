use Rattle.std.proofs.Common.{sym, ◌∙◌}
use Rattle.cj_balance.proofs.Firsts.{first_taken}
use Rattle.cj_balance.proofs.balancer.Balancer.first_with.Goals as goal

pub returns-then-is_ahead : goal.returns-then-is_ahead
returns-then-is_ahead c =
    let b = c.args.self.now in
    first_taken b.policy b.weights b.standing c.args.candidates c.args.b c.in-Some.other c.is_ahead.ensures.weighted c.requires.below (sym c.has_bit.ensures ∙ c.if-not-has_bit.false) (rw c.in-Some.is at c.requires.so_far) (sym c.is_ahead.ensures.ahead ∙ c.if-is_ahead.true)
