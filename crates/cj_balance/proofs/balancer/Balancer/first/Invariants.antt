use Rattle.cj_balance.specs.Kept.{IsFirstOrNone}
use Rattle.cj_balance.proofs.balancer.Balancer.first.Given as goal

abbrev pub invariant-loop-b : goal.invariant-loop-b
invariant-loop-b l = IsFirstOrNone l.self l.candidates l.b l.first
