use Rattle.cj_start.proofs.StartTakes.{TakenOnTo}
use Rattle.cj_start.proofs.ending.take_on_all.Given as goal

abbrev pub invariant-loop-b : goal.invariant-loop-b
invariant-loop-b g l = TakenOnTo l.fn.state l.state l.b
