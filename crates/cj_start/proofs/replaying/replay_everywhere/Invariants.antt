use Rattle.cj_start.proofs.StartReplays.{ReplayedTo}
use Rattle.cj_start.proofs.replaying.replay_everywhere.Given as goal

abbrev pub invariant-loop-b : goal.invariant-loop-b
invariant-loop-b g l = ReplayedTo l.fn.state l.state l.b
