use Rattle.cj_start.proofs.Cited.{ReplaysOn, last_number, left_of, position_at}
use Rattle.cj_start.proofs.replaying.replay_whole.Given as goal

abbrev pub invariant-loop-state : goal.invariant-loop-state
invariant-loop-state g l = ReplaysOn l.fn.state l.state l.b

abbrev pub decreases-loop-state : goal.decreases-loop-state
decreases-loop-state g l = left_of (last_number l.state.core) (position_at l.state.core l.b)
