use Rattle.cj_causes.proofs.FailedTurns.{turn_failed}
use Rattle.cj_causes.proofs.laws.turns_fail_in_three_ways.Goals as goal

pub returns : goal.returns
returns c = turn_failed
