use Rattle.cj_cluster.proofs.Standing.{stand_none}
use Rattle.cj_cluster.proofs.Chains.{runs_between}
use Rattle.cj_cluster.proofs.laws.sessions_stand_between_replies.Goals as goal

pub returns-clause-begin : goal.returns-clause-begin
returns-clause-begin c = stand_none

pub returns-clause-stay : goal.returns-clause-stay
returns-clause-stay c = runs_between
