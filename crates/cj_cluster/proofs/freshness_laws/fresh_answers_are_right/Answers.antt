use Rattle.cj_cluster.proofs.FreshAnswers.{right_at_end, given_at_end}
use Rattle.cj_cluster.proofs.freshness_laws.fresh_answers_are_right.Goals as goal

pub returns-clause-answer : goal.returns-clause-answer
returns-clause-answer c = right_at_end

pub returns-clause-cache : goal.returns-clause-cache
returns-clause-cache c = given_at_end
