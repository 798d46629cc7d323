use Rattle.cj_cluster.proofs.AnswersStay.{ask_stays}
use Rattle.cj_cluster.proofs.freshness_laws.answers_stay.Goals as goal

pub returns : goal.returns
returns c = λ entries from to s fits. ask_stays entries fits from to s
