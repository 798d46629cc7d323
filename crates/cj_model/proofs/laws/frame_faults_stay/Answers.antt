use Rattle.cj_model.proofs.FaultLaws.{faults_stay}
use Rattle.cj_model.proofs.laws.frame_faults_stay.Goals as goal

pub returns : goal.returns
returns c = faults_stay
