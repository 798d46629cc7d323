use Rattle.cj_determinism.proofs.QuietSteps.{solos_stay_alike}
use Rattle.cj_determinism.proofs.laws.quiet_calls_keep_solos_alike.Goals as goal

pub returns : goal.returns
returns c = solos_stay_alike
