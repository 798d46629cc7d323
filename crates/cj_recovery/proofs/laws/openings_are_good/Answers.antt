use Rattle.cj_recovery.proofs.OneOpening.{good, one_bad}
use Rattle.cj_recovery.proofs.laws.openings_are_good.Goals as goal

pub returns-clause-good : goal.returns-clause-good
returns-clause-good c = good

pub returns-clause-one : goal.returns-clause-one
returns-clause-one c = one_bad
