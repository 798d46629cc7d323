use Rattle.cj_recovery.proofs.OneOpening.{items_fix}
use Rattle.cj_recovery.proofs.laws.items_fix_the_opening.Goals as goal

pub returns : goal.returns
returns c = items_fix
