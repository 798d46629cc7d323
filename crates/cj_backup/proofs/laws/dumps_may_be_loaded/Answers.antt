use Rattle.cj_backup.proofs.Rightness.{dump_is_right}
use Rattle.cj_backup.proofs.laws.dumps_may_be_loaded.Goals as goal

pub returns : goal.returns
returns c = dump_is_right
