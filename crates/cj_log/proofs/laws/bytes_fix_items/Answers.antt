use Rattle.cj_log.proofs.OneLog.{one_log}
use Rattle.cj_log.proofs.laws.bytes_fix_items.Goals as goal

pub returns : goal.returns
returns c = one_log
