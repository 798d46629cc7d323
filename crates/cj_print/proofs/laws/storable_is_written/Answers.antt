use Rattle.cj_print.proofs.StoredWritten.{storable_is_written}
use Rattle.cj_print.proofs.laws.storable_is_written.Goals as goal

pub returns : goal.returns
returns c = storable_is_written
