use Rattle.cj_dump.proofs.Decoded.{one_reading}
use Rattle.cj_dump.proofs.laws.bytes_have_one_reading.Goals as goal

pub returns : goal.returns
returns c = one_reading
