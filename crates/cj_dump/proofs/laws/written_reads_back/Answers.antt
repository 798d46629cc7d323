use Rattle.cj_dump.proofs.Decoded.{reads_back}
use Rattle.cj_dump.proofs.laws.written_reads_back.Goals as goal

pub returns : goal.returns
returns c = reads_back
