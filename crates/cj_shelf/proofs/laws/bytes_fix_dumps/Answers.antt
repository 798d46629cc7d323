use Rattle.cj_shelf.proofs.Bodies.{one_shelf}
use Rattle.cj_shelf.proofs.laws.bytes_fix_dumps.Goals as goal

pub returns : goal.returns
returns c = one_shelf
