use Rattle.cj_place.proofs.Bits.{has_first}
use Rattle.cj_place.proofs.masks.first_bits.Goals as goal

pub returns : goal.returns
returns c = λ k. has_first c.args.count k c.requires
