use Rattle.cj_place.proofs.Bits.{lone_bit}
use Rattle.cj_place.proofs.masks.is_lone_bit.Goals as goal

pub returns : goal.returns
returns c = lone_bit c.args.mask c.args.b c.requires
