use Rattle.cj_model.proofs.MaskBits.{has_set}
use Rattle.cj_model.proofs.mask.with_bit.Goals as goal

pub returns-clause-bits : goal.returns-clause-bits
returns-clause-bits c = λ k. has_set c.args.mask c.args.b k c.requires
