use Rattle.cj_locked.proofs.Ending.{has_less}
use Rattle.cj_locked.proofs.book.without.Goals as goal

pub returns : goal.returns
returns c b = has_less c.args.mask c.args.other b c.ranges.mask.fits c.ranges.other.fits
