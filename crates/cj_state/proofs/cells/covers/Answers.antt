use Rattle.cj_state.proofs.Serving.{covers_is}
use Rattle.cj_state.proofs.cells.covers.Goals as goal

pub returns : goal.returns
returns c = covers_is c.args.mask c.args.other c.ranges.mask.fits c.ranges.other.fits
