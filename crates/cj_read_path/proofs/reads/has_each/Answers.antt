use Rattle.std.proofs.Common.{◌-◌, bit_and, eqb-true}
use Rattle.cj_read_path.proofs.Reading.{has_all}
use Rattle.cj_read_path.proofs.reads.has_each.Goals as goal

pub returns : goal.returns
returns c on b there = has_all c.args.mask c.args.wanted c.ranges.mask.fits c.ranges.wanted.fits (eqb-true (bit_and c.args.wanted (4294967295 - c.args.mask)) 0 on) b there
