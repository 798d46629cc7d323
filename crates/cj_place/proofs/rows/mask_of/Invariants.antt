use Rattle.std.proofs.Common.{take}
use Rattle.cj_place.specs.Kept.{HasMask}
use Rattle.cj_place.proofs.rows.mask_of.Given as goal

abbrev pub invariant-loop-host : goal.invariant-loop-host
invariant-loop-host l = HasMask l.names (take l.host-index l.hosts) l.mask
