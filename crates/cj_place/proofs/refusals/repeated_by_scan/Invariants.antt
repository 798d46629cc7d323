use Rattle.std.proofs.Common.{◌≡◌, [], take, drop}
use Rattle.cj_place.specs.Refusals as refusals
use Rattle.cj_place.proofs.refusals.repeated_by_scan.Given as goal

abbrev pub invariant-loop-i : goal.invariant-loop-i
invariant-loop-i l = refusals.repeated (take l.i l.names) (drop l.i l.names) ≡ refusals.repeated [] l.names
