use Rattle.std.proofs.Common.{◌≡◌, false, take}
use Rattle.cj_shelf.specs.Shelves.{is_shelved}
use Rattle.cj_shelf.specs.Proving.{labelled}
use Rattle.cj_shelf.proofs.label.place_of.Given as goal

abbrev pub invariant-loop-place : goal.invariant-loop-place
invariant-loop-place l = is_shelved l.name (take l.place (labelled l.labels)) ≡ false
