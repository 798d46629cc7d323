use Rattle.std.proofs.Common.{◌≡◌, drop}
use Rattle.cj_place.specs.Refusals as refusals
use Rattle.cj_place.proofs.refusals.stranger.Given as goal

abbrev pub invariant-loop-row : goal.invariant-loop-row
invariant-loop-row l = refusals.stranger l.backends (drop l.row-index l.rows) ≡ refusals.stranger l.backends l.rows
