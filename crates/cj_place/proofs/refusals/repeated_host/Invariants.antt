use Rattle.std.proofs.Common.{◌≡◌, [], drop}
use Rattle.cj_model.specs.declared.placement.PlaceRow.{PlaceRow}
use Rattle.cj_place.specs.Refusals.{some_row}
use Rattle.cj_place.specs.Refusals as refusals
use Rattle.cj_place.proofs.refusals.repeated_host.Given as goal

abbrev pub invariant-loop-row : goal.invariant-loop-row
invariant-loop-row l = some_row (λ (row : PlaceRow). refusals.repeated [] row.hosts) (drop l.row-index l.rows) ≡ some_row (λ (row : PlaceRow). refusals.repeated [] row.hosts) l.rows
