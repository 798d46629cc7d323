use Rattle.std.proofs.Common.{◌≡◌, take, map}
use Rattle.cj_model.specs.declared.placement.PlaceRow.{PlaceRow}
use Rattle.cj_place.proofs.refusals.tables_of.Given as goal

abbrev pub invariant-loop-row : goal.invariant-loop-row
invariant-loop-row l = l.tables ≡ map (λ (row : PlaceRow). row.table) (take l.row-index l.rows)
