use Rattle.std.proofs.Common.{◌≡◌, [], take, drop, map}
use Rattle.cj_model.specs.declared.placement.PlaceRow.{PlaceRow}
use Rattle.cj_place.specs.Refusals as refusals
use Rattle.cj_place.proofs.refusals.repeated_table_by_scan.Given as goal

abbrev pub invariant-loop-i : goal.invariant-loop-i
invariant-loop-i l =
    refusals.repeated (map (λ (row : PlaceRow). row.table) (take l.i l.rows)) (map (λ (row : PlaceRow). row.table) (drop l.i l.rows)) ≡ refusals.repeated [] (map (λ (row : PlaceRow). row.table) l.rows)
