use Rattle.std.proofs.Common.{◌≡◌, map, take, false}
use Rattle.cj_dml.proofs.Common.{assignments, deref, list_any, puts}
use Rattle.cj_model.specs.Database.Updates as updates
use Rattle.cj_dml.proofs.update.new_rows.Given as goal

abbrev pub invariant-loop-row : goal.invariant-loop-row
invariant-loop-row l = record {
  so_far : l.changes ≡ puts l.place (map (updates.assigned (assignments l.assigns)) (map deref (take l.row-index l.rows)));
  within : list_any (updates.overflows (assignments l.assigns)) (map deref (take l.row-index l.rows)) ≡ false;
}
