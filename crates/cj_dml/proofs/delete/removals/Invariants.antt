use Rattle.std.proofs.Common.{◌≡◌, map, take}
use Rattle.std.specs.Map.Iter.{deref}
use Rattle.cj_rowstore.specs.RowEntries as entries
use Rattle.cj_dml.proofs.delete.removals.Given as goal

abbrev pub invariant-loop-row : goal.invariant-loop-row
invariant-loop-row l = l.changes ≡ entries.removals l.place (map deref (take l.row-index l.rows))
