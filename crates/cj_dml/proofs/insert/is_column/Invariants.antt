use Rattle.std.proofs.Common.{◌≡◌, length}
use Rattle.cj_model.proofs.Common.{bytes_eq, list_any}
use Rattle.cj_model.specs.Database.Tables as tables
use Rattle.cj_dml.proofs.insert.is_column.Given as goal

abbrev pub invariant-loop-columns : goal.invariant-loop-columns
invariant-loop-columns l = list_any (bytes_eq l.name) (tables.column_names l.columns) ≡ list_any (bytes_eq l.name) (tables.column_names l.initial.columns)

abbrev pub decreases-loop-columns : goal.decreases-loop-columns
decreases-loop-columns l = length l.columns
