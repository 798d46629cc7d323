use Rattle.std.proofs.Common.{◌≡◌, take, Some}
use Rattle.cj_model.specs.Database.Inserts as inserts
use Rattle.cj_dml.proofs.insert.row_of_listed.Given as goal

abbrev pub invariant-loop-column : goal.invariant-loop-column
invariant-loop-column l = l.row ≡ inserts.row_of (take l.column-index l.columns) (Some l.names) l.tuple
