use Rattle.std.proofs.Common.{◌≡◌, map, take}
use Rattle.cj_model.specs.Database.Inserts as inserts
use Rattle.cj_dml.proofs.insert.rows_of.Given as goal

abbrev pub invariant-loop-tuple : goal.invariant-loop-tuple
invariant-loop-tuple l = l.rows ≡ map (inserts.row_of l.columns l.names) (take l.tuple-index l.tuples)
