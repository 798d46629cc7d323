use Rattle.std.proofs.Common.{◌≡◌, map, take}
use Rattle.cj_model.specs.Database.Inserts as inserts
use Rattle.cj_dml.proofs.insert.row_of_all.Given as goal

abbrev pub invariant-loop-term : goal.invariant-loop-term
invariant-loop-term l = l.row ≡ map inserts.constant_value (take l.term-index l.tuple)
