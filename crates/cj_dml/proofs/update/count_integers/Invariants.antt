use Rattle.std.proofs.Common.{◌≡◌, ◌+◌, length}
use Rattle.cj_dml.proofs.Common.{filter, satisfies}
use Rattle.cj_expr.specs.Shapes.{formula}
use Rattle.cj_dml.specs.ColumnEdits.{AreIntegers}
use Rattle.cj_dml.proofs.update.count_integers.Given as goal

abbrev pub invariant-loop-row : goal.invariant-loop-row
invariant-loop-row l = record {
  count : l.count + length l.row-iterator ≡ length (filter (satisfies l.condition) l.fn.view.rows);
  integers : AreIntegers (formula l.value) l.row-iterator → AreIntegers (formula l.value) (filter (satisfies l.condition) l.fn.view.rows);
}
