use Rattle.std.proofs.Common.{◌≡◌, ◌++◌}
use Rattle.cj_table.proofs.conversion.copied_rows.Given as goal

abbrev pub invariant-loop-row : goal.invariant-loop-row
invariant-loop-row l = l.rows ++ l.row-iterator ≡ l.fn.scan
