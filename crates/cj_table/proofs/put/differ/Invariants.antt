use Rattle.std.proofs.Common.{◌≡◌, length}
use Rattle.cj_model.specs.Database.Tables.{column_names, is_distinct}
use Rattle.cj_table.proofs.put.differ.Given as goal

abbrev pub invariant-loop-columns : goal.invariant-loop-columns
invariant-loop-columns l = is_distinct (column_names l.columns) ≡ is_distinct (column_names l.initial.columns)

abbrev pub decreases-loop-columns : goal.decreases-loop-columns
decreases-loop-columns l = length l.columns
