use Rattle.std.proofs.Common.{◌≡◌, ◌++◌, map, take}
use Rattle.cj_expr.proofs.scope.push_columns.Given as goal

abbrev pub invariant-loop-column : goal.invariant-loop-column
invariant-loop-column l = l.columns.items ≡ l.fn.columns.items ++ map (λ column. (l.schema.table, column)) (take l.column-index l.column-items)
