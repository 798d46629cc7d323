use Rattle.std.proofs.Common.{◌≡◌, ◌++◌, List}
use Rattle.cj_script.proofs.Common.{flat_map, row_text, with_line_feed}
use Rattle.cj_model.specs.declared.value.Value.{Value}
use Rattle.cj_script.proofs.print.append_rows.Given as goal

abbrev pub invariant-loop-row : goal.invariant-loop-row
invariant-loop-row l = l.lines.items ++ flat_map (λ (row : List Value). with_line_feed (row_text row)) l.row-iterator ≡ l.initial.lines.items ++ flat_map (λ (row : List Value). with_line_feed (row_text row)) l.fn.rows
