use Rattle.std.proofs.Common.{◌≡◌, ◌++◌, length}
use Rattle.cj_cluster.specs.Script.Lines.{row_text}
use Rattle.cj_script.proofs.print.append_row.Given as goal

-- what is there and what is to come are the row's text
abbrev pub invariant-loop-values : goal.invariant-loop-values
invariant-loop-values l = l.lines.items ++ row_text l.values ≡ l.initial.lines.items ++ row_text l.initial.values

abbrev pub decreases-loop-values : goal.decreases-loop-values
decreases-loop-values l = length l.values
