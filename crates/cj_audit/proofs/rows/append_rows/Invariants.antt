use Rattle.std.proofs.Common.{◌≡◌, ◌++◌, take}
use Rattle.cj_audit.specs.Audits.{StaysText, row_lines}
use Rattle.cj_audit.proofs.rows.append_rows.Given as goal

-- the rows so far were added
abbrev pub invariant-loop-row : goal.invariant-loop-row
invariant-loop-row l = record {
  ok : l.text.items ≡ l.initial.text.items ++ row_lines (take l.row-index l.rows);
  text : StaysText l.initial.text.items l.text.items;
}
