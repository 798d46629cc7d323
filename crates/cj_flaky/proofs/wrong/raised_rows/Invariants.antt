use Rattle.std.proofs.Common.{◌≡◌, length, All}
use Rattle.cj_flaky.proofs.wrong.raised_rows.Given as goal

-- each row that is left, and each that was made, has a value for each column
abbrev pub invariant-loop-row : goal.invariant-loop-row
invariant-loop-row l = record {
  left : All (λ row. length row ≡ l.fn.columns) l.row-iterator;
  made : All (λ row. length row ≡ l.fn.columns) l.made;
}
