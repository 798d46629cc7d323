use Rattle.std.proofs.Common.{◌≢◌, All, IfNone, take}
use Rattle.cj_explain.proofs.lines.found_in.Given as goal

abbrev pub invariant-loop-row : goal.invariant-loop-row
invariant-loop-row l = IfNone l.cause (All (λ row. row.0 ≢ l.status) (take l.row-index l.rows))
