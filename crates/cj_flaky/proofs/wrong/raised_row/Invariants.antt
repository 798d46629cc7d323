use Rattle.std.proofs.Common.{◌≡◌, length}
use Rattle.cj_flaky.proofs.wrong.raised_row.Given as goal

-- there is one value for each so far
abbrev pub invariant-loop-value : goal.invariant-loop-value
invariant-loop-value l = length l.made.items ≡ l.value-index
