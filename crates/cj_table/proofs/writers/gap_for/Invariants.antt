use Rattle.std.proofs.Common.{◌≡◌, ◌++◌, take, drop}
use Rattle.cj_table.proofs.Common.{nat_cmp, put_by}
use Rattle.cj_table.proofs.writers.gap_for.Given as goal

abbrev pub invariant-loop-i : goal.invariant-loop-i
invariant-loop-i l = put_by nat_cmp l.numbers l.number ≡ take l.i l.numbers ++ put_by nat_cmp (drop l.i l.numbers) l.number
