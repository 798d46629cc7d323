use Rattle.std.proofs.Common.{◌≡◌, ◌++◌, take, drop}
use Rattle.std.specs.Ordering.{nat_cmp}
use Rattle.cj_model.specs.Database.Tables.{put_by}
use Rattle.cj_replica.proofs.writers.gap_for.Given as goal

abbrev pub invariant-loop-i : goal.invariant-loop-i
invariant-loop-i l = put_by nat_cmp l.numbers l.number ≡ take l.i l.numbers ++ put_by nat_cmp (drop l.i l.numbers) l.number
