use Rattle.std.proofs.Common.{◌≡◌, ◌++◌, length, map}
use Rattle.cj_query.proofs.Common.{at_most, taken}
use Rattle.cj_query.proofs.rows.first_taken.Given as goal

abbrev pub invariant-loop-rows : goal.invariant-loop-rows
invariant-loop-rows l = record {
  found : l.out ++ map (taken l.columns) l.rows ≡ map (taken l.columns) l.fn.rows;
  few : at_most l.limit l.out ≡ l.out;
}

abbrev pub decreases-loop-rows : goal.decreases-loop-rows
decreases-loop-rows l = length l.rows
