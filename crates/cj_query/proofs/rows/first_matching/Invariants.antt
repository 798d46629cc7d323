use Rattle.std.proofs.Common.{◌≡◌, ◌++◌, length, map}
use Rattle.cj_query.proofs.Cited.{at_most, deref, filter, satisfies}
use Rattle.cj_query.proofs.rows.first_matching.Given as goal

abbrev pub invariant-loop-rows : goal.invariant-loop-rows
invariant-loop-rows l = record {
  found : map deref l.out.items ++ filter (satisfies l.cond) l.rows ≡ filter (satisfies l.cond) l.fn.rows;
  few : at_most l.limit (map deref l.out.items) ≡ map deref l.out.items;
}

abbrev pub decreases-loop-rows : goal.decreases-loop-rows
decreases-loop-rows l = length l.rows
