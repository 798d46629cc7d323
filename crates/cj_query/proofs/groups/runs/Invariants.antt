use Rattle.std.proofs.Common.{◌≡◌, ◌≤◌, ◌-◌, ◌++◌, length, map, drop}
use Rattle.cj_query.proofs.Common.{deref, rows_in}
use Rattle.cj_query.specs.Gathered as gathered
use Rattle.cj_query.proofs.groups.runs.Given as goal

abbrev pub invariant-loop-start : goal.invariant-loop-start
invariant-loop-start l = record {
  within : l.start ≤ length l.rows;
  so_far : rows_in l.out.items ++ gathered.runs l.place (map deref (drop l.start l.rows)) ≡ gathered.runs l.place (map deref l.rows);
}

abbrev pub decreases-loop-start : goal.decreases-loop-start
decreases-loop-start l = length l.rows - l.start
