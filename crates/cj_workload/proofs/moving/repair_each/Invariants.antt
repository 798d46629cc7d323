use Rattle.std.proofs.Common.{◌≤◌}
use Rattle.cj_workload.specs.Proving.Keeping.{KeepsSolo}
use Rattle.cj_workload.specs.Workloads.{RepairsEach}
use Rattle.cj_workload.proofs.moving.repair_each.Given as goal

abbrev pub invariant-loop-b : goal.invariant-loop-b
invariant-loop-b g l = record {
  repairs : RepairsEach g.B.Backend.tells g.B.Backend.can_be_armed l.b l.fn.solo l.solo;
  keeps : KeepsSolo 0 l.enabled l.fn.solo l.solo;
  few : l.enabled ≤ l.b;
}
