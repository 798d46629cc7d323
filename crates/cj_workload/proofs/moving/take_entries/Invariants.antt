use Rattle.cj_workload.specs.Proving.Keeping.{KeepsSolo}
use Rattle.cj_workload.specs.Workloads.{TakesEntries}
use Rattle.cj_workload.proofs.moving.take_entries.Given as goal

abbrev pub invariant-loop : goal.invariant-loop
invariant-loop g l = record {
  takes : TakesEntries g.B.Backend.tells g.B.Backend.can_be_armed l.b l.counter l.fn.solo l.solo;
  keeps : KeepsSolo 0 0 l.fn.solo l.solo;
}
