use Rattle.std.proofs.Common.{◌≡◌, take, false}
use Rattle.cj_model.specs.Database.Updates as updates
use Rattle.cj_dml.specs.Assignments.{assignments}
use Rattle.cj_dml.proofs.update.assigned.Given as goal

abbrev pub invariant-loop-assign : goal.invariant-loop-assign
invariant-loop-assign l = record {
  so_far : l.values.items ≡ updates.assigned (assignments (take l.assign-index l.assigns)) l.row;
  within : updates.overflows (assignments (take l.assign-index l.assigns)) l.row ≡ false;
}
