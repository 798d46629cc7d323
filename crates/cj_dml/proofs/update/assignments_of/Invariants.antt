use Rattle.std.proofs.Common.{◌≡◌, map, take}
use Rattle.cj_dml.proofs.Common.{assignment_of, assignments}
use Rattle.cj_dml.proofs.update.assignments_of.Given as goal

abbrev pub invariant-loop-set : goal.invariant-loop-set
invariant-loop-set l = assignments l.made.items ≡ map (assignment_of l.scope) (take l.set-index l.sets)
