use Rattle.std.proofs.Common.{ap, ◌∙◌}
use Rattle.cj_dml.proofs.Cited.{assignment_by_place, assignment_of, assignments, images_more}
use Rattle.cj_dml.proofs.update.assignments_of.Goals as goal

pub loop-set-preserved : goal.loop-set-preserved
loop-set-preserved c =
    ap assignments c.in_ok-push.ensures.items
    ∙ images_more assignment_by_place (assignment_of c.args.scope.now) c.loop-set.made.items c.in_ok-assignment_of.field-0 c.args.sets.now c.loop-set.set-index c.set-item.result c.loop-set.invariant c.loop-set-test.true c.set-item.is c.in_ok-assignment_of.ensures
