use Rattle.std.proofs.Common.{rules}
use Rattle.crossbeam_queue.specs.Passes.{view}
use Rattle.cj_queue.proofs.Steps.{begins, splits}
use Rattle.cj_queue.proofs.lane.Lane.new.Goals as goal

pub ruled-requires-clause-rule : goal.ruled-requires-clause-rule
ruled-requires-clause-rule g c = begins

pub another-other-requires-clause-rule : goal.another-other-requires-clause-rule
another-other-requires-clause-rule g c = splits c.in_ok-queue.pass.id (view c.in_ok-queue.pass) (search rules) (search rules)
