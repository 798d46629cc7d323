use Rattle.cj_workload.proofs.Kept.{keeps_made}
use Rattle.cj_workload.proofs.moving.make.Goals as goal

pub returns-else-tells_want-clause-keeps : goal.returns-else-tells_want-clause-keeps
returns-else-tells_want-clause-keeps g c = keeps_made g.B.Backend.tells c.args.solo.now c.step.new.self c.args.m _ c.requires.kind c.in-Ok.ensures.moves c.in-Ok.ensures.log_causes c.in-Ok.ensures.session
