use Rattle.std.proofs.Common.{refl}
use Rattle.cj_session.proofs.Steps.{served}
use Rattle.cj_session.proofs.session.serve_session.Goals as goal

pub returns-clause-served : goal.returns-clause-served
returns-clause-served g c = served _ _ _ _ _ _ _ c.new.ensures refl c.answer_all-end.ensures.served c.leave.ensures
