use Rattle.cj_control.proofs.control.Control.open.Goals as goal

pub returns-clause-full : goal.returns-clause-full
returns-clause-full g c = c.«open».ensures.cause
