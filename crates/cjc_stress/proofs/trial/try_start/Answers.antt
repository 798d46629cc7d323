use Rattle.cjc_stress.proofs.trial.try_start.Goals as goal

-- after a start no session is open, and no entry
pub serve_alone-requires-clause-fresh : goal.serve_alone-requires-clause-fresh
serve_alone-requires-clause-fresh g c = c.in-Ok.ensures.started.started.sessions

pub serve_alone-requires-clause-idle : goal.serve_alone-requires-clause-idle
serve_alone-requires-clause-idle g c = c.in-Ok.ensures.started.started.idle
