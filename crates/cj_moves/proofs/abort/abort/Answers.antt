use Rattle.std.proofs.Common.{sym, ◌∙◌}
use Rattle.cj_moves.proofs.Cited.{abort_want, not_aborted, refusal_causes}
use Rattle.cj_moves.proofs.abort.abort.Goals as goal

pub returns-in-Err-clause-moves : goal.returns-in-Err-clause-moves
returns-in-Err-clause-moves g c =
    rw c.refused.ensures (not_aborted c.args.state.now.core c.args.tx c.in-Ok.entry c.in-Ok.ensures.is c.in-Err.error c.schedule_abort.new.self.core c.in-Err.ensures.scheduled c.in-Err.ensures.core)

pub returns-in-Err-clause-log_causes : goal.returns-in-Err-clause-log_causes
returns-in-Err-clause-log_causes g c =
    rw c.refused.ensures (refusal_causes c.in-Err.error c.args.state.now.recovery_log.faults c.schedule_abort.new.self.recovery_log.faults c.in-Err.ensures.cause)

pub returns-in-Err-clause-want : goal.returns-in-Err-clause-want
returns-in-Err-clause-want g c is =
    abort_want c.args.state.now c.schedule_abort.new.self c.in-Err.ensures.same c.in-Err.ensures.cache c.in-Ok.entry c.in-Err.error c.in-Err.ensures.core (sym c.refused.ensures ∙ is)
