use Rattle.std.proofs.Common.{sym, ◌∙◌}
use Rattle.cj_moves.proofs.Cited.{mark_want, not_marked, refusal_causes}
use Rattle.cj_moves.proofs.mark.mark.Goals as goal

pub returns-in-Err-clause-moves : goal.returns-in-Err-clause-moves
returns-in-Err-clause-moves g c =
    rw c.refused.ensures (not_marked c.args.state.now.core c.args.name.now c.in-Err.error c.mark.new.self.core c.in-Err.ensures.room c.in-Err.ensures.core)

pub returns-in-Err-clause-log_causes : goal.returns-in-Err-clause-log_causes
returns-in-Err-clause-log_causes g c =
    rw c.refused.ensures (refusal_causes c.in-Err.error c.args.state.now.recovery_log.faults c.mark.new.self.recovery_log.faults c.in-Err.ensures.cause)

pub returns-in-Err-clause-want : goal.returns-in-Err-clause-want
returns-in-Err-clause-want g c is =
    mark_want c.args.state.now c.mark.new.self c.in-Err.ensures.same c.args.name.now c.in-Err.error c.in-Err.ensures.core (sym c.refused.ensures ∙ is)
