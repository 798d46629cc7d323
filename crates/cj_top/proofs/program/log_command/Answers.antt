use Rattle.cj_top.proofs.Cited.{counted_at}
use Rattle.cj_top.proofs.program.log_command.Goals as goal

pub returns-in-Err-clause-log : goal.returns-in-Err-clause-log
returns-in-Err-clause-log g c =
    let s = g.S.Store in
    counted_at s.faults s.held s.tells c.args.log c.in-Err.log c.in-Err.error c.stop_at_log.result c.stop_at_log.ensures.status c.in-Err.ensures.refused
