use Rattle.std.proofs.Common.{sym}
use Rattle.cj_calls.proofs.Cited.{own_entry, told_after, told_why}
use Rattle.cj_calls.proofs.write.schedule_for.Goals as goal

pub returns-in-Err-clause-scheduled : goal.returns-in-Err-clause-scheduled
returns-in-Err-clause-scheduled g c =
    rw (c.unwrap_or.ensures, c.refusal.ensures, c.of_code-in-Err.ensures)
    (told_why c.args.state.now.core (own_entry c.args.state.now.core c.args.s c.args.tx c.args.user.now c.args.act) c.in-Ok.entry c.in-Ok.ensures.is c.in-Err.error c.in-Err.ensures.scheduled)

pub returns-in-Err-clause-err : goal.returns-in-Err-clause-err
returns-in-Err-clause-err g c =
    rw (c.unwrap_or.ensures, c.refusal.ensures, c.of_code-in-Err.ensures, sym c.in-Ok.ensures.is)
    (told_after c.args.state.now c.schedule_entry.new.self c.args.s c.in-Ok.entry c.in-Err.ensures.same c.in-Err.ensures.cache c.in-Err.error c.in-Err.ensures.core c.in-Err.ensures.cause)
