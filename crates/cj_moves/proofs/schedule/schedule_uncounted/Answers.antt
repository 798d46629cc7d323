use Rattle.std.proofs.Common.{◌≡◌, None, Option, Err, rules, subst, sym, ◌∙◌}
use Rattle.cj_moves.proofs.Cited.{Refusal, SchedulesUncounted, can_count, forbidden_by, gives_entry, gives_refusal, answers_log_fault, log_faults_after, open_tx, refusal_causes, refusal_want, schedule_given}
use Rattle.cj_moves.proofs.schedule.schedule_uncounted.Goals as goal

pub returns-in-Ok-schedule_entry-clause-moves : goal.returns-in-Ok-schedule_entry-clause-moves
returns-in-Ok-schedule_entry-clause-moves g c =
    let old = c.args.state.now.core in
    let allowed : forbidden_by (open_tx old c.args.s) c.act_of-act.result ≡ None = search rules in
    gives_entry old c.args.s c.args.request c.act_of-act.result c.act_of-act.ensures.act c.in-Ok.entry c.in-Ok.ensures.next allowed c.in-Ok-schedule_entry.number c.schedule_entry.new.self.core
    c.in-Ok-schedule_entry.ensures.scheduled c.in-Ok-schedule_entry.ensures.core

pub returns-in-Err-clause-moves : goal.returns-in-Err-clause-moves
returns-in-Err-clause-moves g c =
    let old = c.args.state.now.core in
    let allowed : forbidden_by (open_tx old c.args.s) c.act_of-act.result ≡ None = search rules in
    let can = can_count old c.args.s c.args.request c.requires.now c.requires.counts in
    subst (λ (o : Option Refusal). SchedulesUncounted old c.args.s c.args.request (Err o) c.schedule_entry.new.self.core) (sym c.refusal.ensures)
    (gives_refusal old c.args.s c.args.request c.act_of-act.result c.act_of-act.ensures.act c.in-Ok.entry c.in-Ok.ensures.next allowed c.in-Err.error c.schedule_entry.new.self.core c.requires.now can
    c.in-Err.ensures.scheduled c.in-Err.ensures.core)

pub returns-in-Err-clause-log_causes : goal.returns-in-Err-clause-log_causes
returns-in-Err-clause-log_causes g c =
    let before = c.args.state.now.recovery_log.faults in
    let now = c.schedule_entry.new.self.recovery_log.faults in
    subst (λ (o : Option Refusal). now ≡ log_faults_after before (answers_log_fault (schedule_given (Err o)))) (sym c.refusal.ensures) (refusal_causes c.in-Err.error before now c.in-Err.ensures.cause)

pub returns-in-Err-clause-want : goal.returns-in-Err-clause-want
returns-in-Err-clause-want g c none =
    refusal_want c.args.state.now c.schedule_entry.new.self c.in-Err.ensures.same c.in-Err.ensures.cache c.args.s c.in-Ok.entry c.in-Err.error c.in-Err.ensures.core (sym c.refusal.ensures ∙ cc none)
