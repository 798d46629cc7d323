use Rattle.std.proofs.Common.{◌≡◌, arith, inr, Ok, Err, true, ap, sym, ◌∙◌, subst, refl, Some}
use Rattle.cj_state.proofs.Cited.{Entry, FollowsLog, IsFitEntry, LogFailed, Sched, SchedulesAs, WorldState, abort_entry, board_id, counted, dumps_entry, event_or_fault, follows_scheduled, follows_unscheduled, fresh_entry, is_orphan, kept_aborted, kept_unscheduled, log, not_scheduled, orphan_is, pass_board, placement_of, quiet_or_fault, scheduled_as, seats_after, seats_cleared, states_of, BookState, LogFollows}
use Rattle.cj_state.proofs.state.State.schedule_abort.Goals as goal

pub schedule-requires-clause-known : goal.schedule-requires-clause-known
schedule-requires-clause-known g c =
    let w = c.self.inside in
    let orphan = subst (λ (x : WorldState). is_orphan x.core c.args.entry.tx ≡ true) (sym c.self.view_is) c.requires.orphan in
    inr (ap (λ (e : Entry). e.session) c.requires.is, orphan_is w.book.state (states_of w.cells.items) w.tally.failed w.tally.starved w.sessions w.dumps c.self.invariant.0.numbers_are c.args.entry.tx ∙ orphan)

pub invariant_of-self : goal.invariant_of-self
invariant_of-self g c =
    let w = c.self.inside in
    let orphan = subst (λ (x : WorldState). is_orphan x.core c.args.entry.tx ≡ true) (sym c.self.view_is) c.requires.orphan in
    let is = subst (λ (x : WorldState). c.args.entry ≡ abort_entry x.core c.args.entry.tx) (sym c.self.view_is) c.requires.is in
    let fits = subst (λ (x : WorldState). IsFitEntry (log x.core.history) c.args.entry) (sym c.self.view_is) c.requires.fits in
    let ready = c.in-Ok.ensures.state.ready in
    rw (c.in-Ok.ensures.state.ok, c.new-self-inside.ensures)
    (kept_aborted g.B.Backend.tells w.accounts w.book.state.layout w.book.state.history (states_of w.cells.items) w.tally.failed w.tally.starved w.sessions w.book.state.greatest w.dumps w.book.state.sessions w.tally c.self.invariant.0 c.args.entry orphan is ready.is_free fits ready.space ready.served, fresh_entry w.book.state.history w.book.state.cache g.B.Backend.tells c.args.entry c.self.invariant.1, dumps_entry g.B.Backend.tells (placement_of w.book.state.layout) w.book.state.history w.dumps c.self.invariant.2 c.args.entry, seats_cleared (board_id w.board) (pass_board w.pass) w.book c.schedule.new.self w.cells.items w.tally.failed c.self.invariant.3.0 c.self.invariant.3.1 (Some (Sched c.args.entry)) c.in-Ok.ensures.board c.in-Ok.ensures.seat, (subst (λ (k : BookState). LogFollows g.S.Store.tells g.S.Store.faults c.schedule.new.recovery_log k.history) c.in-Ok.ensures.state.ok c.schedule.ensures.follows, c.schedule.ensures.pending ∙ c.self.invariant.4.1))

pub returns-in-Ok-clause-scheduled : goal.returns-in-Ok-clause-scheduled
returns-in-Ok-clause-scheduled g c =
    let w = c.self.inside in
    subst (λ (x : WorldState). SchedulesAs x.core c.args.entry (Ok c.in-Ok.number)) c.self.view_is (scheduled_as c.in-Ok.ensures.state (states_of w.cells.items) w.tally.failed w.tally.starved w.sessions w.dumps c.in-Ok.number refl)

pub returns-in-Err-clause-scheduled : goal.returns-in-Err-clause-scheduled
returns-in-Err-clause-scheduled g c =
    let w = c.self.inside in
    subst (λ (x : WorldState). SchedulesAs x.core c.args.entry (Err c.in-Err.error)) c.self.view_is
    (not_scheduled c.schedule.ensures.state (states_of w.cells.items) w.tally.failed w.tally.starved w.sessions w.dumps c.in-Err.error c.in-Err.is)

pub invariant_of-self-in-Err : goal.invariant_of-self-in-Err
invariant_of-self-in-Err g c =
    let w = c.self.inside in
    let e = c.args.entry in
    let session : e.session ≡ 0 = ap (λ (d : Entry). d.session) c.requires.is in
    let q = kept_unscheduled c.schedule.ensures.state w.accounts (states_of w.cells.items) w.tally.failed w.tally.starved w.sessions w.dumps w.tally g.B.Backend.tells c.in-Err.error c.in-Err.is
    (c.self.invariant.0, c.self.invariant.1, c.self.invariant.2) (omega arith) (λ some. absurd (omega (arith, some))) in
    (q.0, q.1, q.2, seats_after (board_id w.board) (pass_board w.pass) w.book c.schedule.new.self w.cells.items w.tally.failed c.self.invariant.3.0 c.self.invariant.3.1 (event_or_fault (Sched e) (LogFailed e.session e.seq) c.schedule.result) (quiet_or_fault (Sched e) (LogFailed e.session e.seq) c.schedule.result (λ b. refl) (λ b. refl)) c.schedule.ensures.board c.schedule.ensures.seat, (c.schedule.ensures.follows, c.schedule.ensures.pending ∙ c.self.invariant.4.1))

pub schedule-requires-clause-counted : goal.schedule-requires-clause-counted
schedule-requires-clause-counted g c =
    let e = c.args.entry in
    (counted c.self.inside.book (Sched e) c.self.invariant.3.1.unowned, counted c.self.inside.book (LogFailed e.session e.seq) c.self.invariant.3.1.unowned)

pub returns-in-Ok-clause-cache : goal.returns-in-Ok-clause-cache
returns-in-Ok-clause-cache g c =
    subst (λ (x : WorldState). FollowsLog (log x.core.history) (log c.schedule.new.self.state.history) x.cache c.schedule.new.self.state.cache) c.self.view_is (follows_scheduled c.in-Ok.ensures.state c.in-Ok.number refl)

pub returns-in-Err-clause-cache : goal.returns-in-Err-clause-cache
returns-in-Err-clause-cache g c =
    subst (λ (x : WorldState). FollowsLog (log x.core.history) (log c.schedule.new.self.state.history) x.cache c.schedule.new.self.state.cache) c.self.view_is (follows_unscheduled c.schedule.ensures.state c.in-Err.error c.in-Err.is)
