use Rattle.std.proofs.Common.{◌≡◌, ℕ, ◌+◌, length, ap, sym, ◌∙◌, subst}
use Rattle.cj_book.proofs.Cited.{BookState, HasCountNotes, LogFailed, LogFollows, Sched, SeatView, came_gives, entry_followed, event_or_fault, finished_greatest, log, low_sessions, next_session, scheduled, unbegun}
use Rattle.cj_book.proofs.Common.{IsFitEntry, IsOfGiven, placement_at}
use Rattle.cj_book.specs.Books.{IsPrepared}
use Rattle.cj_book.specs.Events.{entry_finished, finished_as}
use Rattle.cj_book.specs.Seated.{view_after}
use Rattle.cj_book.proofs.book.Book.schedule.Goals as goal

pub begin_entry-requires-clause-given : goal.begin_entry-requires-clause-given
begin_entry-requires-clause-given g c = c.legal.ensures.known c.args.e c.requires.known

-- the book is where it was
pub finish_entry-requires-clause-fit : goal.finish_entry-requires-clause-fit
finish_entry-requires-clause-fit g c =
    let same = c.in_ok-begun.ensures in
    subst (λ (b : BookState). IsFitEntry (log b.history) c.args.e) (sym same.state) (c.requires.fit same.begins.ready.is_free)

pub finish_entry-requires-clause-given : goal.finish_entry-requires-clause-given
finish_entry-requires-clause-given g c = subst (λ (b : BookState). IsOfGiven b c.args.e) (sym c.in_ok-begun.ensures.state) (c.legal.ensures.known c.args.e c.requires.known)

pub finish_entry-requires-clause-prepared : goal.finish_entry-requires-clause-prepared
finish_entry-requires-clause-prepared g c = subst (λ (b : BookState). IsPrepared (placement_at b) (log b.history) c.args.e c.in_ok-begun.begun.prepared) (sym c.in_ok-begun.ensures.state) c.in_ok-begun.ensures.prepared

pub finish_entry-requires-clause-counted : goal.finish_entry-requires-clause-counted
finish_entry-requires-clause-counted g c =
    let e = c.args.e in
    let same = c.in_ok-begun.ensures in
    subst (λ (x : BookState × SeatView). HasCountNotes x.1.given x.0.history x.1.count_notes (Sched e) × HasCountNotes x.1.given x.0.history x.1.count_notes (LogFailed e.session e.seq))
    (λ i. (sym same.state i, sym same.seat.1 i)) c.requires.counted

pub returns-in_err-begun-clause-state : goal.returns-in_err-begun-clause-state
returns-in_err-begun-clause-state g c =
    let s = g.S.Store in
    rw c.in_err-begun.ensures.state
    (unbegun s.tells s.faults s.moment s.since s.may c.args.self.now.state c.args.recovery_log.now.log c.legal-2.ensures.now c.args.e c.from_residual.result c.in_err-begun.field-0.0 c.from_residual.ensures.1 c.in_err-begun.ensures.begins)

pub returns-clause-state : goal.returns-clause-state
returns-clause-state g c =
    let s = g.S.Store in
    let a = c.append-appended.ensures in
    let same = c.in_ok-begun.ensures.state in
    let appended = c.append-appended.result in
    scheduled s.tells s.faults s.moment s.since s.may c.args.self.now.state c.args.recovery_log.now.log c.append-appended.new.self.log c.requires.follows.logged c.args.e c.in_ok-begun.ensures.begins.ready c.in_ok-begun.begun.item appended c.finish_entry.result c.finish_entry.new.self.state
    c.in_ok-begun.ensures.item.0 a.items a.cause a.memory a.any_moment a.refused a.safe (c.finish_entry.ensures.answer ∙ ap (λ (b : BookState). finished_as appended (length (log b.history) + 1)) same) (c.finish_entry.ensures.state ∙ ap (λ (b : BookState). entry_finished b c.args.e appended) same)

pub returns-clause-follows : goal.returns-clause-follows
returns-clause-follows g c =
    let s = g.S.Store in
    let a = c.append-appended.ensures in
    let old = c.args.self.now.state in
    let e = c.args.e in
    let appended = c.append-appended.result in
    let state = c.finish_entry.ensures.state ∙ ap (λ (b : BookState). entry_finished b e appended) c.in_ok-begun.ensures.state in
    subst (λ (b : BookState). LogFollows s.tells s.faults c.append-appended.new.self b.history) (sym state)
    (entry_followed s.tells s.faults c.append-appended.new.self old e appended (a.follows_entry old.history e c.requires.follows c.in_ok-begun.ensures.item.0) (a.follows_fault old.history e.session e.seq c.requires.follows) (a.follows_want old.history c.requires.follows))

pub returns-clause-still_gives : goal.returns-clause-still_gives
returns-clause-still_gives g c = λ gives.
    let e = c.args.e in
    let old = c.args.self.now in
    let state = c.finish_entry.ensures.state ∙ ap (λ (b : BookState). entry_finished b e c.append-appended.result) c.in_ok-begun.ensures.state in
    let same = finished_greatest old.state e c.append-appended.result c.finish_entry.new.self.state state in
    let o = event_or_fault (Sched e) (LogFailed e.session e.seq) c.finish_entry.result in
    let seat : c.finish_entry.new.self.view ≡ view_after o old.view = c.finish_entry.ensures.seat ∙ ap (view_after o) c.in_ok-begun.ensures.seat.1 in
    let next = came_gives old.state.greatest old.view o (low_sessions old.state.greatest e c.finish_entry.result (c.legal.ensures.given e c.requires.known)) gives in
    subst (λ (x : ℕ × SeatView). x.0 + 1 ≡ next_session x.1) (λ k. (sym same k, sym seat k)) next
