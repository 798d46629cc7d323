use Rattle.std.proofs.Common.{◌≡◌, ℕ, ◌+◌, false, length, ap, sym, ◌∙◌, subst}
use Rattle.cj_book.proofs.Cited.{BookState, HasCountNotes, LogFailed, LogFollows, Marker, SeatView, came_gives, event_or_fault, log, mark_sessions, marker_followed, marks, marks_greatest, next_session, unmarked}
use Rattle.cj_cluster.specs.History.Histories.{has_marker}
use Rattle.cj_book.specs.Events.{finished_as, marker_finished}
use Rattle.cj_book.specs.Seated.{view_after}
use Rattle.cj_book.proofs.book.Book.mark.Goals as goal

-- the book is where it was
pub finish_marker-requires-clause-fresh : goal.finish_marker-requires-clause-fresh
finish_marker-requires-clause-fresh g c = subst (λ (b : BookState). has_marker b.history c.args.name.now ≡ false) (sym c.in_ok-item.ensures.state) c.requires.fresh

pub finish_marker-requires-clause-counted : goal.finish_marker-requires-clause-counted
finish_marker-requires-clause-counted g c =
    let same = c.in_ok-item.ensures in
    subst (λ (x : BookState × SeatView). HasCountNotes x.1.given x.0.history x.1.count_notes (LogFailed 0 0)) (λ i. (sym same.state i, sym same.seat.1 i)) c.requires.counted

pub returns-in_err-item-clause-state : goal.returns-in_err-item-clause-state
returns-in_err-item-clause-state g c =
    let s = g.S.Store in
    rw c.in_err-item.ensures.state
    (unmarked s.tells s.faults s.moment s.since s.may c.args.self.now.state c.args.recovery_log.now.log c.legal.ensures.now c.args.name.now c.args.b c.from_residual.result c.in_err-item.field-0.0 c.from_residual.ensures.1 c.in_err-item.ensures.begins)

pub returns-clause-state : goal.returns-clause-state
returns-clause-state g c =
    let s = g.S.Store in
    let a = c.append-appended.ensures in
    let same = c.in_ok-item.ensures.state in
    let appended = c.append-appended.result in
    marks s.tells s.faults s.moment s.since s.may c.args.self.now.state c.args.recovery_log.now.log c.append-appended.new.self.log c.requires.follows.logged c.args.name.now c.args.b c.in_ok-item.ensures.begins.space c.in_ok-item.item appended c.finish_marker.result c.finish_marker.new.self.state
    c.in_ok-item.ensures.item.0 a.items a.cause a.memory a.any_moment a.refused a.safe (c.finish_marker.ensures.answer ∙ ap (λ (b : BookState). finished_as appended (length (log b.history))) same) (c.finish_marker.ensures.state ∙ ap (λ (b : BookState). marker_finished b c.args.name.now c.args.b appended) same)

pub returns-clause-follows : goal.returns-clause-follows
returns-clause-follows g c =
    let s = g.S.Store in
    let a = c.append-appended.ensures in
    let old = c.args.self.now.state in
    let name = c.args.name.now in
    let appended = c.append-appended.result in
    let state = c.finish_marker.ensures.state ∙ ap (λ (b : BookState). marker_finished b name c.args.b appended) c.in_ok-item.ensures.state in
    subst (λ (b : BookState). LogFollows s.tells s.faults c.append-appended.new.self b.history) (sym state)
    (marker_followed s.tells s.faults c.append-appended.new.self old name c.args.b appended (a.follows_marker old.history name c.args.b c.requires.follows c.in_ok-item.ensures.item.0) (a.follows_fault old.history 0 0 c.requires.follows) (a.follows_want old.history c.requires.follows))

pub returns-clause-still_gives : goal.returns-clause-still_gives
returns-clause-still_gives g c = λ gives.
    let old = c.args.self.now in
    let i = returns-clause-state g c in
    let same = marks_greatest old.state c.args.name.now c.args.b c.finish_marker.result c.finish_marker.new.self.state i.ok i.log_fault i.same in
    let o = event_or_fault (Marker c.args.name.now c.args.b) (LogFailed 0 0) c.finish_marker.result in
    let seat = c.finish_marker.ensures.seat ∙ ap (view_after o) c.in_ok-item.ensures.seat.1 in
    let next = came_gives old.state.greatest old.view o (mark_sessions old.state.greatest c.args.name.now c.args.b c.finish_marker.result) gives in
    subst (λ (x : ℕ × SeatView). x.0 + 1 ≡ next_session x.1) (λ k. (sym same k, sym seat k)) next
