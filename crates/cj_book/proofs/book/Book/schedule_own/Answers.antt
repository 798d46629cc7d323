use Rattle.std.proofs.Common.{◌≤◌, ◌+◌, List, Option, length, ap, sym, ◌∙◌, subst}
use mathlib.Core.List.{IsPrefix}
use Rattle.cj_cluster.proofs.Pushed.{prefix_trans}
use Rattle.cj_book.proofs.Cited.{BookState, Event, LogFailed, LogFollows, Sched, SeatView, entry_followed, event_count_of, event_or_fault, finished_longer, log, none_came, pass_view, scheduled, told_book, told_pass, unbegun}
use Rattle.cj_book.proofs.Common.{IsFitEntry, placement_at}
use Rattle.cj_book.specs.Books.{IsPrepared}
use Rattle.cj_book.specs.Events.{entry_finished, finished_as}
use Rattle.cj_book.specs.Seated.{own_book_after, own_pass_after}
use Rattle.cj_book.proofs.book.Book.schedule_own.Goals as goal

-- ---- refused before the log was asked

pub returns-in_err-begun-clause-state : goal.returns-in_err-begun-clause-state
returns-in_err-begun-clause-state g c =
    let s = g.S.Store in
    rw c.in_err-begun.ensures.state
    (unbegun s.tells s.faults s.moment s.since s.may c.args.self.now.state c.args.recovery_log.now.log c.legal.ensures.now c.args.e c.from_residual.result c.in_err-begun.field-0.0 c.from_residual.ensures.1 c.in_err-begun.ensures.begins)

pub returns-in_err-begun-clause-seat : goal.returns-in_err-begun-clause-seat
returns-in_err-begun-clause-seat g c =
    let v = c.args.self.now.view in
    let w = pass_view c.args.p.now in
    let none = none_came c.from_residual.result c.in_err-begun.field-0.0 (Sched c.args.e) (LogFailed c.args.e.session c.args.e.seq) c.from_residual.ensures.1 c.in_err-begun.ensures.begins.unfaulted in
    c.in_err-begun.ensures.seat ∙ ap (λ (o : Option Event). own_book_after o (told_book v w) (told_pass v w)) (sym none)

pub returns-in_err-begun-clause-pass : goal.returns-in_err-begun-clause-pass
returns-in_err-begun-clause-pass g c =
    let v = c.args.self.now.view in
    let w = pass_view c.args.p.now in
    let none = none_came c.from_residual.result c.in_err-begun.field-0.0 (Sched c.args.e) (LogFailed c.args.e.session c.args.e.seq) c.from_residual.ensures.1 c.in_err-begun.ensures.begins.unfaulted in
    c.in_err-begun.ensures.pass ∙ ap (λ (o : Option Event). own_pass_after o (told_book v w) (told_pass v w)) (sym none)

pub returns-in_err-begun-clause-counted : goal.returns-in_err-begun-clause-counted
returns-in_err-begun-clause-counted g c = subst (λ (b : BookState). event_count_of c.args.e.session b.history ≤ (pass_view c.begin_own.new.p).count) (sym c.in_err-begun.ensures.state) c.in_err-begun.ensures.counted

-- ---- the log was asked

pub finish_told-requires-clause-fit : goal.finish_told-requires-clause-fit
finish_told-requires-clause-fit g c =
    let same = c.in_ok-begun.ensures in
    subst (λ (b : BookState). IsFitEntry (log b.history) c.args.e) (sym same.state) (c.requires.fit same.begins.ready.is_free)

pub finish_told-requires-clause-prepared : goal.finish_told-requires-clause-prepared
finish_told-requires-clause-prepared g c = subst (λ (b : BookState). IsPrepared (placement_at b) (log b.history) c.args.e c.in_ok-begun.begun.prepared) (sym c.in_ok-begun.ensures.state) c.in_ok-begun.ensures.prepared

pub returns-clause-state : goal.returns-clause-state
returns-clause-state g c =
    let s = g.S.Store in
    let a = c.append-appended.ensures in
    let same = c.in_ok-begun.ensures.state in
    let appended = c.append-appended.result in
    scheduled s.tells s.faults s.moment s.since s.may c.args.self.now.state c.args.recovery_log.now.log c.append-appended.new.self.log c.requires.follows.logged c.args.e c.in_ok-begun.ensures.begins.ready c.in_ok-begun.begun.item appended c.finish_told.result c.finish_told.new.self.state
    c.in_ok-begun.ensures.item.0 a.items a.cause a.memory a.any_moment a.refused a.safe (c.finish_told.ensures.answer ∙ ap (λ (b : BookState). finished_as appended (length (log b.history) + 1)) same) (c.finish_told.ensures.state ∙ ap (λ (b : BookState). entry_finished b c.args.e appended) same)

pub returns-clause-follows : goal.returns-clause-follows
returns-clause-follows g c =
    let s = g.S.Store in
    let a = c.append-appended.ensures in
    let old = c.args.self.now.state in
    let e = c.args.e in
    let appended = c.append-appended.result in
    let state = c.finish_told.ensures.state ∙ ap (λ (b : BookState). entry_finished b e appended) c.in_ok-begun.ensures.state in
    subst (λ (b : BookState). LogFollows s.tells s.faults c.append-appended.new.self b.history) (sym state)
    (entry_followed s.tells s.faults c.append-appended.new.self old e appended (a.follows_entry old.history e c.requires.follows c.in_ok-begun.ensures.item.0) (a.follows_fault old.history e.session e.seq c.requires.follows) (a.follows_want old.history c.requires.follows))

pub returns-clause-seat : goal.returns-clause-seat
returns-clause-seat g c =
    let i = c.in_ok-begun.ensures in
    let o = event_or_fault (Sched c.args.e) (LogFailed c.args.e.session c.args.e.seq) c.finish_told.result in
    c.finish_told.ensures.seat ∙ ap (λ (x : SeatView × SeatView). own_book_after o x.0 x.1) (λ k. (i.seat k, i.pass k))

pub returns-clause-pass : goal.returns-clause-pass
returns-clause-pass g c =
    let i = c.in_ok-begun.ensures in
    let o = event_or_fault (Sched c.args.e) (LogFailed c.args.e.session c.args.e.seq) c.finish_told.result in
    c.finish_told.ensures.pass ∙ ap (λ (x : SeatView × SeatView). own_pass_after o x.0 x.1) (λ k. (i.seat k, i.pass k))

pub returns-clause-seen : goal.returns-clause-seen
returns-clause-seen g c =
    let before = c.in_ok-begun.ensures.seen in
    let state = c.finish_told.ensures.state ∙ ap (λ (b : BookState). entry_finished b c.args.e c.append-appended.result) c.in_ok-begun.ensures.state in
    let longer = finished_longer c.args.self.now.state c.args.e c.append-appended.result c.finish_told.new.self.state state in
    (before, prefix_trans _ _ _ before (subst (λ (h : List Event). IsPrefix c.args.self.now.state.history h) (sym c.finish_told.ensures.told) longer))
