use Rattle.std.proofs.Common.{◌≡◌, ◌≤◌, ◌+◌, List, arith, ap, sym, ◌∙◌, subst, length}
use mathlib.Core.List.{IsPrefix}
use Rattle.cj_cluster.proofs.Pushed.{prefix_trans}
use Rattle.cj_book.proofs.Cited.{BookState, Event, LogFailed, Sched, SeatView, after_join, event_or_fault, finished_longer, given_low, log, pass_view, pass_without_tokens, told_pass}
use Rattle.cj_book.proofs.Common.{IsFitEntry, placement_at}
use Rattle.cj_book.specs.Books.{IsPrepared}
use Rattle.cj_book.specs.Events.{entry_finished, finished_as}
use Rattle.cj_book.specs.Seated.{own_book_after, own_pass_after}
use Rattle.cj_book.proofs.book.Book.finish_own.Goals as goal

pub finish_told-requires-clause-told : goal.finish_told-requires-clause-told
finish_told-requires-clause-told c = c.tell.ensures.told ∙ sym (ap (λ (b : BookState). b.history) c.tell.ensures.state)

pub finish_told-requires-clause-given : goal.finish_told-requires-clause-given
finish_told-requires-clause-given c =
    let low = given_low c.args.self.now.state.greatest c.args.self.now.view c.requires.gives in
    let given = c.tell.ensures.given in
    let own = c.requires.own.0 in
    let le : c.args.e.session ≤ c.args.self.now.state.greatest = omega (arith, own, given, low) in
    subst (λ n. c.args.e.session ≤ n) (sym (ap (λ (b : BookState). b.greatest) c.tell.ensures.state)) le

pub finish_told-requires-clause-fit : goal.finish_told-requires-clause-fit
finish_told-requires-clause-fit c = subst (λ (b : BookState). IsFitEntry (log b.history) c.args.e) (sym c.tell.ensures.state) c.requires.fit

pub finish_told-requires-clause-prepared : goal.finish_told-requires-clause-prepared
finish_told-requires-clause-prepared c = subst (λ (b : BookState). IsPrepared (placement_at b) (log b.history) c.args.e c.args.prepared) (sym c.tell.ensures.state) c.requires.prepared

pub returns-clause-answer : goal.returns-clause-answer
returns-clause-answer c = c.finish_told.ensures.answer ∙ ap (λ (b : BookState). finished_as c.args.appended (length (log b.history) + 1)) c.tell.ensures.state

pub returns-clause-state : goal.returns-clause-state
returns-clause-state c = c.finish_told.ensures.state ∙ ap (λ (b : BookState). entry_finished b c.args.e c.args.appended) c.tell.ensures.state

pub returns-clause-seat : goal.returns-clause-seat
returns-clause-seat c =
    let v = c.args.self.now.view in
    let w = pass_view c.args.p.now in
    let o = event_or_fault (Sched c.args.e) (LogFailed c.args.e.session c.args.e.seq) c.finish_told.result in
    let pass : pass_view c.tell.new.p ≡ told_pass v w = c.tell.ensures.pass ∙ ap (λ (z : SeatView). after_join w (pass_without_tokens z)) c.tell.ensures.book in
    c.finish_told.ensures.seat ∙ ap (λ (x : SeatView × SeatView). own_book_after o x.0 x.1) (λ i. (c.tell.ensures.book i, pass i))

pub returns-clause-pass : goal.returns-clause-pass
returns-clause-pass c =
    let v = c.args.self.now.view in
    let w = pass_view c.args.p.now in
    let o = event_or_fault (Sched c.args.e) (LogFailed c.args.e.session c.args.e.seq) c.finish_told.result in
    let pass : pass_view c.tell.new.p ≡ told_pass v w = c.tell.ensures.pass ∙ ap (λ (z : SeatView). after_join w (pass_without_tokens z)) c.tell.ensures.book in
    c.finish_told.ensures.pass ∙ ap (λ (x : SeatView × SeatView). own_pass_after o x.0 x.1) (λ i. (c.tell.ensures.book i, pass i))

pub returns-clause-seen : goal.returns-clause-seen
returns-clause-seen c =
    let before : IsPrefix (pass_view c.args.p.now).front c.args.self.now.state.history = subst (λ (h : List Event). IsPrefix (pass_view c.args.p.now).front h) c.tell.ensures.told c.tell.ensures.longer in
    let longer = finished_longer c.args.self.now.state c.args.e c.args.appended c.finish_told.new.self.state (returns-clause-state c) in
    (before, prefix_trans _ _ _ before (subst (λ (h : List Event). IsPrefix c.args.self.now.state.history h) (sym c.finish_told.ensures.told) longer))
