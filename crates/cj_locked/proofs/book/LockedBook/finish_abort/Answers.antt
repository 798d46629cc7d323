use Rattle.std.proofs.Common.{◌≡◌, ℕ, true, List, ap, sym, ◌∙◌, subst}
use mathlib.Core.List.{IsPrefix}
use Rattle.cj_model.specs.Cluster.Masks.{in_mask}
use Rattle.cj_cluster.specs.declared.event.Event.{Event}
use Rattle.cj_cluster.specs.History.Histories.{is_enabled}
use Rattle.cj_board.specs.Seats.{front, pass_view}
use Rattle.cj_place.specs.Layouts.{placement_of}
use Rattle.cj_book.specs.Books.{is_orphan, BookState}
use Rattle.cj_locked.specs.Orphans.{RefusesAppendedSince, SchedulesAbortSince}
use Rattle.cj_locked.specs.Writing.{HoldsEntry}
use Rattle.cj_locked.proofs.Beginning.{err_weaker, ok_weaker}
use Rattle.cj_locked.proofs.Finishing.{appended_on}
use Rattle.cj_locked.proofs.Orphans.{abort_scheduled_earlier, abort_unfinished_earlier}
use Rattle.cj_pass.proofs.Passes.{noted_then}
use Rattle.cj_locked.proofs.book.LockedBook.finish_abort.Goals as goal

pub finish_orphan-finished-requires-clause-orphan : goal.finish_orphan-finished-requires-clause-orphan
finish_orphan-finished-requires-clause-orphan g c = subst (λ (b : BookState). is_orphan b c.args.e.tx ≡ true) (sym c.tell.ensures.state) c.requires.orphan

pub finish_orphan-finished-requires-clause-holds : goal.finish_orphan-finished-requires-clause-holds
finish_orphan-finished-requires-clause-holds g c =
    let same : front c.tell.new.pass.seat ≡ c.tell.new.self.book.state.history = c.tell.ensures.told ∙ ap (λ (x : BookState). x.history) (sym c.tell.ensures.state) in
    appended_on g.S.Store.tells g.S.Store.faults (placement_of g.J.Naming.layout) (front c.args.pass.now.seat) c.tell.new.self.book.state.history c.args.e c.args.prepared c.args.turn.share.amount c.args.turn.log c.args.appended
    (subst (IsPrefix (front c.args.pass.now.seat)) same c.tell.ensures.more.seen.front) c.requires.holds

pub returns-clause-ok : goal.returns-clause-ok
returns-clause-ok g c =
    let t = g.S.Store.tells in
    let n = g.S.Store.faults in
    let p = placement_of g.J.Naming.layout in
    ok_weaker (λ x. HoldsEntry t n p c.finish_orphan-finished.new.self.book.state.history x.number x.enabled c.args.e x.turn.share.amount x.turn.log) (λ x. HoldsEntry t n p (front c.tell-2.new.pass.seat) x.number x.enabled c.args.e x.turn.share.amount x.turn.log)
    (λ x holds. subst (λ (h : List Event). HoldsEntry t n p h x.number x.enabled c.args.e x.turn.share.amount x.turn.log) (sym c.tell-2.ensures.told) holds) c.finish_orphan-finished.result c.finish_orphan-finished.ensures.ok

pub returns-clause-since : goal.returns-clause-since
returns-clause-since g c =
    let p = placement_of g.J.Naming.layout in
    let F = front c.args.pass.now.seat in
    let H = c.tell.new.self.book.state.history in
    let same : front c.tell.new.pass.seat ≡ H = c.tell.ensures.told ∙ ap (λ (x : BookState). x.history) (sym c.tell.ensures.state) in
    let longer : IsPrefix F H = subst (IsPrefix F) same c.tell.ensures.more.seen.front in
    ok_weaker (λ x. SchedulesAbortSince p H c.finish_orphan-finished.new.self.book.state.history x.number c.args.e) (λ x. SchedulesAbortSince p F (front c.tell-2.new.pass.seat) x.number c.args.e)
    (λ x since. subst (λ (h : List Event). SchedulesAbortSince p F h x.number c.args.e) (sym c.tell-2.ensures.told) (abort_scheduled_earlier p F H c.finish_orphan-finished.new.self.book.state.history x.number c.args.e longer since))
    c.finish_orphan-finished.result c.finish_orphan-finished.ensures.since

pub returns-clause-enabled : goal.returns-clause-enabled
returns-clause-enabled g c =
    ok_weaker (λ x. (b : ℕ) → in_mask x.enabled b ≡ is_enabled c.finish_orphan-finished.new.self.book.state.history b) (λ x. (b : ℕ) → in_mask x.enabled b ≡ is_enabled (front c.tell-2.new.pass.seat) b)
    (λ x each b. each b ∙ ap (λ (h : List Event). is_enabled h b) (sym c.tell-2.ensures.told)) c.finish_orphan-finished.result c.finish_orphan-finished.ensures.enabled

pub returns-clause-err : goal.returns-clause-err
returns-clause-err g c =
    let F = front c.args.pass.now.seat in
    let H = c.tell.new.self.book.state.history in
    let same : front c.tell.new.pass.seat ≡ H = c.tell.ensures.told ∙ ap (λ (x : BookState). x.history) (sym c.tell.ensures.state) in
    let longer : IsPrefix F H = subst (IsPrefix F) same c.tell.ensures.more.seen.front in
    err_weaker (RefusesAppendedSince H c.finish_orphan-finished.new.self.book.state.history) (RefusesAppendedSince F (front c.tell-2.new.pass.seat))
    (λ x since. subst (λ (h : List Event). RefusesAppendedSince F h x) (sym c.tell-2.ensures.told) (abort_unfinished_earlier F H c.finish_orphan-finished.new.self.book.state.history x longer since))
    c.finish_orphan-finished.result c.finish_orphan-finished.ensures.err

pub returns-clause-more : goal.returns-clause-more
returns-clause-more g c = noted_then (pass_view c.args.pass.now.seat) (pass_view c.tell.new.pass.seat) (pass_view c.tell-2.new.pass.seat) c.tell.ensures.more c.tell-2.ensures.more
