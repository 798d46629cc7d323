use Rattle.std.proofs.Common.{rules, ◌≡◌, ◌+◌, List, Some, ap, sym, ◌∙◌, subst}
use Rattle.cj_cluster.specs.declared.event.Event.{Event}
use Rattle.cj_cluster.specs.History.Histories.{log}
use Rattle.cj_cluster.specs.History.Legality.{IsFitEntry}
use Rattle.cj_board.specs.Seats.{front, pass_view}
use Rattle.cj_board.specs.Views.{pass_without_tokens}
use Rattle.cj_place.specs.Layouts.{placement_of}
use Rattle.cj_book.specs.BookLogs.{BookLogState, LogFollows}
use Rattle.cj_book.specs.Books.{placement_at, BookState}
use Rattle.cj_book.specs.declared.pending.Pending.TheVariants as pending
use Rattle.cj_locked.specs.Locked.{IsVacant}
use Rattle.cj_locked.specs.Turns.{turn_amount}
use Rattle.cj_locked.proofs.Beginning.{amount_begun, begins_now, refuses_now}
use Rattle.cj_locked.proofs.Noting.{keeps_learning, still_noted}
use Rattle.cj_locked.proofs.Holding.{taken_vacant}
use Rattle.cj_locked.proofs.book.LockedBook.begin_told.Goals as goal

pub invariant_of-self : goal.invariant_of-self
invariant_of-self g c = record {
  on = c.begin_own.ensures.board.0 ∙ c.self.invariant.on;
  laid = ap (λ (x : BookState). x.layout) c.begin_own.ensures.state ∙ c.self.invariant.laid;
  gives = c.begin_own.ensures.still_gives;
  counted = search rules;
  vacant = search rules;
  noted = still_noted c.self.inside.book.view c.begin_own.new.self.view (keeps_learning c.self.inside.book.view (pass_without_tokens (pass_view c.args.pass.now.seat)) c.begin_own.new.self.view c.begin_own.ensures.seat) c.self.invariant.noted;
}

pub invariant_of-self-in-Err : goal.invariant_of-self-in-Err
invariant_of-self-in-Err g c = record {
  on = c.begin_own.ensures.board.0 ∙ c.self.invariant.on;
  laid = ap (λ (x : BookState). x.layout) c.begin_own.ensures.state ∙ c.self.invariant.laid;
  gives = c.begin_own.ensures.still_gives;
  counted = search rules;
  vacant = search rules;
  noted = still_noted c.self.inside.book.view c.begin_own.new.self.view (keeps_learning c.self.inside.book.view (pass_without_tokens (pass_view c.args.pass.now.seat)) c.begin_own.new.self.view c.begin_own.ensures.seat) c.self.invariant.noted;
}

pub returns-in-Ok-clause-ok : goal.returns-in-Ok-clause-ok
returns-in-Ok-clause-ok g c =
    let p = placement_of g.J.Naming.layout in
    let old = c.self.inside.book.state in
    let vacant : IsVacant g.S.Store.tells g.S.Store.faults c.self.inside.book c.taken-turn.result.log = taken_vacant g.S.Store.tells g.S.Store.faults c.self.inside.book _ c.taken-turn.result.log c.taken-turn.ensures.log c.self.invariant.vacant in
    let laid : placement_at old ≡ p = ap placement_of c.self.invariant.laid in
    let before : front c.args.pass.now.seat ≡ old.history = search rules in
    let fit : IsFitEntry (log old.history) c.args.e.now = subst (λ (h : List Event). IsFitEntry (log h) c.args.e.now) before c.requires.fit in
    let same : c.count.new.self.log ≡ c.taken-turn.result.log = c.count.ensures.log ∙ c.audit.ensures.log in
    let amount : c.count.new.self.share.amount ≡ turn_amount old.history (Some pending.Entry) = c.count.ensures.amount
    ∙ (ap (λ n. n + 1) (c.audit.ensures.amount ∙ (c.audit.ensures.whole ∙ c.self.invariant.counted)) ∙ amount_begun old.history c.self.inside.book.pending vacant.unpending)
    in
    begins_now g.S.Store.tells g.S.Store.faults p old laid c.args.e.now c.in-Ok.field-0.prepared c.count.new.self.share.amount c.count.new.self.log c.in-Ok.field-0.item c.in-Ok.ensures.begins.ready fit c.in-Ok.ensures.prepared c.in-Ok.ensures.item
    (subst (λ (l : BookLogState _). LogFollows g.S.Store.tells g.S.Store.faults l old.history) (sym same) vacant.follows) amount (front c.args.pass.now.seat) (front c.begin_own.new.p) before c.begin_own.ensures.told

pub returns-in-Err-clause-err : goal.returns-in-Err-clause-err
returns-in-Err-clause-err g c =
    let p = placement_of g.J.Naming.layout in
    let old = c.self.inside.book.state in
    let vacant : IsVacant g.S.Store.tells g.S.Store.faults c.self.inside.book c.taken-turn.result.log = taken_vacant g.S.Store.tells g.S.Store.faults c.self.inside.book _ c.taken-turn.result.log c.taken-turn.ensures.log c.self.invariant.vacant in
    let laid : placement_at old ≡ p = ap placement_of c.self.invariant.laid in
    let before : front c.args.pass.now.seat ≡ old.history = search rules in
    refuses_now p old laid c.args.e.now vacant.idle c.begin_own.result c.begin_own.ensures.begins c.in-Err.error c.in-Err.is (front c.args.pass.now.seat) (front c.begin_own.new.p) before c.begin_own.ensures.told
