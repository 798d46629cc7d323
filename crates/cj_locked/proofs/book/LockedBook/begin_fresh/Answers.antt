use Rattle.std.proofs.Common.{rules, ◌≡◌, ◌+◌, false, List, Some, ap, sym, ◌∙◌, subst}
use Rattle.cj_cluster.specs.declared.event.Event.{Event}
use Rattle.cj_cluster.specs.History.Histories.{has_marker}
use Rattle.cj_book.specs.BookLogs.{BookLogState, LogFollows}
use Rattle.cj_book.specs.declared.pending.Pending.TheVariants as pending
use Rattle.cj_locked.specs.Locked.{IsVacant}
use Rattle.cj_locked.specs.Marking.{BeginsMarkSince, RefusesMark}
use Rattle.cj_locked.specs.Turns.{turn_amount}
use Rattle.cj_locked.proofs.Marking.{amount_mark_begun, mark_begins, mark_refused}
use Rattle.cj_locked.proofs.Holding.{taken_vacant}
use Rattle.cj_locked.proofs.book.LockedBook.begin_fresh.Goals as goal

pub returns-in-Ok-clause-ok : goal.returns-in-Ok-clause-ok
returns-in-Ok-clause-ok g c =
    let h = c.self.inside.book.state.history in
    let vacant : IsVacant g.S.Store.tells g.S.Store.faults c.self.inside.book c.taken-turn.result.log = taken_vacant g.S.Store.tells g.S.Store.faults c.self.inside.book _ c.taken-turn.result.log c.taken-turn.ensures.log c.self.invariant.vacant in
    let before : c.args.self.now.book.state.history ≡ c.self.inside.book.state.history = search rules in
    let same : c.count.new.self.log ≡ c.taken-turn.result.log = c.count.ensures.log ∙ c.audit.ensures.log in
    let amount : c.count.new.self.share.amount ≡ turn_amount h (Some pending.Marker) = c.count.ensures.amount
    ∙ (ap (λ n. n + 2) (c.audit.ensures.amount ∙ (c.audit.ensures.whole ∙ c.self.invariant.counted)) ∙ amount_mark_begun h c.self.inside.book.pending vacant.unpending)
    in
    subst (λ (x : List Event). BeginsMarkSince g.S.Store.tells g.S.Store.faults x x c.args.name.now c.args.b c.count.new.self.share.amount c.count.new.self.log c.in-Ok.item) (sym before)
    (mark_begins g.S.Store.tells g.S.Store.faults h c.args.name.now c.args.b c.count.new.self.share.amount c.count.new.self.log c.in-Ok.item vacant.idle (subst (λ (x : List Event). has_marker x c.args.name.now ≡ false) before c.requires.fresh)
    (subst (λ (l : BookLogState _). LogFollows g.S.Store.tells g.S.Store.faults l h) (sym same) vacant.follows) amount c.in-Ok.ensures.item)

pub returns-in-Err-clause-err : goal.returns-in-Err-clause-err
returns-in-Err-clause-err g c =
    let before : c.args.self.now.book.state.history ≡ c.self.inside.book.state.history = search rules in
    subst (λ (x : List Event). RefusesMark x c.in-Err.error) (sym before) (mark_refused c.self.inside.book.state c.begin_marker.result c.in-Err.error c.in-Err.is c.begin_marker.ensures.begins)
