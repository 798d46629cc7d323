use Rattle.std.proofs.Common.{rules, ◌≡◌, ◌+◌, ◌==◌, ◌&&◌, not, true, List, length, Err, refl, ap, sym, ◌∙◌, subst}
use Rattle.cj_cluster.specs.declared.event.Event.{Event}
use Rattle.cj_cluster.specs.declared.event.Event.TheVariants.{Enabled}
use Rattle.cj_cluster.specs.History.Histories.{is_enabled, log}
use Rattle.cj_book.specs.BookLogs.{BookLogState}
use Rattle.cj_book.specs.Books.{with_event, BookState}
use Rattle.cj_locked.specs.Changes.{BringsAt}
use Rattle.cj_locked.specs.Locked.{IsVacant}
use Rattle.cj_locked.proofs.Changing.{amount_more, enabled_vacant, refused_at}
use Rattle.cj_locked.proofs.Noting.{keeps_event, still_noted}
use Rattle.cj_locked.proofs.Holding.{taken_vacant}
use Rattle.cj_locked.proofs.book.LockedBook.enable_now.Goals as goal

pub invariant_of-self : goal.invariant_of-self
invariant_of-self g c =
    let old = c.self.inside.book in
    let vacant : IsVacant g.S.Store.tells g.S.Store.faults c.self.inside.book c.taken-turn.result.log = taken_vacant g.S.Store.tells g.S.Store.faults c.self.inside.book _ c.taken-turn.result.log c.taken-turn.ensures.log c.self.invariant.vacant in
    let now : c.enable.new.self.state ≡ with_event old.state (Enabled c.args.b) = c.in-Ok.ensures.state.ok in
    record {
      on = c.enable.ensures.board ∙ c.self.invariant.on;
      laid = ap (λ (x : BookState). x.layout) now ∙ c.self.invariant.laid;
      gives = c.enable.ensures.still_gives c.self.invariant.gives;
      counted = c.count.ensures.total
          ∙ (ap (λ k. k + 3) c.self.invariant.counted
          ∙ amount_more old.state.history old.pending (Enabled c.args.b) refl c.enable.new.self.state.history c.enable.new.self.pending (ap (λ (x : BookState). x.history) now) c.enable.ensures.pending);
      vacant = subst (λ (l : BookLogState _). IsVacant g.S.Store.tells g.S.Store.faults c.enable.new.self l) (sym (c.keep.ensures ∙ c.count.ensures.log))
          (enabled_vacant g.S.Store.tells g.S.Store.faults old c.enable.new.self c.taken-turn.result.log vacant c.enable.ensures.pending c.args.b now);
      noted = still_noted old.view c.enable.new.self.view (keeps_event _ old.view c.enable.new.self.view c.enable.ensures.seat) c.self.invariant.noted;
    }

pub returns-in-Err-clause-brings : goal.returns-in-Err-clause-brings
returns-in-Err-clause-brings g c =
    let same : c.args.self.now.book.state.history ≡ c.self.inside.book.state.history = search rules in
    let on : not (is_enabled c.self.inside.book.state.history c.args.b) && (length (log c.self.inside.book.state.history) == c.args.n) ≡ true = search rules in
    subst (λ (m : List Event). BringsAt m (Enabled c.args.b) (not (is_enabled m c.args.b) && (length (log m) == c.args.n)) (Err c.in-Err.error) c.enable.new.self.state.history) (sym same)
    (refused_at c.self.inside.book.state c.enable.new.self.state (Enabled c.args.b) (not (is_enabled c.self.inside.book.state.history c.args.b) && (length (log c.self.inside.book.state.history) == c.args.n)) c.enable.result c.in-Err.error c.enable.ensures.state c.in-Err.is on)
