use Rattle.std.proofs.Common.{rules, ◌≡◌, ◌+◌, true, List, Err, refl, ap, sym, ◌∙◌, subst}
use Rattle.cj_cluster.specs.declared.event.Event.{Event}
use Rattle.cj_cluster.specs.declared.event.Event.TheVariants.{Disabled}
use Rattle.cj_cluster.specs.History.Histories.{is_enabled}
use Rattle.cj_book.specs.BookLogs.{BookLogState}
use Rattle.cj_book.specs.Books.{with_event, BookState}
use Rattle.cj_locked.specs.Changes.{BringsAt}
use Rattle.cj_locked.specs.Locked.{IsVacant}
use Rattle.cj_locked.proofs.Changing.{amount_more, disabled_vacant, refused_at}
use Rattle.cj_locked.proofs.Noting.{keeps_event, still_noted}
use Rattle.cj_locked.proofs.Holding.{taken_vacant}
use Rattle.cj_locked.proofs.book.LockedBook.disable_now.Goals as goal

pub invariant_of-self : goal.invariant_of-self
invariant_of-self g c =
    let old = c.self.inside.book in
    let vacant : IsVacant g.S.Store.tells g.S.Store.faults c.self.inside.book c.taken-turn.result.log = taken_vacant g.S.Store.tells g.S.Store.faults c.self.inside.book _ c.taken-turn.result.log c.taken-turn.ensures.log c.self.invariant.vacant in
    let now : c.disable.new.self.state ≡ with_event old.state (Disabled c.args.b) = c.in-Ok.ensures.state.ok in
    record {
      on = c.disable.ensures.board ∙ c.self.invariant.on;
      laid = ap (λ (x : BookState). x.layout) now ∙ c.self.invariant.laid;
      gives = c.disable.ensures.still_gives c.self.invariant.gives;
      counted = c.count.ensures.total
          ∙ (ap (λ k. k + 3) c.self.invariant.counted
          ∙ amount_more old.state.history old.pending (Disabled c.args.b) refl c.disable.new.self.state.history c.disable.new.self.pending (ap (λ (x : BookState). x.history) now) c.disable.ensures.pending);
      vacant = subst (λ (l : BookLogState _). IsVacant g.S.Store.tells g.S.Store.faults c.disable.new.self l) (sym (c.keep.ensures ∙ c.count.ensures.log))
          (disabled_vacant g.S.Store.tells g.S.Store.faults old c.disable.new.self c.taken-turn.result.log vacant c.disable.ensures.pending c.args.b now);
      noted = still_noted old.view c.disable.new.self.view (keeps_event _ old.view c.disable.new.self.view c.disable.ensures.seat) c.self.invariant.noted;
    }

pub returns-in-Err-clause-brings : goal.returns-in-Err-clause-brings
returns-in-Err-clause-brings g c =
    let same : c.args.self.now.book.state.history ≡ c.self.inside.book.state.history = search rules in
    let on : is_enabled c.self.inside.book.state.history c.args.b ≡ true = search rules in
    subst (λ (m : List Event). BringsAt m (Disabled c.args.b) (is_enabled m c.args.b) (Err c.in-Err.error) c.disable.new.self.state.history) (sym same)
    (refused_at c.self.inside.book.state c.disable.new.self.state (Disabled c.args.b) (is_enabled c.self.inside.book.state.history c.args.b) c.disable.result c.in-Err.error c.disable.ensures.state c.in-Err.is on)
