use Rattle.std.proofs.Common.{rules, ◌≡◌, ◌+◌, List, length, true, Some, Ok, Err, refl, ap, sym, ◌∙◌, subst}
use mathlib.Core.List.{IsPrefix}
use Rattle.cj_cluster.specs.declared.event.Event.{Event}
use Rattle.cj_cluster.specs.History.Histories.{is_free, log}
use Rattle.cj_book.specs.BookLogs.{BookLogState, LogFollows}
use Rattle.cj_book.specs.Books.{BookState}
use Rattle.cj_book.specs.Events.{finished_as, marker_finished}
use Rattle.cj_book.specs.declared.pending.Pending.TheVariants as pending
use Rattle.cj_locked.specs.Auditing.{IsHeldOver}
use Rattle.cj_locked.specs.Marking.{MarksAt}
use Rattle.cj_locked.specs.Turns.{turn_amount}
use Rattle.cj_locked.proofs.Holding.{over_since}
use Rattle.cj_locked.proofs.Marking.{amount_marked, amount_unmarked, mark_follows, mark_fresh, mark_idle, mark_pending, mark_uncounted, marked_gives, marked_layout, marks_ok}
use Rattle.cj_locked.proofs.Noting.{keeps_event, still_noted}
use Rattle.cj_locked.proofs.book.LockedBook.mark_now.Goals as goal

pub finish_marker-requires-clause-fresh : goal.finish_marker-requires-clause-fresh
finish_marker-requires-clause-fresh g c =
    let before : c.args.self.now.book.state.history ≡ c.self.inside.book.state.history = search rules in
    let whole : c.args.turn.share.amount ≡ turn_amount c.self.inside.book.state.history c.self.inside.book.pending = c.audit.ensures.whole ∙ c.self.invariant.counted in
    mark_fresh g.S.Store.tells g.S.Store.faults c.args.self.now.book.state.history c.args.name.now c.args.b c.args.turn.share.amount c.args.turn.log c.args.appended c.requires.holds c.self.inside.book.state before c.self.inside.book.pending whole

pub finish_marker-requires-clause-counted : goal.finish_marker-requires-clause-counted
finish_marker-requires-clause-counted g c = mark_uncounted c.self.inside.book c.legal.ensures.owned

pub invariant_of-self : goal.invariant_of-self
invariant_of-self g c =
    let before : c.args.self.now.book.state.history ≡ c.self.inside.book.state.history = search rules in
    let whole : c.args.turn.share.amount ≡ turn_amount c.self.inside.book.state.history c.self.inside.book.pending = c.audit.ensures.whole ∙ c.self.invariant.counted in
    let old = c.self.inside.book.state in
    let k = length (log c.self.inside.book.state.history) in
    let answer : finished_as c.args.appended k ≡ Ok c.in-Ok.number = sym c.finish_marker.ensures.answer ∙ c.in-Ok.is in
    let awaited : c.self.inside.book.pending ≡ Some pending.Marker = mark_pending g.S.Store.tells g.S.Store.faults c.args.self.now.book.state.history c.args.name.now c.args.b c.args.turn.share.amount c.args.turn.log c.args.appended c.requires.holds c.self.inside.book.state before c.self.inside.book.pending whole in
    let total : c.uncount.new.ledger.total + 2 ≡ turn_amount old.history (Some pending.Marker) = c.uncount.ensures.total ∙ (c.audit.ensures.total ∙ (c.self.invariant.counted ∙ ap (turn_amount old.history) awaited)) in
    let now : c.finish_marker.new.self.state.history ≡ (marker_finished old c.args.name.now c.args.b c.args.appended).history = ap (λ (x : BookState). x.history) c.finish_marker.ensures.state in
    let same : c.keep.result.log ≡ c.args.turn.log = c.keep.ensures ∙ (c.count.ensures.log ∙ (c.uncount.ensures.log ∙ c.audit.ensures.log)) in
    record {
      on = c.finish_marker.ensures.board ∙ c.self.invariant.on;
      laid = ap (λ (x : BookState). x.layout) c.finish_marker.ensures.state ∙ (marked_layout old c.args.name.now c.args.b c.args.appended ∙ c.self.invariant.laid);
      gives = marked_gives old c.args.name.now c.args.b c.self.inside.book c.finish_marker.new.self c.args.appended c.finish_marker.result refl c.self.invariant.gives c.finish_marker.ensures.state c.finish_marker.ensures.seat;
      counted = c.count.ensures.total
          ∙ (amount_marked old c.args.name.now c.args.b c.args.appended k c.in-Ok.number c.uncount.new.ledger.total answer total ∙ (λ i. turn_amount (sym now i) (sym c.finish_marker.ensures.pending i)));
      vacant = record {
        idle = subst (λ (x : List Event). is_free x ≡ true) (sym now) (mark_idle g.S.Store.tells g.S.Store.faults c.args.self.now.book.state.history c.args.name.now c.args.b c.args.turn.share.amount c.args.turn.log c.args.appended c.requires.holds c.self.inside.book.state before c.self.inside.book.pending whole);
        unpending = c.finish_marker.ensures.pending;
        follows = subst (λ (x : BookLogState _). LogFollows g.S.Store.tells g.S.Store.faults x c.finish_marker.new.self.state.history) (sym same)
            (subst (λ (x : List Event). LogFollows g.S.Store.tells g.S.Store.faults c.args.turn.log x) (sym now) (mark_follows g.S.Store.tells g.S.Store.faults c.args.self.now.book.state.history c.args.name.now c.args.b c.args.turn.share.amount c.args.turn.log c.args.appended c.requires.holds c.self.inside.book.state before c.self.inside.book.pending whole));
      };
      noted = still_noted c.self.inside.book.view c.finish_marker.new.self.view (keeps_event _ c.self.inside.book.view c.finish_marker.new.self.view c.finish_marker.ensures.seat) c.self.invariant.noted;
    }

pub invariant_of-self-in-Err : goal.invariant_of-self-in-Err
invariant_of-self-in-Err g c =
    let before : c.args.self.now.book.state.history ≡ c.self.inside.book.state.history = search rules in
    let whole : c.args.turn.share.amount ≡ turn_amount c.self.inside.book.state.history c.self.inside.book.pending = c.audit.ensures.whole ∙ c.self.invariant.counted in
    let old = c.self.inside.book.state in
    let k = length (log c.self.inside.book.state.history) in
    let answer : finished_as c.args.appended k ≡ Err c.in-Err.error = sym c.finish_marker.ensures.answer ∙ c.in-Err.is in
    let awaited : c.self.inside.book.pending ≡ Some pending.Marker = mark_pending g.S.Store.tells g.S.Store.faults c.args.self.now.book.state.history c.args.name.now c.args.b c.args.turn.share.amount c.args.turn.log c.args.appended c.requires.holds c.self.inside.book.state before c.self.inside.book.pending whole in
    let total : c.uncount.new.ledger.total + 2 ≡ turn_amount old.history (Some pending.Marker) = c.uncount.ensures.total ∙ (c.audit.ensures.total ∙ (c.self.invariant.counted ∙ ap (turn_amount old.history) awaited)) in
    let now : c.finish_marker.new.self.state.history ≡ (marker_finished old c.args.name.now c.args.b c.args.appended).history = ap (λ (x : BookState). x.history) c.finish_marker.ensures.state in
    let same : c.keep-in-Err.result.log ≡ c.args.turn.log = c.keep-in-Err.ensures ∙ (c.count-in-Err.ensures.log ∙ (c.uncount.ensures.log ∙ c.audit.ensures.log)) in
    record {
      on = c.finish_marker.ensures.board ∙ c.self.invariant.on;
      laid = ap (λ (x : BookState). x.layout) c.finish_marker.ensures.state ∙ (marked_layout old c.args.name.now c.args.b c.args.appended ∙ c.self.invariant.laid);
      gives = marked_gives old c.args.name.now c.args.b c.self.inside.book c.finish_marker.new.self c.args.appended c.finish_marker.result refl c.self.invariant.gives c.finish_marker.ensures.state c.finish_marker.ensures.seat;
      counted = c.count-in-Err.ensures.total
          ∙ (ap (λ n. c.uncount.new.ledger.total + n) c.refusal_weight.ensures ∙ (amount_unmarked old c.args.name.now c.args.b c.args.appended k c.in-Err.error c.uncount.new.ledger.total answer total ∙ (λ i. turn_amount (sym now i) (sym c.finish_marker.ensures.pending i))));
      vacant = record {
        idle = subst (λ (x : List Event). is_free x ≡ true) (sym now) (mark_idle g.S.Store.tells g.S.Store.faults c.args.self.now.book.state.history c.args.name.now c.args.b c.args.turn.share.amount c.args.turn.log c.args.appended c.requires.holds c.self.inside.book.state before c.self.inside.book.pending whole);
        unpending = c.finish_marker.ensures.pending;
        follows = subst (λ (x : BookLogState _). LogFollows g.S.Store.tells g.S.Store.faults x c.finish_marker.new.self.state.history) (sym same)
            (subst (λ (x : List Event). LogFollows g.S.Store.tells g.S.Store.faults c.args.turn.log x) (sym now) (mark_follows g.S.Store.tells g.S.Store.faults c.args.self.now.book.state.history c.args.name.now c.args.b c.args.turn.share.amount c.args.turn.log c.args.appended c.requires.holds c.self.inside.book.state before c.self.inside.book.pending whole));
      };
      noted = still_noted c.self.inside.book.view c.finish_marker.new.self.view (keeps_event _ c.self.inside.book.view c.finish_marker.new.self.view c.finish_marker.ensures.seat) c.self.invariant.noted;
    }

pub returns-in-Ok-clause-marks : goal.returns-in-Ok-clause-marks
returns-in-Ok-clause-marks g c =
    let before : c.args.self.now.book.state.history ≡ c.self.inside.book.state.history = search rules in
    let whole : c.args.turn.share.amount ≡ turn_amount c.self.inside.book.state.history c.self.inside.book.pending = c.audit.ensures.whole ∙ c.self.invariant.counted in
    let old = c.self.inside.book.state in
    let k = length (log c.self.inside.book.state.history) in
    let answer : finished_as c.args.appended k ≡ Ok c.in-Ok.number = sym c.finish_marker.ensures.answer ∙ c.in-Ok.is in
    subst (λ (m : List Event). MarksAt m c.args.name.now c.args.b (Ok c.in-Ok.number) c.finish_marker.new.self.state.history) (sym before)
    (marks_ok old c.args.name.now c.args.b c.args.appended c.in-Ok.number c.finish_marker.new.self.state.history answer (mark_fresh g.S.Store.tells g.S.Store.faults c.args.self.now.book.state.history c.args.name.now c.args.b c.args.turn.share.amount c.args.turn.log c.args.appended c.requires.holds c.self.inside.book.state before c.self.inside.book.pending whole) (ap (λ (x : BookState). x.history) c.finish_marker.ensures.state))

pub returns-in-Ok-clause-over : goal.returns-in-Ok-clause-over
returns-in-Ok-clause-over g c m F turn free begins longer =
    let before : c.args.self.now.book.state.history ≡ c.self.inside.book.state.history = search rules in
    let whole : c.args.turn.share.amount ≡ turn_amount c.self.inside.book.state.history c.self.inside.book.pending = c.audit.ensures.whole ∙ c.self.invariant.counted in
    subst (IsHeldOver F) (sym before) (over_since (Some pending.Marker) c.self.inside.book.pending m F c.self.inside.book.state.history c.args.turn.share.amount turn free begins (subst (IsPrefix F) before longer) whole)

pub returns-in-Err-clause-over : goal.returns-in-Err-clause-over
returns-in-Err-clause-over g c m F turn free begins longer =
    let before : c.args.self.now.book.state.history ≡ c.self.inside.book.state.history = search rules in
    let whole : c.args.turn.share.amount ≡ turn_amount c.self.inside.book.state.history c.self.inside.book.pending = c.audit.ensures.whole ∙ c.self.invariant.counted in
    subst (IsHeldOver F) (sym before) (over_since (Some pending.Marker) c.self.inside.book.pending m F c.self.inside.book.state.history c.args.turn.share.amount turn free begins (subst (IsPrefix F) before longer) whole)
