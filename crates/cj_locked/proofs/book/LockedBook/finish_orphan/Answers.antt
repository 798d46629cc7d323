use Rattle.std.proofs.Common.{rules, ◌≡◌, ◌+◌, List, [], ◌∷◌, ◌++◌, length, true, Some, Ok, Err, ap, sym, ◌∙◌, subst, inr}
use Rattle.cj_model.specs.Cluster.Placements.{Placement}
use Rattle.cj_cluster.specs.declared.event.Event.{Event}
use Rattle.cj_cluster.specs.declared.event.Event.TheVariants.{Sched}
use Rattle.cj_cluster.specs.History.Histories.{is_free, log}
use Rattle.cj_place.specs.Layouts.{placement_of}
use Rattle.cj_book.specs.BookLogs.{BookLogState, LogFollows}
use Rattle.cj_book.specs.Books.{is_orphan, placement_at, BookState, IsPrepared}
use Rattle.cj_book.specs.Events.{entry_finished, finished_as}
use Rattle.cj_book.specs.declared.pending.Pending.TheVariants as pending
use Rattle.cj_book.proofs.Owners.{orphan_counted}
use Rattle.cj_locked.specs.Locked.{IsVacant}
use Rattle.cj_locked.specs.Orphans.{RefusesAppendedSince}
use Rattle.cj_locked.specs.Turns.{turn_amount}
use Rattle.cj_locked.proofs.Finishing.{amount_refused, amount_scheduled, appended_ok, finished_layout, holds_now, is_pending, nobody_there, refusal_follows, refusal_idle, schedules_now, still_fit, still_prepared}
use Rattle.cj_locked.proofs.Orphans.{abort_gives, abort_scheduled, abort_unfinished}
use Rattle.cj_locked.proofs.Noting.{keeps_event, still_noted}
use Rattle.cj_locked.proofs.book.LockedBook.finish_orphan.Goals as goal

pub finish_entry-finished-requires-clause-pending : goal.finish_entry-finished-requires-clause-pending
finish_entry-finished-requires-clause-pending g c =
    let before : c.args.self.now.book.state.history ≡ c.self.inside.book.state.history = search rules in
    let whole : c.args.turn.share.amount ≡ turn_amount c.self.inside.book.state.history c.self.inside.book.pending = c.audit.ensures.whole ∙ c.self.invariant.counted in
    is_pending g.S.Store.tells g.S.Store.faults (placement_of g.J.Naming.layout) c.args.self.now.book.state.history c.args.e c.args.prepared c.args.turn.share.amount c.args.turn.log c.args.appended c.requires.holds c.self.inside.book.state before c.self.inside.book.pending whole

pub finish_entry-finished-requires-clause-fit : goal.finish_entry-finished-requires-clause-fit
finish_entry-finished-requires-clause-fit g c =
    let before : c.args.self.now.book.state.history ≡ c.self.inside.book.state.history = search rules in
    let whole : c.args.turn.share.amount ≡ turn_amount c.self.inside.book.state.history c.self.inside.book.pending = c.audit.ensures.whole ∙ c.self.invariant.counted in
    still_fit g.S.Store.tells g.S.Store.faults (placement_of g.J.Naming.layout) c.args.self.now.book.state.history c.args.e c.args.prepared c.args.turn.share.amount c.args.turn.log c.args.appended c.requires.holds c.self.inside.book.state before c.self.inside.book.pending whole

pub finish_entry-finished-requires-clause-given : goal.finish_entry-finished-requires-clause-given
finish_entry-finished-requires-clause-given g c =
    let same : c.args.self.now.book.state ≡ c.self.inside.book.state = search rules in
    inr (c.requires.aborts.session, subst (λ (b : BookState). is_orphan b c.args.e.tx ≡ true) same c.requires.orphan)

pub finish_entry-finished-requires-clause-prepared : goal.finish_entry-finished-requires-clause-prepared
finish_entry-finished-requires-clause-prepared g c =
    let before : c.args.self.now.book.state.history ≡ c.self.inside.book.state.history = search rules in
    let whole : c.args.turn.share.amount ≡ turn_amount c.self.inside.book.state.history c.self.inside.book.pending = c.audit.ensures.whole ∙ c.self.invariant.counted in
    let laid : placement_at c.self.inside.book.state ≡ placement_of g.J.Naming.layout = ap placement_of c.self.invariant.laid in
    subst (λ (q : Placement). IsPrepared q (log c.self.inside.book.state.history) c.args.e c.args.prepared) (sym laid)
    (still_prepared g.S.Store.tells g.S.Store.faults (placement_of g.J.Naming.layout) c.args.self.now.book.state.history c.args.e c.args.prepared c.args.turn.share.amount c.args.turn.log c.args.appended c.requires.holds c.self.inside.book.state before c.self.inside.book.pending whole)

pub finish_entry-finished-requires-clause-counted : goal.finish_entry-finished-requires-clause-counted
finish_entry-finished-requires-clause-counted g c =
    let same : c.args.self.now.book.state ≡ c.self.inside.book.state = search rules in
    orphan_counted c.self.inside.book c.legal.ensures.owned c.args.e c.legal.ensures.legal c.requires.aborts.session (subst (λ (b : BookState). is_orphan b c.args.e.tx ≡ true) same c.requires.orphan)

pub invariant_of-self : goal.invariant_of-self
invariant_of-self g c =
    let before : c.args.self.now.book.state.history ≡ c.self.inside.book.state.history = search rules in
    let whole : c.args.turn.share.amount ≡ turn_amount c.self.inside.book.state.history c.self.inside.book.pending = c.audit.ensures.whole ∙ c.self.invariant.counted in
    let old = c.self.inside.book.state in
    let e = c.args.e in
    let a = c.args.appended in
    let f = c.finish_entry-finished in
    let k = length (log c.self.inside.book.state.history) + 1 in
    let answer : finished_as a k ≡ Ok c.in-Ok.number = sym f.ensures.answer ∙ c.in-Ok.is in
    let ok = appended_ok a k c.in-Ok.number answer in
    let awaited : c.self.inside.book.pending ≡ Some pending.Entry = is_pending g.S.Store.tells g.S.Store.faults (placement_of g.J.Naming.layout) c.args.self.now.book.state.history e c.args.prepared c.args.turn.share.amount c.args.turn.log a c.requires.holds old before c.self.inside.book.pending whole in
    let now : f.new.self.state.history ≡ old.history ++ Sched e ∷ [] = ap (λ (x : BookState). x.history) (f.ensures.state ∙ ap (entry_finished old e) ok.0) in
    let total : c.uncount.new.ledger.total + 1 ≡ turn_amount old.history (Some pending.Entry) = c.uncount.ensures.total ∙ (c.audit.ensures.total ∙ (c.self.invariant.counted ∙ ap (turn_amount old.history) awaited)) in
    record {
      on = f.ensures.board ∙ c.self.invariant.on;
      laid = ap (λ (x : BookState). x.layout) f.ensures.state ∙ (finished_layout old e a ∙ c.self.invariant.laid);
      gives = abort_gives e a c.self.inside.book f.new.self f.result c.requires.aborts.session c.self.invariant.gives f.ensures.state f.ensures.seat;
      counted = c.count.ensures.total ∙ (amount_scheduled old.history e c.uncount.new.ledger.total total ∙ (λ i. turn_amount (sym now i) (sym f.ensures.pending i)));
      vacant = nobody_there g.S.Store.tells g.S.Store.faults c.self.inside.book _ pending.Entry c.self.invariant.vacant awaited (IsVacant g.S.Store.tells g.S.Store.faults f.new.self);
      noted = still_noted c.self.inside.book.view f.new.self.view (keeps_event _ c.self.inside.book.view f.new.self.view f.ensures.seat) c.self.invariant.noted;
    }

pub invariant_of-self-in-Err : goal.invariant_of-self-in-Err
invariant_of-self-in-Err g c =
    let before : c.args.self.now.book.state.history ≡ c.self.inside.book.state.history = search rules in
    let whole : c.args.turn.share.amount ≡ turn_amount c.self.inside.book.state.history c.self.inside.book.pending = c.audit.ensures.whole ∙ c.self.invariant.counted in
    let old = c.self.inside.book.state in
    let e = c.args.e in
    let a = c.args.appended in
    let f = c.finish_entry-finished in
    let k = length (log c.self.inside.book.state.history) + 1 in
    let answer : finished_as a k ≡ Err c.in-Err.error = sym f.ensures.answer ∙ c.in-Err.is in
    let awaited : c.self.inside.book.pending ≡ Some pending.Entry = is_pending g.S.Store.tells g.S.Store.faults (placement_of g.J.Naming.layout) c.args.self.now.book.state.history e c.args.prepared c.args.turn.share.amount c.args.turn.log a c.requires.holds old before c.self.inside.book.pending whole in
    let total : c.uncount.new.ledger.total + 1 ≡ turn_amount old.history (Some pending.Entry) = c.uncount.ensures.total ∙ (c.audit.ensures.total ∙ (c.self.invariant.counted ∙ ap (turn_amount old.history) awaited)) in
    let now : f.new.self.state.history ≡ (entry_finished old e a).history = ap (λ (x : BookState). x.history) f.ensures.state in
    let same : c.keep.result.log ≡ c.args.turn.log = c.keep.ensures ∙ (c.count-in-Err.ensures.log ∙ (c.uncount.ensures.log ∙ c.audit.ensures.log)) in
    record {
      on = f.ensures.board ∙ c.self.invariant.on;
      laid = ap (λ (x : BookState). x.layout) f.ensures.state ∙ (finished_layout old e a ∙ c.self.invariant.laid);
      gives = abort_gives e a c.self.inside.book f.new.self f.result c.requires.aborts.session c.self.invariant.gives f.ensures.state f.ensures.seat;
      counted = c.count-in-Err.ensures.total
          ∙ (ap (λ n. c.uncount.new.ledger.total + n) c.refusal_weight.ensures
          ∙ (amount_refused old e a k c.in-Err.error c.uncount.new.ledger.total answer total ∙ (λ i. turn_amount (sym now i) (sym f.ensures.pending i))));
      vacant = record {
        idle = subst (λ (x : List Event). is_free x ≡ true) (sym now) (refusal_idle g.S.Store.tells g.S.Store.faults (placement_of g.J.Naming.layout) c.args.self.now.book.state.history e c.args.prepared c.args.turn.share.amount c.args.turn.log a c.requires.holds old before c.self.inside.book.pending whole k c.in-Err.error answer);
        unpending = f.ensures.pending;
        follows = subst (λ (x : BookLogState _). LogFollows g.S.Store.tells g.S.Store.faults x f.new.self.state.history) (sym same)
            (subst (λ (x : List Event). LogFollows g.S.Store.tells g.S.Store.faults c.args.turn.log x) (sym now) (refusal_follows g.S.Store.tells g.S.Store.faults (placement_of g.J.Naming.layout) c.args.self.now.book.state.history e c.args.prepared c.args.turn.share.amount c.args.turn.log a c.requires.holds old before c.self.inside.book.pending whole k c.in-Err.error answer));
      };
      noted = still_noted c.self.inside.book.view f.new.self.view (keeps_event _ c.self.inside.book.view f.new.self.view f.ensures.seat) c.self.invariant.noted;
    }

pub returns-in-Ok-clause-ok : goal.returns-in-Ok-clause-ok
returns-in-Ok-clause-ok g c =
    let before : c.args.self.now.book.state.history ≡ c.self.inside.book.state.history = search rules in
    let whole : c.args.turn.share.amount ≡ turn_amount c.self.inside.book.state.history c.self.inside.book.pending = c.audit.ensures.whole ∙ c.self.invariant.counted in
    let old = c.self.inside.book.state in
    let e = c.args.e in
    let a = c.args.appended in
    let f = c.finish_entry-finished in
    let k = length (log c.self.inside.book.state.history) + 1 in
    let answer : finished_as a k ≡ Ok c.in-Ok.number = sym f.ensures.answer ∙ c.in-Ok.is in
    let ok = appended_ok a k c.in-Ok.number answer in
    let awaited : c.self.inside.book.pending ≡ Some pending.Entry = is_pending g.S.Store.tells g.S.Store.faults (placement_of g.J.Naming.layout) c.args.self.now.book.state.history e c.args.prepared c.args.turn.share.amount c.args.turn.log a c.requires.holds old before c.self.inside.book.pending whole in
    let now : f.new.self.state.history ≡ old.history ++ Sched e ∷ [] = ap (λ (x : BookState). x.history) (f.ensures.state ∙ ap (entry_finished old e) ok.0) in
    let amount : c.uncount.new.self.share.amount + 1 ≡ turn_amount old.history (Some pending.Entry) = c.uncount.ensures.amount ∙ (c.audit.ensures.amount ∙ (whole ∙ ap (turn_amount old.history) awaited)) in
    let same : c.count.new.self.log ≡ c.args.turn.log = c.count.ensures.log ∙ (c.uncount.ensures.log ∙ c.audit.ensures.log) in
    holds_now g.S.Store.tells g.S.Store.faults (placement_of g.J.Naming.layout) c.args.self.now.book.state.history e c.args.prepared c.args.turn.share.amount c.args.turn.log a c.requires.holds old before c.self.inside.book.pending whole (c.legal.ensures.space awaited) f.new.self.state.history now c.in-Ok.number ok.1 c.count.new.self.share.amount c.enabled-enabled.result c.count.new.self.log
    (c.count.ensures.amount ∙ amount_scheduled old.history e c.uncount.new.self.share.amount amount) c.enabled-enabled.ensures.mask same ok.0

pub returns-in-Ok-clause-since : goal.returns-in-Ok-clause-since
returns-in-Ok-clause-since g c =
    let before : c.args.self.now.book.state.history ≡ c.self.inside.book.state.history = search rules in
    let whole : c.args.turn.share.amount ≡ turn_amount c.self.inside.book.state.history c.self.inside.book.pending = c.audit.ensures.whole ∙ c.self.invariant.counted in
    let p = placement_of g.J.Naming.layout in
    let old = c.self.inside.book.state in
    let e = c.args.e in
    let a = c.args.appended in
    let f = c.finish_entry-finished in
    let k = length (log c.self.inside.book.state.history) + 1 in
    let answer : finished_as a k ≡ Ok c.in-Ok.number = sym f.ensures.answer ∙ c.in-Ok.is in
    let ok = appended_ok a k c.in-Ok.number answer in
    let awaited : c.self.inside.book.pending ≡ Some pending.Entry = is_pending g.S.Store.tells g.S.Store.faults p c.args.self.now.book.state.history e c.args.prepared c.args.turn.share.amount c.args.turn.log a c.requires.holds old before c.self.inside.book.pending whole in
    let now : f.new.self.state.history ≡ old.history ++ Sched e ∷ [] = ap (λ (x : BookState). x.history) (f.ensures.state ∙ ap (entry_finished old e) ok.0) in
    abort_scheduled p c.args.self.now.book.state.history f.new.self.state.history c.in-Ok.number e
    (schedules_now g.S.Store.tells g.S.Store.faults p c.args.self.now.book.state.history e c.args.prepared c.args.turn.share.amount c.args.turn.log a c.requires.holds old before c.self.inside.book.pending whole (c.legal.ensures.space awaited) f.new.self.state.history now c.in-Ok.number ok.1)

pub returns-in-Err-clause-err : goal.returns-in-Err-clause-err
returns-in-Err-clause-err g c =
    let before : c.args.self.now.book.state.history ≡ c.self.inside.book.state.history = search rules in
    let whole : c.args.turn.share.amount ≡ turn_amount c.self.inside.book.state.history c.self.inside.book.pending = c.audit.ensures.whole ∙ c.self.invariant.counted in
    let old = c.self.inside.book.state in
    let e = c.args.e in
    let a = c.args.appended in
    let f = c.finish_entry-finished in
    let k = length (log c.self.inside.book.state.history) + 1 in
    let answer : finished_as a k ≡ Err c.in-Err.error = sym f.ensures.answer ∙ c.in-Err.is in
    let fit = still_fit g.S.Store.tells g.S.Store.faults (placement_of g.J.Naming.layout) c.args.self.now.book.state.history e c.args.prepared c.args.turn.share.amount c.args.turn.log a c.requires.holds old before c.self.inside.book.pending whole in
    subst (λ (x : List Event). RefusesAppendedSince x f.new.self.state.history c.in-Err.error) (sym before)
    (abort_unfinished old e c.requires.aborts.session fit a k c.in-Err.error answer f.new.self.state.history (ap (λ (x : BookState). x.history) f.ensures.state))
