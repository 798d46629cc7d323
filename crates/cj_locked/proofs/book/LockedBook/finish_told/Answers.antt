use Rattle.std.proofs.Common.{rules, ◌≡◌, ◌+◌, ℕ, List, [], ◌∷◌, ◌++◌, length, true, Some, Result, Ok, Err, ap, sym, ◌∙◌, subst}
use Rattle.cj_model.specs.Cluster.Placements.{Placement}
use Rattle.cj_cluster.specs.declared.event.Event.{Event}
use Rattle.cj_cluster.specs.declared.event.Event.TheVariants.{LogFailed, Sched}
use Rattle.cj_cluster.specs.History.Histories.{is_enabled, is_free, log}
use Rattle.cj_board.specs.Counting.{event_count_of}
use Rattle.cj_board.specs.Seats.{front, pass_view}
use Rattle.cj_place.specs.Layouts.{placement_of}
use Rattle.cj_book.specs.BookLogs.{BookLogState, LogFollows}
use Rattle.cj_book.specs.Books.{placement_at, BookState, IsPrepared}
use Rattle.cj_book.specs.Events.{entry_finished, finished_as}
use Rattle.cj_book.specs.Seated.{count_after, event_or_fault, told_pass}
use Rattle.cj_book.specs.declared.error.BookError.{BookError}
use Rattle.cj_book.specs.declared.pending.Pending.TheVariants as pending
use Rattle.cj_locked.specs.Locked.{IsVacant}
use Rattle.cj_locked.specs.Turns.{turn_amount}
use Rattle.cj_locked.proofs.Finishing.{amount_refused, amount_scheduled, appended_ok, finished_counted, finished_layout, holds_now, is_pending, nobody_there, refusal_follows, refusal_idle, refuses_then, schedules_now, still_fit, still_prepared}
use Rattle.cj_locked.proofs.Noting.{keeps_own_told, still_noted}
use Rattle.cj_locked.proofs.book.LockedBook.finish_told.Goals as goal

pub finish_own-finished-requires-clause-fit : goal.finish_own-finished-requires-clause-fit
finish_own-finished-requires-clause-fit g c =
    let before : front c.args.pass.now.seat ≡ c.self.inside.book.state.history = search rules in
    let whole : c.args.turn.share.amount ≡ turn_amount c.self.inside.book.state.history c.self.inside.book.pending = c.audit.ensures.whole ∙ c.self.invariant.counted in
    still_fit g.S.Store.tells g.S.Store.faults (placement_of g.J.Naming.layout) (front c.args.pass.now.seat) c.args.e c.args.prepared c.args.turn.share.amount c.args.turn.log c.args.appended c.requires.holds c.self.inside.book.state before c.self.inside.book.pending whole

pub finish_own-finished-requires-clause-prepared : goal.finish_own-finished-requires-clause-prepared
finish_own-finished-requires-clause-prepared g c =
    let before : front c.args.pass.now.seat ≡ c.self.inside.book.state.history = search rules in
    let whole : c.args.turn.share.amount ≡ turn_amount c.self.inside.book.state.history c.self.inside.book.pending = c.audit.ensures.whole ∙ c.self.invariant.counted in
    let laid : placement_at c.self.inside.book.state ≡ placement_of g.J.Naming.layout = ap placement_of c.self.invariant.laid in
    subst (λ (q : Placement). IsPrepared q (log c.self.inside.book.state.history) c.args.e c.args.prepared) (sym laid) (still_prepared g.S.Store.tells g.S.Store.faults (placement_of g.J.Naming.layout) (front c.args.pass.now.seat) c.args.e c.args.prepared c.args.turn.share.amount c.args.turn.log c.args.appended c.requires.holds c.self.inside.book.state before c.self.inside.book.pending whole)

pub invariant_of-self : goal.invariant_of-self
invariant_of-self g c =
    let before : front c.args.pass.now.seat ≡ c.self.inside.book.state.history = search rules in
    let whole : c.args.turn.share.amount ≡ turn_amount c.self.inside.book.state.history c.self.inside.book.pending = c.audit.ensures.whole ∙ c.self.invariant.counted in
    let old = c.self.inside.book.state in
    let e = c.args.e in
    let a = c.args.appended in
    let k = length (log c.self.inside.book.state.history) + 1 in
    let answer : finished_as a k ≡ Ok c.in-Ok.number = sym c.finish_own-finished.ensures.answer ∙ c.in-Ok.is in
    let ok = appended_ok a k c.in-Ok.number answer in
    let awaited : c.self.inside.book.pending ≡ Some pending.Entry = is_pending g.S.Store.tells g.S.Store.faults (placement_of g.J.Naming.layout) (front c.args.pass.now.seat) c.args.e c.args.prepared c.args.turn.share.amount c.args.turn.log c.args.appended c.requires.holds c.self.inside.book.state before c.self.inside.book.pending whole in
    let now : c.finish_own-finished.new.self.state.history ≡ old.history ++ Sched e ∷ [] = ap (λ (x : BookState). x.history) (c.finish_own-finished.ensures.state ∙ ap (entry_finished old e) ok.0) in
    let total : c.uncount.new.ledger.total + 1 ≡ turn_amount old.history (Some pending.Entry) = c.uncount.ensures.total ∙ (c.audit.ensures.total ∙ (c.self.invariant.counted ∙ ap (turn_amount old.history) awaited)) in
    record {
      on = c.finish_own-finished.ensures.board.0 ∙ c.self.invariant.on;
      laid = ap (λ (x : BookState). x.layout) c.finish_own-finished.ensures.state ∙ (finished_layout old e a ∙ c.self.invariant.laid);
      gives = c.finish_own-finished.ensures.still_gives;
      counted = c.count.ensures.total ∙ (amount_scheduled old.history e c.uncount.new.ledger.total total ∙ (λ i. turn_amount (sym now i) (sym c.finish_own-finished.ensures.pending i)));
      vacant = nobody_there g.S.Store.tells g.S.Store.faults c.self.inside.book _ pending.Entry c.self.invariant.vacant awaited (IsVacant g.S.Store.tells g.S.Store.faults c.finish_own-finished.new.self);
      noted = still_noted c.self.inside.book.view c.finish_own-finished.new.self.view (keeps_own_told _ c.self.inside.book.view (pass_view c.args.pass.now.seat) (told_pass c.self.inside.book.view (pass_view c.args.pass.now.seat)) c.finish_own-finished.new.self.view c.finish_own-finished.ensures.seat) c.self.invariant.noted;
    }

pub invariant_of-self-in-Err : goal.invariant_of-self-in-Err
invariant_of-self-in-Err g c =
    let before : front c.args.pass.now.seat ≡ c.self.inside.book.state.history = search rules in
    let whole : c.args.turn.share.amount ≡ turn_amount c.self.inside.book.state.history c.self.inside.book.pending = c.audit.ensures.whole ∙ c.self.invariant.counted in
    let old = c.self.inside.book.state in
    let e = c.args.e in
    let a = c.args.appended in
    let k = length (log c.self.inside.book.state.history) + 1 in
    let answer : finished_as a k ≡ Err c.in-Err.error = sym c.finish_own-finished.ensures.answer ∙ c.in-Err.is in
    let awaited : c.self.inside.book.pending ≡ Some pending.Entry = is_pending g.S.Store.tells g.S.Store.faults (placement_of g.J.Naming.layout) (front c.args.pass.now.seat) c.args.e c.args.prepared c.args.turn.share.amount c.args.turn.log c.args.appended c.requires.holds c.self.inside.book.state before c.self.inside.book.pending whole in
    let total : c.uncount.new.ledger.total + 1 ≡ turn_amount old.history (Some pending.Entry) = c.uncount.ensures.total ∙ (c.audit.ensures.total ∙ (c.self.invariant.counted ∙ ap (turn_amount old.history) awaited)) in
    let now : c.finish_own-finished.new.self.state.history ≡ (entry_finished old e a).history = ap (λ (x : BookState). x.history) c.finish_own-finished.ensures.state in
    let same : c.keep.result.log ≡ c.args.turn.log = c.keep.ensures ∙ (c.count-in-Err.ensures.log ∙ (c.uncount.ensures.log ∙ c.audit.ensures.log)) in
    record {
      on = c.finish_own-finished.ensures.board.0 ∙ c.self.invariant.on;
      laid = ap (λ (x : BookState). x.layout) c.finish_own-finished.ensures.state ∙ (finished_layout old e a ∙ c.self.invariant.laid);
      gives = c.finish_own-finished.ensures.still_gives;
      counted = c.count-in-Err.ensures.total
          ∙ (ap (λ n. c.uncount.new.ledger.total + n) c.refusal_weight.ensures
          ∙ (amount_refused old e a k c.in-Err.error c.uncount.new.ledger.total answer total ∙ (λ i. turn_amount (sym now i) (sym c.finish_own-finished.ensures.pending i))));
      vacant = record {
        idle = subst (λ (x : List Event). is_free x ≡ true) (sym now) (refusal_idle g.S.Store.tells g.S.Store.faults (placement_of g.J.Naming.layout) (front c.args.pass.now.seat) c.args.e c.args.prepared c.args.turn.share.amount c.args.turn.log c.args.appended c.requires.holds c.self.inside.book.state before c.self.inside.book.pending whole k c.in-Err.error answer);
        unpending = c.finish_own-finished.ensures.pending;
        follows = subst (λ (x : BookLogState _). LogFollows g.S.Store.tells g.S.Store.faults x c.finish_own-finished.new.self.state.history) (sym same)
            (subst (λ (x : List Event). LogFollows g.S.Store.tells g.S.Store.faults c.args.turn.log x) (sym now) (refusal_follows g.S.Store.tells g.S.Store.faults (placement_of g.J.Naming.layout) (front c.args.pass.now.seat) c.args.e c.args.prepared c.args.turn.share.amount c.args.turn.log c.args.appended c.requires.holds c.self.inside.book.state before c.self.inside.book.pending whole k c.in-Err.error answer));
      };
      noted = still_noted c.self.inside.book.view c.finish_own-finished.new.self.view (keeps_own_told _ c.self.inside.book.view (pass_view c.args.pass.now.seat) (told_pass c.self.inside.book.view (pass_view c.args.pass.now.seat)) c.finish_own-finished.new.self.view c.finish_own-finished.ensures.seat) c.self.invariant.noted;
    }

pub returns-in-Ok-clause-ok : goal.returns-in-Ok-clause-ok
returns-in-Ok-clause-ok g c =
    let before : front c.args.pass.now.seat ≡ c.self.inside.book.state.history = search rules in
    let whole : c.args.turn.share.amount ≡ turn_amount c.self.inside.book.state.history c.self.inside.book.pending = c.audit.ensures.whole ∙ c.self.invariant.counted in
    let old = c.self.inside.book.state in
    let e = c.args.e in
    let a = c.args.appended in
    let k = length (log c.self.inside.book.state.history) + 1 in
    let answer : finished_as a k ≡ Ok c.in-Ok.number = sym c.finish_own-finished.ensures.answer ∙ c.in-Ok.is in
    let ok = appended_ok a k c.in-Ok.number answer in
    let awaited : c.self.inside.book.pending ≡ Some pending.Entry = is_pending g.S.Store.tells g.S.Store.faults (placement_of g.J.Naming.layout) (front c.args.pass.now.seat) c.args.e c.args.prepared c.args.turn.share.amount c.args.turn.log c.args.appended c.requires.holds c.self.inside.book.state before c.self.inside.book.pending whole in
    let now : c.finish_own-finished.new.self.state.history ≡ old.history ++ Sched e ∷ [] = ap (λ (x : BookState). x.history) (c.finish_own-finished.ensures.state ∙ ap (entry_finished old e) ok.0) in
    let after : front c.finish_own-finished.new.p ≡ old.history ++ Sched e ∷ [] = c.finish_own-finished.ensures.told ∙ now in
    let amount : c.uncount.new.self.share.amount + 1 ≡ turn_amount old.history (Some pending.Entry) = c.uncount.ensures.amount ∙ (c.audit.ensures.amount ∙ (whole ∙ ap (turn_amount old.history) awaited)) in
    let same : c.count.new.self.log ≡ c.args.turn.log = c.count.ensures.log ∙ (c.uncount.ensures.log ∙ c.audit.ensures.log) in
    holds_now g.S.Store.tells g.S.Store.faults (placement_of g.J.Naming.layout) (front c.args.pass.now.seat) c.args.e c.args.prepared c.args.turn.share.amount c.args.turn.log c.args.appended c.requires.holds c.self.inside.book.state before c.self.inside.book.pending whole (c.legal.ensures.space awaited) (front c.finish_own-finished.new.p) after c.in-Ok.number ok.1 c.count.new.self.share.amount c.enabled-enabled.result c.count.new.self.log
    (c.count.ensures.amount ∙ amount_scheduled old.history e c.uncount.new.self.share.amount amount) (λ b. c.enabled-enabled.ensures.mask b ∙ ap (λ (x : List Event). is_enabled x b) (sym c.finish_own-finished.ensures.told)) same ok.0

pub returns-in-Ok-clause-since : goal.returns-in-Ok-clause-since
returns-in-Ok-clause-since g c =
    let before : front c.args.pass.now.seat ≡ c.self.inside.book.state.history = search rules in
    let whole : c.args.turn.share.amount ≡ turn_amount c.self.inside.book.state.history c.self.inside.book.pending = c.audit.ensures.whole ∙ c.self.invariant.counted in
    let old = c.self.inside.book.state in
    let e = c.args.e in
    let a = c.args.appended in
    let k = length (log c.self.inside.book.state.history) + 1 in
    let answer : finished_as a k ≡ Ok c.in-Ok.number = sym c.finish_own-finished.ensures.answer ∙ c.in-Ok.is in
    let ok = appended_ok a k c.in-Ok.number answer in
    let awaited : c.self.inside.book.pending ≡ Some pending.Entry = is_pending g.S.Store.tells g.S.Store.faults (placement_of g.J.Naming.layout) (front c.args.pass.now.seat) c.args.e c.args.prepared c.args.turn.share.amount c.args.turn.log c.args.appended c.requires.holds c.self.inside.book.state before c.self.inside.book.pending whole in
    let now : c.finish_own-finished.new.self.state.history ≡ old.history ++ Sched e ∷ [] = ap (λ (x : BookState). x.history) (c.finish_own-finished.ensures.state ∙ ap (entry_finished old e) ok.0) in
    let after : front c.finish_own-finished.new.p ≡ old.history ++ Sched e ∷ [] = c.finish_own-finished.ensures.told ∙ now in
    schedules_now g.S.Store.tells g.S.Store.faults (placement_of g.J.Naming.layout) (front c.args.pass.now.seat) c.args.e c.args.prepared c.args.turn.share.amount c.args.turn.log c.args.appended c.requires.holds c.self.inside.book.state before c.self.inside.book.pending whole (c.legal.ensures.space awaited) (front c.finish_own-finished.new.p) after c.in-Ok.number ok.1

pub returns-in-Ok-clause-enabled : goal.returns-in-Ok-clause-enabled
returns-in-Ok-clause-enabled g c = λ b. c.enabled-enabled.ensures.mask b ∙ ap (λ (h : List Event). is_enabled h b) (sym c.finish_own-finished.ensures.told)

pub returns-in-Ok-clause-counted : goal.returns-in-Ok-clause-counted
returns-in-Ok-clause-counted g c =
    let before : front c.args.pass.now.seat ≡ c.self.inside.book.state.history = search rules in
    let whole : c.args.turn.share.amount ≡ turn_amount c.self.inside.book.state.history c.self.inside.book.pending = c.audit.ensures.whole ∙ c.self.invariant.counted in
    let old = c.self.inside.book.state in
    let e = c.args.e in
    let a = c.args.appended in
    let k = length (log c.self.inside.book.state.history) + 1 in
    let same : event_count_of e.session old.history ≡ (pass_view c.args.pass.now.seat).count = ap (event_count_of e.session) (sym before) ∙ c.requires.counted in
    ap (event_count_of e.session) (c.finish_own-finished.ensures.told ∙ ap (λ (x : BookState). x.history) c.finish_own-finished.ensures.state)
    ∙ (finished_counted old e a k (pass_view c.args.pass.now.seat).count c.legal.ensures.legal c.requires.own.1 same
    ∙ (ap (λ (r : Result ℕ BookError). count_after (event_or_fault (Sched e) (LogFailed e.session e.seq) r) (pass_view c.args.pass.now.seat).count) (sym c.finish_own-finished.ensures.answer) ∙ sym c.finish_own-finished.ensures.count))

pub returns-in-Err-clause-err : goal.returns-in-Err-clause-err
returns-in-Err-clause-err g c =
    let before : front c.args.pass.now.seat ≡ c.self.inside.book.state.history = search rules in
    let whole : c.args.turn.share.amount ≡ turn_amount c.self.inside.book.state.history c.self.inside.book.pending = c.audit.ensures.whole ∙ c.self.invariant.counted in
    let old = c.self.inside.book.state in
    let e = c.args.e in
    let a = c.args.appended in
    let k = length (log c.self.inside.book.state.history) + 1 in
    let answer : finished_as a k ≡ Err c.in-Err.error = sym c.finish_own-finished.ensures.answer ∙ c.in-Err.is in
    let awaited : c.self.inside.book.pending ≡ Some pending.Entry = is_pending g.S.Store.tells g.S.Store.faults (placement_of g.J.Naming.layout) (front c.args.pass.now.seat) c.args.e c.args.prepared c.args.turn.share.amount c.args.turn.log c.args.appended c.requires.holds c.self.inside.book.state before c.self.inside.book.pending whole in
    refuses_then g.S.Store.tells g.S.Store.faults (placement_of g.J.Naming.layout) (front c.args.pass.now.seat) c.args.e c.args.prepared c.args.turn.share.amount c.args.turn.log c.args.appended c.requires.holds c.self.inside.book.state before c.self.inside.book.pending whole (c.legal.ensures.space awaited) k c.in-Err.error answer (front c.finish_own-finished.new.p) (c.finish_own-finished.ensures.told ∙ ap (λ (x : BookState). x.history) c.finish_own-finished.ensures.state)

pub returns-in-Err-clause-counted : goal.returns-in-Err-clause-counted
returns-in-Err-clause-counted g c =
    let before : front c.args.pass.now.seat ≡ c.self.inside.book.state.history = search rules in
    let whole : c.args.turn.share.amount ≡ turn_amount c.self.inside.book.state.history c.self.inside.book.pending = c.audit.ensures.whole ∙ c.self.invariant.counted in
    let old = c.self.inside.book.state in
    let e = c.args.e in
    let a = c.args.appended in
    let k = length (log c.self.inside.book.state.history) + 1 in
    let same : event_count_of e.session old.history ≡ (pass_view c.args.pass.now.seat).count = ap (event_count_of e.session) (sym before) ∙ c.requires.counted in
    ap (event_count_of e.session) (c.finish_own-finished.ensures.told ∙ ap (λ (x : BookState). x.history) c.finish_own-finished.ensures.state)
    ∙ (finished_counted old e a k (pass_view c.args.pass.now.seat).count c.legal.ensures.legal c.requires.own.1 same
    ∙ (ap (λ (r : Result ℕ BookError). count_after (event_or_fault (Sched e) (LogFailed e.session e.seq) r) (pass_view c.args.pass.now.seat).count) (sym c.finish_own-finished.ensures.answer) ∙ sym c.finish_own-finished.ensures.count))
