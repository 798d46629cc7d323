use Rattle.std.proofs.Common.{rules, ◌≡◌, ◌+◌, true, Some, ap, sym, ◌∙◌, subst, inr}
use Rattle.cj_model.specs.declared.request.Entry.{Entry}
use Rattle.cj_cluster.specs.History.Histories.{log}
use Rattle.cj_cluster.specs.History.Legality.{IsFitEntry}
use Rattle.cj_place.specs.Layouts.{placement_of}
use Rattle.cj_book.specs.BookLogs.{BookLogState, LogFollows}
use Rattle.cj_book.specs.Books.{is_orphan, placement_at, BookState}
use Rattle.cj_book.specs.declared.pending.Pending.TheVariants as pending
use Rattle.cj_locked.specs.Locked.{IsVacant}
use Rattle.cj_locked.specs.Orphans.{abort_entry_of, BeginsAbortSince, RefusesAbort}
use Rattle.cj_locked.specs.Turns.{turn_amount}
use Rattle.cj_locked.proofs.Beginning.{amount_begun}
use Rattle.cj_locked.proofs.Orphans.{abort_begins, abort_fits, abort_refused}
use Rattle.cj_locked.proofs.Holding.{taken_vacant}
use Rattle.cj_locked.proofs.book.LockedBook.begin_orphan.Goals as goal

pub begin_entry-requires-clause-fit : goal.begin_entry-requires-clause-fit
begin_entry-requires-clause-fit g c =
    let same : c.args.self.now.book.state ≡ c.self.inside.book.state = search rules in
    let orphan = subst (λ (b : BookState). is_orphan b c.args.e.now.tx ≡ true) same c.requires.orphan in
    let is = subst (λ (b : BookState). c.args.e.now ≡ abort_entry_of (log b.history) c.args.e.now.tx) same c.requires.is in
    λ idle. subst (IsFitEntry (log c.self.inside.book.state.history)) (sym is) (abort_fits c.self.inside.book.state c.args.e.now.tx c.legal.ensures.legal orphan)

pub begin_entry-requires-clause-given : goal.begin_entry-requires-clause-given
begin_entry-requires-clause-given g c =
    let same : c.args.self.now.book.state ≡ c.self.inside.book.state = search rules in
    let orphan = subst (λ (b : BookState). is_orphan b c.args.e.now.tx ≡ true) same c.requires.orphan in
    inr (ap (λ (x : Entry). x.session) c.requires.is, orphan)

pub returns-in-Ok-clause-ok : goal.returns-in-Ok-clause-ok
returns-in-Ok-clause-ok g c =
    let p = placement_of g.J.Naming.layout in
    let t = g.S.Store.tells in
    let n = g.S.Store.faults in
    let old = c.self.inside.book.state in
    let e = c.args.e.now in
    let vacant : IsVacant t n c.self.inside.book c.taken-turn.result.log = search rules in
    let laid : placement_at old ≡ p = ap placement_of c.self.invariant.laid in
    let same : c.args.self.now.book.state ≡ old = search rules in
    let orphan = subst (λ (b : BookState). is_orphan b e.tx ≡ true) same c.requires.orphan in
    let is = subst (λ (b : BookState). e ≡ abort_entry_of (log b.history) e.tx) same c.requires.is in
    let fit : IsFitEntry (log old.history) e = subst (IsFitEntry (log old.history)) (sym is) (abort_fits old e.tx c.legal.ensures.legal orphan) in
    let same_log : c.count.new.self.log ≡ c.taken-turn.result.log = c.count.ensures.log ∙ c.audit.ensures.log in
    let amount : c.count.new.self.share.amount ≡ turn_amount old.history (Some pending.Entry) = c.count.ensures.amount
    ∙ (ap (λ k. k + 1) (c.audit.ensures.amount ∙ (c.audit.ensures.whole ∙ c.self.invariant.counted)) ∙ amount_begun old.history c.self.inside.book.pending vacant.unpending)
    in
    subst (λ (b : BookState). BeginsAbortSince t n p b.history b.history e.tx e e c.in-Ok.field-0.prepared c.count.new.self.share.amount c.count.new.self.log c.in-Ok.field-0.item) (sym same)
    (abort_begins t n p old laid e c.in-Ok.field-0.prepared c.count.new.self.share.amount c.count.new.self.log c.in-Ok.field-0.item is c.in-Ok.ensures.begins.ready fit c.in-Ok.ensures.prepared c.in-Ok.ensures.item
    (subst (λ (l : BookLogState _). LogFollows t n l old.history) (sym same_log) vacant.follows) amount)

pub returns-in-Err-clause-err : goal.returns-in-Err-clause-err
returns-in-Err-clause-err g c =
    let old = c.self.inside.book.state in
    let vacant : IsVacant g.S.Store.tells g.S.Store.faults c.self.inside.book c.taken-turn.result.log = taken_vacant g.S.Store.tells g.S.Store.faults c.self.inside.book _ c.taken-turn.result.log c.taken-turn.ensures.log c.self.invariant.vacant in
    let same : c.args.self.now.book.state ≡ old = search rules in
    let is = c.requires.is in
    subst (λ (b : BookState). RefusesAbort b.history c.in-Err.error) (sym same) (abort_refused old c.args.e.now (ap (λ (x : Entry). x.act) is) vacant.idle c.begin_entry.result c.begin_entry.ensures.begins c.in-Err.error c.in-Err.is)
