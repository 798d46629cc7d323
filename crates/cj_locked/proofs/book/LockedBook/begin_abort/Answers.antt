use Rattle.std.proofs.Common.{rules, ◌≡◌, true, ap, sym, ◌∙◌, subst}
use Rattle.cj_model.specs.declared.request.Entry.{Entry}
use Rattle.cj_cluster.specs.History.Histories.{log}
use Rattle.cj_board.specs.Seats.{front}
use Rattle.cj_place.specs.Layouts.{placement_of}
use Rattle.cj_book.specs.Books.{is_orphan, BookState}
use Rattle.cj_locked.specs.Orphans.{abort_entry_of}
use Rattle.cj_locked.proofs.Orphans.{abort_begun_earlier}
use Rattle.cj_locked.proofs.book.LockedBook.begin_abort.Goals as goal

pub begin_orphan-requires-clause-orphan : goal.begin_orphan-requires-clause-orphan
begin_orphan-requires-clause-orphan g c =
    let orphan : is_orphan c.tell.new.self.book.state c.args.tx ≡ true = search rules in
    subst (λ t. is_orphan c.tell.new.self.book.state t ≡ true) (sym (ap (λ (x : Entry). x.tx) c.in_ok-entry.ensures)) orphan

pub begin_orphan-requires-clause-is : goal.begin_orphan-requires-clause-is
begin_orphan-requires-clause-is g c = c.in_ok-entry.ensures ∙ ap (abort_entry_of (log c.tell.new.self.book.state.history)) (sym (ap (λ (x : Entry). x.tx) c.in_ok-entry.ensures))

pub returns-clause-ok : goal.returns-clause-ok
returns-clause-ok g c =
    let same : front c.tell.new.pass.seat ≡ c.tell.new.self.book.state.history = c.tell.ensures.told ∙ ap (λ (x : BookState). x.history) (sym c.tell.ensures.state) in
    let b = c.in_ok-begun.begun in
    abort_begun_earlier g.S.Store.tells g.S.Store.faults (placement_of g.J.Naming.layout) (front c.args.pass.now.seat) (front c.tell.new.pass.seat) c.tell.new.self.book.state.history c.args.tx c.in_ok-entry.entry c.in_ok-copy.copy b.prepared b.turn.share.amount b.turn.log b.item
    c.tell.ensures.more.seen.front same (ap (λ (x : Entry). x.tx) c.in_ok-entry.ensures) (c.in_ok-copy.ensures ∙ sym c.in_ok-entry.ensures) c.in_ok-begun.ensures.ok
