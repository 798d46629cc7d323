use Rattle.std.proofs.Common.{◌≡◌, ap, sym, ◌∙◌}
use Rattle.cj_board.specs.Seats.{front}
use Rattle.cj_book.specs.Books.{BookState}
use Rattle.cj_locked.proofs.Marking.{mark_begun_earlier}
use Rattle.cj_locked.proofs.book.LockedBook.begin_marker.Goals as goal

pub returns-clause-ok : goal.returns-clause-ok
returns-clause-ok g c =
    let same : front c.tell.new.pass.seat ≡ c.tell.new.self.book.state.history = c.tell.ensures.told ∙ ap (λ (x : BookState). x.history) (sym c.tell.ensures.state) in
    mark_begun_earlier g.S.Store.tells g.S.Store.faults (front c.args.pass.now.seat) (front c.tell.new.pass.seat) c.tell.new.self.book.state.history c.args.name.now c.args.b c.in_ok-begun.begun.turn.share.amount c.in_ok-begun.begun.turn.log c.in_ok-begun.begun.item
    c.tell.ensures.more.seen.front same c.in_ok-begun.ensures.ok
