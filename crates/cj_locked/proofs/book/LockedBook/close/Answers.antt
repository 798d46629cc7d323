use Rattle.std.proofs.Common.{ap}
use Rattle.cj_board.specs.declared.view.SeatView.{SeatView}
use Rattle.cj_book.specs.Books.{BookState}
use Rattle.cj_locked.proofs.Noting.{keeps_more, locked_still, still_noted}
use Rattle.cj_locked.proofs.book.LockedBook.close.Goals as goal

pub invariant_of-self : goal.invariant_of-self
invariant_of-self g c =
    let old = c.self.inside.book in
    let new = c.close_own.new.self in
    locked_still g.J.Naming.board g.J.Naming.layout g.S.Store.tells g.S.Store.faults c.self.inside.ledger.total old new _ c.self.invariant (ap (λ (x : BookState). x.history) c.close_own.ensures.state) c.close_own.ensures.pending c.close_own.ensures.board
    (ap (λ (x : BookState). x.layout) c.close_own.ensures.state) (c.close_own.ensures.still_gives c.self.invariant.gives)
    (still_noted old.view new.view (keeps_more old.view new.view _ (ap (λ (x : SeatView). x.last_given) c.close_own.ensures.seat) (ap (λ (x : SeatView). x.front) c.close_own.ensures.seat) (ap (λ (x : SeatView). x.count_notes) c.close_own.ensures.seat)) c.self.invariant.noted)
