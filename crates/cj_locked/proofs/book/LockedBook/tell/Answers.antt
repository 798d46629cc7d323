use Rattle.std.proofs.Common.{ap}
use Rattle.cj_board.specs.Seats.{pass_view}
use Rattle.cj_board.specs.Views.{pass_without_tokens}
use Rattle.cj_book.specs.Books.{BookState}
use Rattle.cj_locked.proofs.Changing.{heard_notes}
use Rattle.cj_locked.proofs.Noting.{keeps_learning, locked_still, still_noted}
use Rattle.cj_pass.proofs.Passes.{noted_joined}
use Rattle.cj_locked.proofs.book.LockedBook.tell.Goals as goal

pub invariant_of-self : goal.invariant_of-self
invariant_of-self g c =
    let old = c.self.inside.book in
    let new = c.tell.new.self in
    locked_still g.J.Naming.board g.J.Naming.layout g.S.Store.tells g.S.Store.faults c.self.inside.ledger.total old new _ c.self.invariant (ap (λ (x : BookState). x.history) c.tell.ensures.state) c.tell.ensures.pending c.tell.ensures.board.0
    (ap (λ (x : BookState). x.layout) c.tell.ensures.state) (c.tell.ensures.still_gives c.self.invariant.gives)
    (still_noted old.view new.view (keeps_learning old.view (pass_without_tokens (pass_view c.args.pass.now.seat)) new.view c.tell.ensures.book) c.self.invariant.noted)

pub returns-clause-more : goal.returns-clause-more
returns-clause-more g c = noted_joined (pass_view c.args.pass.now.seat) (pass_without_tokens c.tell.new.self.view) (pass_view c.tell.new.p) c.tell.ensures.pass c.tell.ensures.longer

pub returns-clause-heard : goal.returns-clause-heard
returns-clause-heard g c = heard_notes c.self.inside.book.view (pass_view c.args.pass.now.seat) c.tell.new.self.view c.tell.ensures.book
