use Rattle.std.proofs.Common.{◌≡◌, ◌≤◌, List, length, ap, sym, ◌∙◌, subst}
use Rattle.cj_cluster.specs.declared.event.Event.{Event}
use Rattle.cj_cluster.specs.History.Histories.{log}
use Rattle.cj_board.specs.Seats.{front}
use Rattle.cj_book.specs.Books.{BookState}
use Rattle.cj_locked.proofs.Looking.{within_on}
use Rattle.cj_locked.proofs.book.LockedBook.look_for.Goals as goal

pub look_now-requires : goal.look_now-requires
look_now-requires g c =
    let now : c.tell.new.self.book.state.history ≡ front c.tell.new.pass.seat = ap (λ (x : BookState). x.history) c.tell.ensures.state ∙ sym c.tell.ensures.told in
    record { owes = subst (λ (h : List Event). c.args.least ≤ length (log h)) (sym now) (within_on (front c.args.pass.now.seat) (front c.tell.new.pass.seat) c.args.least c.tell.ensures.more.seen.front c.requires.owes) }
