use Rattle.std.proofs.Common.{ℕ, ◌≤◌, Contains, ap, subst}
use Rattle.cj_board.proofs.Common.{Event, Me, SeatView}
use Rattle.cj_board.proofs.Reports.{own_given}
use Rattle.cj_board.proofs.seats.Board.tell.Goals as goal

pub returns-clause-given : goal.returns-clause-given
returns-clause-given c =
    let p : SeatView = c.args.p.now.seat.me.0 in
    let last : ℕ = c.args.s.now.seat.me.0.last_given in
    own_given p.own_session p.count last p.count_notes
    (subst (λ (u : SeatView). (s n : ℕ) → Contains u.count_notes (s, n) → s ≤ last) (ap (λ (m : Me Event SeatView). m.0) c.split_without_tokens-before.ensures.3) c.join_to_book.ensures.given)
