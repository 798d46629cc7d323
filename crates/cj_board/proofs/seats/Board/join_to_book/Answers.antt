use Rattle.std.proofs.Common.{ℕ, ◌≤◌, ◌∙◌, Contains, arith, subst}
use Rattle.cj_board.proofs.Common.{Contains-append_right, Event, Me, SeatView}
use Rattle.cj_board.specs.Views.{IsBook}
use Rattle.cj_board.proofs.AllowedSteps.{join_to_book_allowed, compare_allowed}
use Rattle.cj_board.proofs.seats.Board.join_to_book.Goals as goal

pub join_seat-requires : goal.join_seat-requires
join_seat-requires c = let sized = c.args.self.now.sized in (c.requires.board.0, c.requires.board.1, c.requires.roles.1, omega arith, join_to_book_allowed _ _ _ _ _ c.requires.roles.0)

pub load-requires : goal.load-requires
load-requires c = let sized = c.args.self.now.sized in (c.join_seat.ensures.0 ∙ c.requires.board.0, omega arith, compare_allowed _ _ _ _)

pub returns-clause-given : goal.returns-clause-given
returns-clause-given c s n has =
    let v : SeatView = c.args.seat.now.me.0 in
    let w : SeatView = c.args.other.me.0 in
    let told = subst (λ (m : Me Event SeatView). IsBook m.0.role → (t k : ℕ) → Contains m.0.count_notes (t, k) → t ≤ m.0.last_given) c.join_seat.ensures.2 c.load.ensures.2.4 in
    told c.requires.roles.0 s n (Contains-append_right v.count_notes w.count_notes (s, n) has)
