use Rattle.std.proofs.Common.{◌≡◌, ◌∙◌, ◌<◌, ◌≤◌, ◌==◌, not, length, arith, subst, sym}
use Rattle.std.proofs.lemmas.List.Elements.{All-filter}
use Rattle.cj_board.proofs.Common.{Event, Me, SeatView}
use Rattle.cj_board.specs.Steps.{after_closing}
use Rattle.cj_board.specs.Views.{AreGiven, IsBook}
use Rattle.cj_board.proofs.AllowedSteps.{close_allowed, compare_allowed}
use Rattle.cj_board.proofs.seats.Board.close_own.Goals as goal

pub join_seat-requires : goal.join_seat-requires
join_seat-requires c = let sized = c.args.self.now.sized in (c.requires.board.0, c.requires.board.1, c.args.p.empty, omega arith, close_allowed _ _ _ _ _ c.args.s.now.is_book c.args.s.now.not_own c.requires.own)

pub load-requires : goal.load-requires
load-requires c = let sized = c.args.self.now.sized in (c.join_seat.ensures.0 ∙ c.requires.board.0, omega arith, compare_allowed _ _ _ _)

pub invariant_of-s : goal.invariant_of-s
invariant_of-s c =
    let s = c.args.s.now in
    let v : SeatView = s.seat.me.0 in
    let w : SeatView = c.args.p.seat.me.0 in
    let whole = c.load.ensures.2.0 ∙ c.join_seat.ensures.2 in
    let given : AreGiven (after_closing v w).given v.last_given = All-filter (λ t. not (t == w.own_session)) (λ t. (0 < t) × (t ≤ v.last_given)) v.given s.given in
    record {
      counts = subst (λ (m : Me Event SeatView). s.events ≡ length m.0.front) (sym whole) s.counts;
      is_book = subst (λ (m : Me Event SeatView). IsBook m.0.role) (sym whole) s.is_book;
      not_own = subst (λ (m : Me Event SeatView). m.0.own_session ≡ 0) (sym whole) s.not_own;
      given = subst (λ (m : Me Event SeatView). AreGiven m.0.given m.0.last_given) (sym whole) given;
    }
