use Rattle.std.proofs.Common.{ℕ, sym, subst}
use Rattle.std.specs.Prelude.{Contains}
use Rattle.cj_board.proofs.Common.{Contains-append_left, Contains-append_right}
use Rattle.cj_board.specs.Seats.{position}
use Rattle.cj_board.specs.declared.view.SeatView.{SeatView}
use Rattle.cj_part_tests.proofs.board.hear_both.Goals as goal

pub returns-clause-first : goal.returns-clause-first
returns-clause-first c lt =
    let note : ℕ × ℕ = (c.args.first.now.b, position c.args.first.now) in
    let both = subst (λ (v : SeatView). Contains v.position_notes note) (sym c.report-2.ensures.pass) (Contains-append_left _ _ note (c.report.ensures.position lt)) in
    subst (λ (v : SeatView). Contains v.position_notes note) (sym c.learn.ensures.book) (Contains-append_right _ _ note (Contains-append_left _ _ note both))

pub returns-clause-second : goal.returns-clause-second
returns-clause-second c lt =
    let note : ℕ × ℕ = (c.args.second.now.b, position c.args.second.now) in
    subst (λ (v : SeatView). Contains v.position_notes note) (sym c.learn.ensures.book) (Contains-append_right _ _ note (Contains-append_left _ _ note (c.report-2.ensures.position lt)))
