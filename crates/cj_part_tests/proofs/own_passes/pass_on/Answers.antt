use Rattle.std.proofs.Common.{sym, subst}
use Rattle.std.specs.Prelude.{Contains}
use Rattle.cj_board.proofs.Common.{Contains-append_left, Contains-append_right}
use Rattle.cj_board.specs.declared.view.SeatView.{SeatView}
use Rattle.cj_part_tests.proofs.own_passes.pass_on.Goals as goal

pub returns-clause-noted : goal.returns-clause-noted
returns-clause-noted c note has =
    let learned = subst (λ (v : SeatView). Contains v.position_notes note) (sym c.learn.ensures.book) (Contains-append_right _ _ note (Contains-append_left _ _ note has)) in
    let told = subst (λ (v : SeatView). Contains v.position_notes note) (sym c.tell.ensures.book) (Contains-append_left _ _ note learned) in
    subst (λ (v : SeatView). Contains v.position_notes note) (sym c.tell.ensures.pass) (Contains-append_right _ _ note (Contains-append_left _ _ note told))
