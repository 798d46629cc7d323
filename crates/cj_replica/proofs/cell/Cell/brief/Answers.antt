use Rattle.std.proofs.Common.{Contains, refl, sym, ap, ◌∙◌, subst}
use Rattle.cj_board.specs.declared.view.SeatView.{SeatView}
use Rattle.cj_board.specs.Points.{StandsAtEnd}
use Rattle.cj_board.specs.Seats.{cell_view, pass_view}
use Rattle.cj_board.specs.Views.{role_position}
use Rattle.cj_replica.specs.Seated.{SeatedCell}
use Rattle.cj_replica.proofs.SeatedCalls.{number_of, seated_longer, stands_seen}
use Rattle.cj_replica.proofs.cell.Cell.brief.Goals as goal

pub invariant_of-self : goal.invariant_of-self
invariant_of-self g c =
    seated_longer _ _ _ _ _ _ _ _ c.self.invariant refl (ap (λ (v : SeatView). v.role) c.brief.ensures.cell) (ap (λ (v : SeatView). v.faults) c.brief.ensures.cell) c.brief.ensures.seen.1
    c.brief.ensures.legal

pub returns-clause-faults : goal.returns-clause-faults
returns-clause-faults g c n noted =
    let number = number_of c.self.inside.seat.b c.self.inside.replica.b _ _ c.self.inside.seat.is_cell c.self.invariant.role ∙ ap (λ (s : SeatedCell). s.state.b) c.self.view_is in
    c.brief.ensures.faults n (subst (λ b. Contains (pass_view c.args.pass.now).fault_notes (b, n)) (sym number) noted)

pub returns-clause-stands : goal.returns-clause-stands
returns-clause-stands g c =
    let number = number_of c.self.inside.seat.b c.self.inside.replica.b _ _ c.self.inside.seat.is_cell c.self.invariant.role in
    stands_seen c.self.inside.replica.b c.self.inside.replica.position (cell_view c.brief.new.c) (ap (λ (v : SeatView). v.role) c.brief.ensures.cell ∙ c.self.invariant.role) c.brief.ensures.legal
    (subst (λ b. StandsAtEnd b (role_position (cell_view c.brief.new.c).role) (cell_view c.brief.new.c).front (cell_view c.brief.new.c).front) number c.brief.ensures.stands)
