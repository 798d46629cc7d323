use Rattle.std.proofs.Common.{ap, ◌∙◌}
use Rattle.cj_replica.specs.Seated.{SeatedCell}
use Rattle.cj_replica.proofs.SeatedCalls.{number_of}
use Rattle.cj_replica.proofs.cell.Cell.number.Goals as goal

pub returns-clause-number : goal.returns-clause-number
returns-clause-number g c =
    c.backend.ensures ∙ (number_of c.self.inside.seat.b c.self.inside.replica.b _ _ c.self.inside.seat.is_cell c.self.invariant.role ∙ ap (λ (s : SeatedCell). s.state.b) c.self.view_is)
