use Rattle.std.proofs.Common.{ℕ, ◌<◌, Contains, sym, ap, ◌∙◌, subst}
use Rattle.cj_board.specs.Points.{max_word}
use Rattle.cj_board.specs.Seats.{pass_view, position}
use Rattle.cj_replica.specs.Seated.{SeatedCell}
use Rattle.cj_replica.proofs.SeatedCalls.{number_of, word_is}
use Rattle.cj_replica.proofs.cell.Cell.report.Goals as goal

pub returns-clause-position : goal.returns-clause-position
returns-clause-position g c p place =
    let number = number_of c.self.inside.seat.b c.self.inside.replica.b _ _ c.self.inside.seat.is_cell c.self.invariant.role ∙ ap (λ (s : SeatedCell). s.state.b) c.self.view_is in
    let word = word_is _ _ _ _ _ c.self.invariant p (ap (λ (s : SeatedCell). s.state.position) c.self.view_is ∙ place) in
    let below : position c.self.inside.seat < max_word = subst (λ (q : ℕ). q < max_word) (sym word.0) word.1 in
    subst (λ (z : ℕ × ℕ). Contains (pass_view c.report.new.p).position_notes z) (λ i. (number i, word.0 i)) (c.report.ensures.position below)
