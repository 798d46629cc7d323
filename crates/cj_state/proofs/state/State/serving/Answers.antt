use Rattle.std.proofs.Common.{List, sym, ap, ◌∙◌, ℕ}
use Rattle.cj_state.proofs.Cited.{WorldState, candidates_serve, is_candidate}
use Rattle.cj_state.proofs.state.State.serving.Goals as goal

pub returns-clause-mask : goal.returns-clause-mask
returns-clause-mask g c =
    let same = sym c.self.view_is in
    candidates_serve c.args.self.now.core c.self.inside.book.state c.args.select.now c.candidates.result (ap (λ (w : WorldState). w.core.placement) same) (ap (λ (w : WorldState). w.core.history) same)
    (λ b. c.candidates.ensures.hosts b ∙ ap (λ (tables : List (List ℕ)). is_candidate c.self.inside.book.state tables b) c.as_slice.ensures)
