use Rattle.std.proofs.Common.{ap, ◌∙◌}
use Rattle.cj_state.proofs.Cited.{WorldState, is_orphan, orphan_is, states_of}
use Rattle.cj_state.proofs.state.State.is_orphan.Goals as goal

pub returns : goal.returns
returns g c =
    let w = c.self.inside in
    c.is_orphan.ensures
    ∙ (orphan_is w.book.state (states_of w.cells.items) w.tally.failed w.tally.starved w.sessions w.dumps c.self.invariant.0.numbers_are c.args.tx ∙ ap (λ (x : WorldState). is_orphan x.core c.args.tx) c.self.view_is)
