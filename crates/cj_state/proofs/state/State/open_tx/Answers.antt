use Rattle.std.proofs.Common.{◌≡◌, true, sym, ◌∙◌, subst}
use Rattle.cj_state.proofs.Cited.{WorldState, is_open, open_is, states_of}
use Rattle.cj_state.proofs.state.State.open_tx.Goals as goal

pub open_tx-requires : goal.open_tx-requires
open_tx-requires g c =
    let w = c.self.inside in
    open_is w.book.state (states_of w.cells.items) w.tally.failed w.tally.starved w.sessions w.dumps c.self.invariant.0.numbers_are c.args.s ∙ subst (λ (x : WorldState). is_open x.core c.args.s ≡ true) (sym c.self.view_is) c.requires
