use Rattle.std.proofs.Common.{◌≡◌, ◌≤◌, false, length, sym, subst}
use Rattle.cj_state.proofs.Cited.{WorldState, is_waiting, kept_reached, log, states_of}
use Rattle.cj_state.proofs.state.State.answer_read.Goals as goal

pub invariant_of-self : goal.invariant_of-self
invariant_of-self g c =
    let w = c.self.inside in
    let within = subst (λ (x : WorldState). c.args.position ≤ length (log x.core.history)) (sym c.self.view_is) c.requires.within in
    let idle = subst (λ (x : WorldState). is_waiting x.core c.args.s ≡ false) (sym c.self.view_is) c.requires.idle in
    rw c.answer_read.ensures (kept_reached g.B.Backend.tells w.accounts w.book.state.layout w.book.state.history (states_of w.cells.items) w.tally.failed w.tally.starved w.sessions w.book.state.greatest w.dumps w.book.state.sessions w.tally c.self.invariant.0 c.args.s c.args.position within idle, c.self.invariant.1, c.self.invariant.2, c.self.invariant.3, c.self.invariant.4)
