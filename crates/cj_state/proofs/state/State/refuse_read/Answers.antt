use Rattle.std.proofs.Common.{◌≡◌, false, sym, subst}
use Rattle.cj_state.proofs.Common.{is_waiting, states_of, WorldState}
use Rattle.cj_state.proofs.Keeping.{kept_refused}
use Rattle.cj_state.proofs.state.State.refuse_read.Goals as goal

pub invariant_of-self : goal.invariant_of-self
invariant_of-self g c =
    let w = c.self.inside in
    let idle = subst (λ (x : WorldState). is_waiting x.core c.args.s ≡ false) (sym c.self.view_is) c.requires.idle in
    rw c.refuse_read.ensures (kept_refused g.B.Backend.tells w.accounts w.book.state.layout w.book.state.history (states_of w.cells.items) w.tally.failed w.tally.starved w.sessions w.book.state.greatest w.dumps w.book.state.sessions w.tally c.self.invariant.0 c.args.s idle, c.self.invariant.1, c.self.invariant.2, c.self.invariant.3, c.self.invariant.4)
