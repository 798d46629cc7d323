use Rattle.std.proofs.Common.{◌≡◌, None, false, sym, subst}
use Rattle.cj_state.proofs.Cited.{WorldState, is_waiting, kept_counted, session_at, states_of}
use Rattle.cj_state.proofs.state.State.count.Goals as goal

pub invariant_of-self : goal.invariant_of-self
invariant_of-self g c =
    let w = c.self.inside in
    let idle = subst (λ (x : WorldState). is_waiting x.core c.args.s ≡ false) (sym c.self.view_is) c.requires.idle in
    let none = subst (λ (x : WorldState). (session_at x.core c.args.s).reading ≡ None) (sym c.self.view_is) c.requires.no_read in
    rw c.count.ensures (kept_counted g.B.Backend.tells w.accounts w.book.state.layout w.book.state.history (states_of w.cells.items) w.tally.failed w.tally.starved w.sessions w.book.state.greatest w.dumps w.book.state.sessions w.tally c.self.invariant.0 c.args.s none idle, c.self.invariant.1, c.self.invariant.2, c.self.invariant.3, c.self.invariant.4)
