use Rattle.std.proofs.Common.{◌≡◌, false, sym, subst}
use Rattle.cj_state.proofs.Cited.{HaveFailed, WorldState, is_waiting, kept_reading, states_of}
use Rattle.cj_state.proofs.state.State.keep_reading.Goals as goal

pub invariant_of-self : goal.invariant_of-self
invariant_of-self g c =
    let w = c.self.inside in
    let idle = subst (λ (x : WorldState). is_waiting x.core c.args.s ≡ false) (sym c.self.view_is) c.requires.idle in
    let since = subst (λ (x : WorldState). HaveFailed x.core c.args.s c.args.tried) (sym c.self.view_is) c.requires.since in
    rw c.keep_reading.ensures (kept_reading g.B.Backend.tells w.accounts w.book.state.layout w.book.state.history (states_of w.cells.items) w.tally.failed w.tally.starved w.sessions w.book.state.greatest w.dumps w.book.state.sessions w.tally c.self.invariant.0 c.args.s c.args.select c.args.tried idle since, c.self.invariant.1, c.self.invariant.2, c.self.invariant.3, c.self.invariant.4)
