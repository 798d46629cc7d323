use Rattle.std.proofs.Common.{◌+◌, ◌≤◌, ℕ, List, length, refl, ap, sym, subst}
use Rattle.cj_state.proofs.Cited.{CoreInvariant, USER_LIMIT, WorldState, session_entry_fits}
use Rattle.cj_state.proofs.state.State.entry_for.Goals as goal

pub returns-clause-fits : goal.returns-clause-fits
returns-clause-fits g c =
    let z = c.args.self.now.core in
    let sound = subst (λ (x : WorldState). CoreInvariant x.core) c.self.view_is c.self.invariant.0.world.sound in
    let number = ap (λ (n : ℕ). n + 1) c.requests.ensures in
    let short = subst (λ (user : List ℕ). length user ≤ USER_LIMIT) (sym c.in_ok-copy.ensures) c.requires.short in
    session_entry_fits z c.args.s (record { session = c.args.s; seq = c.requests.result + 1; tx = c.args.tx; user = c.in_ok-copy.field-0; act = c.args.act }) refl number c.requires.written short c.requires.allowed c.requires.counts sound c.requires.here
