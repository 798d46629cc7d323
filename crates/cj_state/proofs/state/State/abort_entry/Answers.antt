use Rattle.std.proofs.Common.{◌≡◌, ◌<◌, ◌-◌, Some, slice_get, sym, subst}
use Rattle.cj_state.proofs.Cited.{CoreInvariant, IsFitEntry, WorldState, abort_fits, abort_is, log}
use Rattle.cj_state.proofs.state.State.abort_entry.Goals as goal

pub returns-clause-fits : goal.returns-clause-fits
returns-clause-fits g c =
    let z = c.args.self.now.core in
    let sound = subst (λ (x : WorldState). CoreInvariant x.core) c.self.view_is c.self.invariant.0.world.sound in
    let there = subst (λ (x : WorldState). 0 < c.args.tx → Some c.in-Some.begin.now ≡ slice_get (log x.core.history) (c.args.tx - 1)) c.self.view_is c.in-Some.ensures.numbered in
    subst (IsFitEntry (log z.history)) (sym (abort_is z c.args.tx c.in-Some.begin.now c.in_ok-copy-in-Some.field-0 c.requires there c.in_ok-copy-in-Some.ensures)) (abort_fits z c.args.tx sound c.requires)
