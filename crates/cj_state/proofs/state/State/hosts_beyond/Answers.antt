use Rattle.std.proofs.Common.{◌≡◌, ◌<◌, Some, map, sym, subst, length}
use Rattle.cj_state.proofs.Cited.{IsSoundDump, Layout, WorldState, find_dump, taken_all, taken_of}
use Rattle.cj_state.proofs.state.State.hosts_beyond.Goals as goal

pub hosts_beyond-requires-clause-other : goal.hosts_beyond-requires-clause-other
hosts_beyond-requires-clause-other g c =
    let w = c.self.inside in
    let sound = c.self.invariant.0.world.sound in
    let found = subst (λ (x : WorldState). find_dump x.core.dumps c.requires.taken.0 ≡ Some c.args.dump.now) (sym c.self.view_is) c.requires.taken.1 in
    let taken : IsSoundDump (length w.book.state.layout.names) w.book.state.history c.args.dump.now = taken_all (IsSoundDump (length w.book.state.layout.names) w.book.state.history) (map taken_of w.dumps) c.requires.taken.0 c.args.dump.now sound.dumps found in
    subst (λ (l : Layout). c.args.dump.now.source < length l.names) (sym c.placement.ensures) taken.source
