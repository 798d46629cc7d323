use Rattle.std.proofs.Common.{arith}
use Rattle.cj_cluster.proofs.Sessions.{rises_push}
use Rattle.cj_open_sessions.proofs.sessions.Sessions.open.Goals as goal

pub invariant_of-self : goal.invariant_of-self
invariant_of-self c = record {
  rises = rw c.push_reserved.ensures.items (rises_push c.self.inside.open.items _ (rw c.self.view_is c.requires.above) c.self.invariant.rises);
  room = omega (arith, c.self.invariant.room);
}
