use Rattle.std.proofs.Common.{◌≡◌, ◌-◌, vec_len}
use Rattle.cj_port.proofs.spawner.Spawner.join_ended.Given as goal

abbrev pub invariant-loop-at : goal.invariant-loop-at
invariant-loop-at g l = (l.self.most ≡ l.fn.self.most) × (l.self.refusals ≡ l.fn.self.refusals)

abbrev pub decreases-loop-at : goal.decreases-loop-at
decreases-loop-at g l = vec_len l.self.running - l.at
