use Rattle.std.proofs.Common.{◌≡◌}
use Rattle.cj_ptree.specs.Walks.{nodes_left, pairs_left}
use Rattle.cj_ptree.proofs.walk.Rest.next.Given as goal

abbrev pub invariant-loop-self : goal.invariant-loop-self
invariant-loop-self g l = pairs_left l.self ≡ pairs_left l.fn.self

abbrev pub decreases-loop-self : goal.decreases-loop-self
decreases-loop-self g l = nodes_left l.self
