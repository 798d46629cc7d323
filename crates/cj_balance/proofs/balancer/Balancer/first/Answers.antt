use Rattle.std.proofs.Common.{arith}
use Rattle.cj_model.specs.Cluster.Balancing.{is_ahead}
use Rattle.cj_balance.proofs.Firsts.{first_of_few}
use Rattle.cj_balance.proofs.balancer.Balancer.first.Goals as goal

pub returns-then-candidates-b-eq0 : goal.returns-then-candidates-b-eq0
returns-then-candidates-b-eq0 c =
    let b = c.args.self.now in
    let lt = c.loop-b-test.true in
    first_of_few (is_ahead b.policy b.weights b.standing) c.args.candidates c.loop-b.b c.loop-b.first c.if-candidates-b-eq0.true (omega (arith, lt)) c.loop-b.invariant
