use Rattle.std.proofs.Common.{◌≡◌, ◌+◌}
use Rattle.cj_board.specs.Seats.{pass_view}
use Rattle.cj_serve.proofs.serving.Service.accept_some.Given as goal

-- so many came, the port counted no fault, and the pass is as it was
abbrev pub invariant-loop : goal.invariant-loop
invariant-loop g l = record {
  came : g.P.Port.accepted l.port ≡ g.P.Port.accepted l.fn.port + l.counter;
  faults : g.P.Port.faults l.port ≡ g.P.Port.faults l.fn.port;
  same : pass_view l.pass.seat ≡ pass_view l.fn.pass.seat;
}
