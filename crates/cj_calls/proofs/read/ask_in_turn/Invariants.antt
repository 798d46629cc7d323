use Rattle.std.proofs.Common.{◌≡◌, ◌<◌, ◌^◌}
use Rattle.cj_calls.proofs.Cited.{BACKEND_LIMIT, QuerySoFar}
use Rattle.cj_calls.proofs.read.ask_in_turn.Given as goal

abbrev pub invariant-loop-b : goal.invariant-loop-b
invariant-loop-b g l =
    record {
      so_far : QuerySoFar l.fn.s l.fn.user l.fn.state l.fn.serving l.left l.state.balance l.state;
      below : l.left < 2 ^ BACKEND_LIMIT;
      cache : l.state.cache ≡ l.fn.state.cache;
    }

abbrev pub decreases-loop-b : goal.decreases-loop-b
decreases-loop-b g l = l.left
