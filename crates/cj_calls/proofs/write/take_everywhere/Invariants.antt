use Rattle.std.proofs.Common.{◌≡◌, false}
use Rattle.cj_calls.proofs.Cited.{TakenTo, is_free}
use Rattle.cj_calls.proofs.write.take_everywhere.Given as goal

abbrev pub invariant-loop-b : goal.invariant-loop-b
invariant-loop-b g l =
    record {
      to : TakenTo l.fn.state l.state l.b;
      running : is_free l.state.core.history ≡ false;
      placement : l.state.core.placement ≡ l.fn.state.core.placement;
    }
