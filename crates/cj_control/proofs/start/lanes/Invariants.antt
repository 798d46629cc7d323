use Rattle.std.specs.Prelude.{◌≡◌, ◌≤◌, length, vec_capacity}
use Rattle.cj_control.proofs.start.lanes.Given as goal

abbrev pub invariant-loop : goal.invariant-loop
invariant-loop g l =
    record {
      filled : length l.lanes.items ≡ l.counter;
      within : l.counter ≤ l.fn.count;
      room : l.fn.count ≤ vec_capacity l.lanes;
    }
