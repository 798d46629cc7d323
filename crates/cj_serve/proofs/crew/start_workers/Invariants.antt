use Rattle.std.specs.Prelude.{◌≡◌, ◌≤◌, length, vec_capacity}
use Rattle.cj_serve.proofs.crew.start_workers.Given as goal

abbrev pub invariant-loop : goal.invariant-loop
invariant-loop g l =
    record {
      filled : length l.shares.items ≡ l.counter;
      within : l.counter ≤ l.count;
      room : l.count ≤ vec_capacity l.shares;
    }
