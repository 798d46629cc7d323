use Rattle.std.proofs.Common.{◌≡◌, ◌+◌, ◌-◌, ◌≤◌, ◌++◌, true, length, take, drop}
use Rattle.cj_outside.specs.Stores.{Stays, Steps}
use Rattle.cj_records.proofs.parts.fill.Given as goal

abbrev pub invariant-loop-count : goal.invariant-loop-count
invariant-loop-count g l =
    record {
      within : l.count ≤ length l.buf;
      read : g.S.Store.tells ≡ true → drop l.at (g.S.Store.held l.fn.store) ≡ take l.count l.buf ++ drop (l.at + l.count) (g.S.Store.held l.fn.store);
      bytes : g.S.Store.tells ≡ true → g.S.Store.held l.store ≡ g.S.Store.held l.fn.store;
      faults : g.S.Store.faults l.store ≡ g.S.Store.faults l.fn.store;
      disk : Steps g.S.Store.moment g.S.Store.may g.S.Store.since Stays l.fn.store l.store;
    }

abbrev pub decreases-loop-count : goal.decreases-loop-count
decreases-loop-count g l = length l.initial.buf - l.count
