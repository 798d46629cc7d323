use Rattle.std.proofs.Common.{◌≡◌, ◌≤◌, ◌-◌, true, length, take}
use Rattle.cj_outside.specs.Stores.{Stays, Steps}
use Rattle.cj_outside.proofs.store.read_store.Given as goal

abbrev pub invariant-loop-at : goal.invariant-loop-at
invariant-loop-at g l =
    record {
      count : l.at ≡ length l.bytes.items;
      within : l.at ≤ l.len;
      read : g.S.Store.tells ≡ true → l.bytes.items ≡ take l.at (g.S.Store.held l.fn.store);
      bytes : g.S.Store.tells ≡ true → g.S.Store.held l.store ≡ g.S.Store.held l.fn.store;
      faults : g.S.Store.faults l.store ≡ g.S.Store.faults l.fn.store;
      disk : Steps g.S.Store.moment g.S.Store.may g.S.Store.since Stays l.fn.store l.store;
    }

abbrev pub decreases-loop-at : goal.decreases-loop-at
decreases-loop-at g l = l.len - l.at
