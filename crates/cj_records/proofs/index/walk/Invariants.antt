use Rattle.std.proofs.Common.{◌≡◌, ◌-◌, ◌≤◌, true}
use Rattle.cj_records.proofs.Common.{AllWithin, Reaches, ShowsPart, bodies_at}
use Rattle.cj_outside.specs.Stores.{Stays, Steps}
use Rattle.cj_records.proofs.index.walk.Given as goal

abbrev pub invariant-records : goal.invariant-records
invariant-records g l =
    record {
      before : 4 ≤ l.at;
      behind : l.at ≤ l.size;
      within : AllWithin l.at l.places.items;
      reaches : g.S.Store.tells ≡ true → Reaches l.magic (g.S.Store.held l.fn.store) (bodies_at (g.S.Store.held l.fn.store) l.places.items) l.at;
      shown : g.S.Store.tells ≡ true → ShowsPart (g.S.Store.held l.fn.store) l.window.from l.window.bytes;
      bytes : g.S.Store.tells ≡ true → g.S.Store.held l.store ≡ g.S.Store.held l.fn.store;
      faults : g.S.Store.faults l.store ≡ g.S.Store.faults l.fn.store;
      disk : Steps g.S.Store.moment g.S.Store.may g.S.Store.since Stays l.fn.store l.store;
    }

abbrev pub decreases-records : goal.decreases-records
decreases-records g l = l.size - l.at
