use Rattle.std.proofs.Common.{◌≡◌, ◌<◌, ◌++◌, ℕ, List, [], length, map, true, false}
use Rattle.std.specs.declared.option.Option.{Option}
use Rattle.cj_workload.proofs.Common.{All, EachHolds, in_mask, rows_in, Slot, times_armed, Value}
use Rattle.cj_workload.proofs.asking.ask_each.Given as goal

abbrev pub invariant-loop-backend : goal.invariant-loop-backend
invariant-loop-backend g l = record {
  all : l.yielded ++ l.backend-iterator.rest.items ≡ l.fn.backends.items;
  place : l.b ≡ length l.yielded;
  same : (rows : Option (List (List Value))) → EachHolds l.mask (map g.B.Backend.told l.fn.backends.items) rows → All (λ (db : List Slot). rows_in db ≡ rows) l.held;
  none : ((b : ℕ) → in_mask l.mask b ≡ false) → l.held ≡ [];
  faults : map g.B.Backend.faults l.asked ≡ map g.B.Backend.faults l.yielded;
  armings : times_armed g.B.Backend.arming l.asked ≡ times_armed g.B.Backend.arming l.yielded;
  some : (b : ℕ) → b < length l.yielded → in_mask l.mask b ≡ true → 0 < length l.held;
}
