use Rattle.std.proofs.Common.{◌≡◌, ◌++◌}
use Rattle.cj_table.proofs.Common.{All, IsSlot}
use Rattle.cj_table.proofs.conversion.stored_slots.Given as goal

abbrev pub invariant-loop-slot : goal.invariant-loop-slot
invariant-loop-slot l = record {
  can_next : (goal.iterator-loop-slot).can_next l.slot-iterator;
  is_finite : (goal.iterator-loop-slot).is_finite l.slot-iterator;
  are_slots : All IsSlot l.slot-iterator.rest.items;
  all : l.slots.items ++ l.slot-iterator.rest.items ≡ l.fn.db;
}
