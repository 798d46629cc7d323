use Rattle.std.proofs.Common.{◌≡◌, take}
use Rattle.cj_table.proofs.conversion.copied_slots.Given as goal

abbrev pub invariant-loop-slot : goal.invariant-loop-slot
invariant-loop-slot l = l.db ≡ take l.slot-index l.slots
