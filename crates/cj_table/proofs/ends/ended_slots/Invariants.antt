use Rattle.std.proofs.Common.{◌≡◌, map, take}
use Rattle.cj_table.specs.Ends.{ended}
use Rattle.cj_table.proofs.ends.ended_slots.Given as goal

abbrev pub invariant-loop-slot : goal.invariant-loop-slot
invariant-loop-slot l = l.after.items ≡ map (ended l.end l.tx) (take l.slot-index l.slots)
