use Rattle.std.proofs.Common.{◌≡◌, ◌++◌, take, drop}
use Rattle.cj_model.specs.Database.Tables.{by_table, put_by}
use Rattle.cj_table.proofs.slots.place_of.Given as goal

abbrev pub invariant-loop-i : goal.invariant-loop-i
invariant-loop-i l = put_by by_table l.slots l.slot ≡ take l.i l.slots ++ put_by by_table (drop l.i l.slots) l.slot
