use Rattle.std.proofs.Common.{sym, subst}
use Rattle.cj_table.proofs.Cited.{IsDatabase, dropped_keeps}
use Rattle.cj_table.proofs.tables.Tables.drop_table.Goals as goal

pub invariant_of-self : goal.invariant_of-self
invariant_of-self c = subst IsDatabase (sym c.drop_slot.ensures.slots) (dropped_keeps c.self.inside.slots.items c.args.table.now c.self.invariant)
