use Rattle.cj_table.proofs.Cited.{carried_is_database, written, written_keeps}
use Rattle.cj_table.proofs.tables.Tables.write.Goals as goal

pub invariant_of-self : goal.invariant_of-self
invariant_of-self c =
    let old = c.self.inside.slots.items in
    carried_is_database old (written old c.args.tx c.args.write.now) c.write_slots.result c.write_slots.new.slots.items c.self.invariant
    (written_keeps old c.args.tx c.args.write.now c.self.invariant)
    c.write_slots.ensures
