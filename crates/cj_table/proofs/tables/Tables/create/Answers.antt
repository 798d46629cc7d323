use Rattle.cj_table.proofs.Cited.{carried_is_database, created, created_keeps}
use Rattle.cj_table.proofs.tables.Tables.create.Goals as goal

pub invariant_of-self : goal.invariant_of-self
invariant_of-self c =
    let old = c.self.inside.slots.items in
    carried_is_database old (created old c.args.create.now) c.create_slot.result c.create_slot.new.slots.items c.self.invariant
    (created_keeps old c.args.create.now c.requires c.self.invariant)
    c.create_slot.ensures
