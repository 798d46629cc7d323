use Rattle.std.proofs.Common.{◌≡◌, List, sym, subst, ap, ◌∙◌}
use Rattle.cj_table.proofs.Cited.{IfSome, IsSlot, Option, Slot, Some, found_is_slot, slot_of}
use Rattle.cj_table.proofs.tables.Tables.view.Goals as goal

pub of-requires : goal.of-requires
of-requires c =
    let name = c.args.table.now in
    let found : slot_of c.self.inside.slots.items name ≡ Some c.in-Some.slot.now = ap (λ (db : List Slot). slot_of db name) (sym c.deref.ensures.value) ∙ sym c.in-Some.ensures in
    subst (λ (o : Option Slot). IfSome o IsSlot) found (found_is_slot c.self.inside.slots.items name c.self.invariant)
