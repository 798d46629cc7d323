use Rattle.std.proofs.Common.{◌≡◌, sym, ap, ◌∙◌}
use Rattle.cj_table.proofs.Cited.{None, Refused, Some, bytes_eq, position, table_of, table_written, write_carries, written_missing}
use Rattle.cj_table.proofs.slots.write_slots.Goals as goal

pub returns-in-None : goal.returns-in-None
returns-in-None c =
    let db = c.args.slots.now.items in
    let none : position (λ s. bytes_eq (table_of s) (table_written c.args.write.now)) db ≡ None =
    ap (λ n. position (λ s. bytes_eq (table_of s) n) db) (sym c.table_written.ensures)
    ∙ ap (λ xs. position (λ s. bytes_eq (table_of s) c.table_written.result.now) xs) (sym c.deref.ensures.value) ∙ sym c.in-None.ensures in
    let refused = written_missing db c.args.tx c.args.write.now none in
    (ap Refused c.of_code.ensures ∙ sym (ap (λ s. s.outcome) refused), sym (ap (λ s. s.db) refused))

pub returns-in-Some : goal.returns-in-Some
returns-in-Some c =
    let db = c.args.slots.now.items in
    let place : position (λ s. bytes_eq (table_of s) (table_written c.args.write.now)) db ≡ Some c.in-Some.place =
    ap (λ n. position (λ s. bytes_eq (table_of s) n) db) (sym c.table_written.ensures)
    ∙ ap (λ xs. position (λ s. bytes_eq (table_of s) c.table_written.result.now) xs) (sym c.deref.ensures.value) ∙ sym c.in-Some.ensures in
    write_carries db c.args.tx c.args.write.now c.in-Some.place c.index_mut-slot.result.now c.write_slot.result c.write_slot.new.slot c.requires place c.index_mut-slot.ensures.value c.write_slot.ensures
