use Rattle.std.proofs.Common.{◌≡◌, get_or, Equal, sym, ap, ◌∙◌}
use Rattle.cj_table.proofs.Cited.{Schema, by_table, name_cmp, put_over, table_of}
use Rattle.cj_table.proofs.slots.place_of.Goals as goal

pub returns-in-Equal : goal.returns-in-Equal
returns-in-Equal c =
    let order = by_table c.args.slot.now in
    let names : order c.index-slots-i.result ≡ Equal =
    ap (λ n. name_cmp n (table_of c.index-slots-i.result)) (sym (c.as_slice-name.ensures.value ∙ ap (λ (s : Schema). s.table) c.schema.ensures))
    ∙ ap (name_cmp c.as_slice-name.result.now) (sym (c.as_slice.ensures.value ∙ ap (λ (s : Schema). s.table) c.schema-in-loop-i.ensures ∙ ap table_of c.get.ensures)) ∙ sym c.in-Equal.ensures in
    let equal : order (get_or c.args.slots.now c.loop-i.i c.index-slots-i.result) ≡ Equal = ap order (sym c.index-slots-i.is) ∙ names in
    (c.loop-i-test.true, put_over by_table c.args.slots.now c.args.slot.now c.loop-i.i c.loop-i.invariant c.index-slots-i.result c.loop-i-test.true equal)
