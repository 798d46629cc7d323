use Rattle.std.proofs.Common.{◌≡◌, length, map, refl, arith, sym, ap, ◌∙◌}
use Rattle.std.specs.Prelude.{not}
use Rattle.cj_dml.proofs.Cited.{Schema, delete_leaves, deref, filter, length-filter, length-filter_both, length-map, part-le, satisfies}
use Rattle.cj_rowstore.specs.RowEntries as entries
use Rattle.cj_dml.proofs.delete.without_rows.Goals as goal

pub overflow_sub-count : goal.overflow_sub-count
overflow_sub-count c =
    let test = satisfies c.args.condition in
    let rows = c.in_ok-rows.rows in
    let size : length rows.items ≡ length (filter test c.args.view.now.rows) = sym (length-map rows.items deref) ∙ ap length c.in_ok-rows.ensures in
    omega (arith, c.len.ensures, c.count.ensures, size, part-le test c.args.view.now.rows)

pub returns-then-are_many : goal.returns-then-are_many
returns-then-are_many c =
    let t = c.args.view.now in
    let test = satisfies c.args.condition in
    let rows = c.in_ok-rows.rows in
    let size : length rows.items ≡ length (filter test t.rows) = sym (length-map rows.items deref) ∙ ap length c.in_ok-rows.ensures in
    (c.if-is_undrafted.true, omega (arith, c.len.ensures, c.count.ensures, size, length-filter_both test (λ r. not (test r)) (λ r. refl) t.rows), refl, omega (arith, c.len-written.ensures, size, length-filter test t.rows))

pub returns : goal.returns
returns c =
    let t = c.args.view.now in
    let test = satisfies c.args.condition in
    let rows = c.in_ok-rows.rows in
    let size : length rows.items ≡ length (filter test t.rows) = sym (length-map rows.items deref) ∙ ap length c.in_ok-rows.ensures in
    delete_leaves t c.legal.ensures _ test
    (c.in_ok-changes.ensures ∙ ap (λ (s : Schema). entries.removals s.key (map deref c.deref.result.now)) c.schema.ensures
    ∙ ap (λ l. entries.removals t.schema.key (map deref l)) c.deref.ensures.value ∙ ap (entries.removals t.schema.key) c.in_ok-rows.ensures)
    (omega (arith, c.len.ensures, c.count.ensures, size, part-le test t.rows))
    (omega (arith, c.len-written.ensures, size))
