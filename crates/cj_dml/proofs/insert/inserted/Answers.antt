use Rattle.std.proofs.Common.{◌≡◌, false, not, ◌==◌, List, length, map, subst, sym, ap, ◌∙◌}
use Rattle.cj_dml.proofs.Cited.{Changed, Plans, Schema, Term, inserted_rows, list_any, lists_unevenly, lists_unknown_column, row_of, with_fitting_rows}
use Rattle.cj_dml.proofs.insert.inserted.Goals as goal

pub returns : goal.returns
returns c =
    let t = c.args.view.now in
    let names = c.args.names.now in
    let tuples = c.args.tuples.now in
    let columns = c.as_slice-columns.ensures ∙ ap (λ (s : Schema). s.columns) c.schema.ensures in
    let known : lists_unknown_column t.schema.columns names ≡ false = ap (λ cs. lists_unknown_column cs names) (sym columns) ∙ sym c.lists_unknown_column.ensures ∙ c.if-lists_unknown_column.false in
    let listed : lists_unevenly t.schema.columns names ≡ false = ap (λ cs. lists_unevenly cs names) (sym columns) ∙ sym c.lists_unevenly.ensures ∙ c.if-lists_unevenly.false in
    let wide : list_any (λ (u : List Term). not (length u == length t.schema.columns)) tuples ≡ false =
    ap (λ cs. list_any (λ (u : List Term). not (length u == length cs)) tuples) (sym columns) ∙ sym c.has_uneven.ensures ∙ c.if-has_uneven.false in
    let rows : c.in_ok-rows.rows ≡ map (row_of t.schema.columns names) tuples = c.in_ok-rows.ensures ∙ ap (λ cs. map (row_of cs names) tuples) columns in
    subst (λ (changed : Changed). Plans t changed c.in_ok-planned.planned)
    (ap (with_fitting_rows t) rows ∙ inserted_rows t names tuples known listed wide)
    c.in_ok-planned.ensures
