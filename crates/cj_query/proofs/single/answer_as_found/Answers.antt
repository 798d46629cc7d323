use Rattle.std.proofs.Common.{◌≡◌, List, ap, subst, sym, ◌∙◌}
use Rattle.cj_query.proofs.Cited.{Asked, IfOk, Rows, Value, at_most, cut-map, names_answered, taken, taken_each}
use Rattle.cj_query.proofs.single.answer_as_found.Goals as goal

pub returns : goal.returns
returns c =
    let scope = c.args.scope.now in
    let s = c.args.select.now in
    let columns = c.in_ok-columns.columns in
    subst (λ (a : Asked). IfOk c.answer_with.result (λ asked. asked ≡ a))
    (ap (λ (r : List (List Value)). Rows (record { columns = names_answered scope s.items; rows = r })) (c.in_ok-rows.ensures ∙ sym (cut-map (taken columns) s.limit c.args.rows))
    ∙ taken_each scope s columns (at_most s.limit c.args.rows) c.requires c.in_ok-columns.ensures)
    c.answer_with.ensures
