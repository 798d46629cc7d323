use Rattle.std.proofs.Common.{◌≡◌, List, map, ap, subst, ◌∙◌}
use Rattle.cj_query.proofs.Cited.{Asked, IfOk, Rows, Value, deref, names_answered, taken_each}
use Rattle.cj_query.proofs.answer.answer_each.Goals as goal

pub returns : goal.returns
returns c =
    let scope = c.args.scope.now in
    let s = c.args.select.now in
    subst (λ (a : Asked). IfOk c.answer_with.result (λ asked. asked ≡ a))
    (ap (λ (r : List (List Value)). Rows (record { columns = names_answered scope s.items; rows = r })) c.in_ok-rows.ensures
    ∙ taken_each scope s c.in_ok-columns.columns (map deref c.args.rows.now) c.requires c.in_ok-columns.ensures)
    c.answer_with.ensures
