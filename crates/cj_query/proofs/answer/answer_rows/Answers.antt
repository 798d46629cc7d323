use Rattle.std.proofs.Common.{◌≡◌, Bool, List, map, subst, ap, ◌∙◌}
use Rattle.cj_query.proofs.Cited.{IfOk, SortKey, Value, answer_of, asked_by, at_most, cut_into, deref, first_row, gathered, gathered_is, groups_answered, rows_in, sort_key_of, sorted_by, sorts_before}
use Rattle.cj_query.proofs.answer.answer_rows.Goals as goal

pub returns : goal.returns
returns c =
    let scope = c.args.scope.now in
    let s = c.args.select.now in
    let rows = map deref c.args.rows.items in
    let earlier : List SortKey → List (List Value) → List (List Value) → Bool = λ ks g h. sorts_before ks (first_row g) (first_row h) in
    let groups : rows_in c.in_ok-groups.groups.items ≡ gathered scope s.items s.group rows
    = c.in_ok-groups.ensures ∙ ap (λ rs. cut_into scope s.items s.group (map deref rs)) c.deref.ensures.value
    ∙ ap (cut_into scope s.items s.group) c.in_ok-rows.ensures ∙ gathered_is scope s.items s.group rows in
    let sorted : rows_in c.sort_groups.new.groups.items ≡ sorted_by (earlier (map (sort_key_of scope) s.order)) (gathered scope s.items s.group rows)
    = c.in_ok-sort_groups.ensures ∙ ap (λ ks. sorted_by (earlier ks) (rows_in c.in_ok-groups.groups.items)) (c.deref-2.ensures.value ∙ c.in_ok-keys.ensures ∙ ap (map (sort_key_of scope)) c.as_slice.ensures)
    ∙ ap (sorted_by (earlier (map (sort_key_of scope) s.order))) groups in
    let all : rows_in c.deref-3.result.now ≡ groups_answered scope s rows
    = ap rows_in c.deref-3.ensures.value ∙ c.cut_groups.ensures ∙ ap (at_most s.limit) sorted in
    subst (λ gs. IfOk c.answer_groups.result (λ asked. asked ≡ asked_by (answer_of scope s gs))) all c.answer_groups.ensures
