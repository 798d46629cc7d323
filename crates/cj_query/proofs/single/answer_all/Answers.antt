use Rattle.std.proofs.Common.{◌≡◌, ◌∷◌, [], List, map, subst, sym, ap, ◌∙◌}
use Rattle.cj_query.proofs.Cited.{IfOk, Value, answer_of, asked_by, at_most, by_key, deref, filter, groups_ranked, keys_of, rises_filter, satisfies, sort_key_of, sorted_by, sorts_before}
use Rattle.cj_model.specs.Database.Tables.{Rises}
use Rattle.cj_query.proofs.single.answer_all.Goals as goal

pub returns-in-Some : goal.returns-in-Some
returns-in-Some c =
    let scope = c.args.scope.now in
    let s = c.args.select.now in
    let p = satisfies c.args.cond.now in
    let table = c.args.view.now in
    let rows = filter p table.rows in
    let ranking = c.in-Some.ranking in
    let key : c.from.result ≡ table.schema.key = c.from.ensures ∙ ap (λ s. s.key) c.schema.ensures in
    let found : map deref c.deref-in-Some.result.now ≡ at_most s.limit (sorted_by (sorts_before (map (sort_key_of scope) s.order)) rows)
    = ap (map deref) c.deref-in-Some.ensures.value ∙ c.in_ok-rows-in-Some.ensures
    ∙ ap (λ rs. at_most ranking.limit (sorted_by (sorts_before (keys_of ranking)) rs)) c.of.ensures
    ∙ ap (λ l. at_most l (sorted_by (sorts_before (keys_of ranking)) rows)) c.in-Some.ensures.limit
    ∙ ap (λ ks. at_most s.limit (sorted_by (sorts_before ks) rows)) c.in-Some.ensures.keys
    ∙ ap (at_most s.limit) (c.telling.ensures.at rows (subst (λ k. Rises (by_key k) rows) (sym key) (rises_filter (by_key table.schema.key) p table.rows c.legal.ensures.rises)))
    ∙ ap (λ ks. at_most s.limit (sorted_by (sorts_before ks) rows)) (c.deref.ensures.value ∙ c.in_ok-keys.ensures ∙ ap (map (sort_key_of scope)) c.as_slice.ensures) in
    subst (λ (gs : List (List (List Value))). IfOk c.answer_each.result (λ asked. asked ≡ asked_by (answer_of scope s gs)))
    (ap (map (λ r. r ∷ [])) found ∙ sym (groups_ranked scope s rows c.in-Some.ensures.each)) c.answer_each.ensures
