use Rattle.std.proofs.Common.{◌≡◌, [], ◌∷◌, List, map, sym, ap, subst, ◌∙◌}
use Rattle.cj_query.proofs.Cited.{Asked, IfOk, Value, answer_of, asked_by, at_most, by_key, counted_is, deref, filter, filter-reverse, follows_rows, groups_alone, groups_answered, groups_reversed, reverse, reverses_rows, rises_filter, satisfies}
use Rattle.cj_query.specs.Counted as counted
use Rattle.std.proofs.lemmas.Bool.{and_parts}
use Rattle.cj_query.proofs.single.answer_one.Goals as goal

pub returns-then-counts_all : goal.returns-then-counts_all
returns-then-counts_all c = subst (λ (a : Asked). IfOk c.answer_counts.result (λ asked. asked ≡ a))
    (ap (counted.answer c.args.scope.now c.args.select.now) c.count.ensures ∙ counted_is c.args.scope.now c.args.select.now c.args.cond.now c.args.view.now.rows (sym c.counts_all.ensures ∙ c.if-counts_all.true))
    c.answer_counts.ensures

pub answer_as_found-requires : goal.answer_as_found-requires
answer_as_found-requires c = (and_parts _ _ (sym c.follows_rows.ensures ∙ c.if-follows_rows.true)).0

pub returns-then-follows_rows : goal.returns-then-follows_rows
returns-then-follows_rows c =
    let scope = c.args.scope.now in
    let s = c.args.select.now in
    let p = satisfies c.args.cond.now in
    let table = c.args.view.now in
    let key : c.from-key.result ≡ table.schema.key = c.from-key.ensures ∙ ap (λ s. s.key) c.schema.ensures in
    let groups : groups_answered scope s (filter p table.rows) ≡ map (λ r. r ∷ []) (at_most s.limit (filter p table.rows))
    = groups_alone scope s table.schema.key (filter p table.rows) (ap (follows_rows scope s) (sym key) ∙ sym c.follows_rows.ensures ∙ c.if-follows_rows.true) (rises_filter (by_key table.schema.key) p table.rows c.legal.ensures.rises) in
    subst (λ (gs : List (List (List Value))). IfOk c.answer_as_found.result (λ asked. asked ≡ asked_by (answer_of scope s gs)))
    (ap (λ rows. map (λ r. r ∷ []) (at_most s.limit rows)) c.of.ensures ∙ sym groups) c.answer_as_found.ensures

pub returns-then-not-says_key : goal.returns-then-not-says_key
returns-then-not-says_key c =
    let scope = c.args.scope.now in
    let s = c.args.select.now in
    let p = satisfies c.args.cond.now in
    let table = c.args.view.now in
    let key : c.from-key.result ≡ table.schema.key = c.from-key.ensures ∙ ap (λ s. s.key) c.schema.ensures in
    let found : map deref c.deref.result.now ≡ at_most s.limit (reverse (filter p table.rows))
    = ap (map deref) c.deref.ensures.value ∙ c.in_ok-rows.ensures
    ∙ ap (at_most s.limit) (ap (filter p) c.scan_back.ensures ∙ filter-reverse p table.rows) in
    let groups : groups_answered scope s (filter p table.rows) ≡ map (λ r. r ∷ []) (at_most s.limit (reverse (filter p table.rows)))
    = groups_reversed scope s table.schema.key (filter p table.rows) (ap (reverses_rows scope s) (sym key) ∙ sym c.reverses_rows.ensures ∙ c.if-reverses_rows.true) (rises_filter (by_key table.schema.key) p table.rows c.legal.ensures.rises) in
    subst (λ (gs : List (List (List Value))). IfOk c.answer_each.result (λ asked. asked ≡ asked_by (answer_of scope s gs)))
    (ap (map (λ r. r ∷ [])) found ∙ sym groups) c.answer_each.ensures
