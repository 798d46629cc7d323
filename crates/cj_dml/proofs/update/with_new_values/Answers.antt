use Rattle.std.proofs.Common.{◌≡◌, length, map, arith, sym, ap, subst, ◌∙◌}
use Rattle.std.specs.declared.option.Option.TheVariants.{None, Some}
use Rattle.cj_dml.proofs.Cited.{GetIntegers, Schema, any_both, assigned, assignments, deref, filter, from_none, from_some, in_place, length-filter, length-map, makes_past, makes_refused, overflows, satisfies, update_leaves, values_or_none}
use Rattle.cj_dml.proofs.update.with_new_values.Goals as goal

pub returns-in-Some : goal.returns-in-Some
returns-in-Some c =
    let t = c.args.view.now in
    let sets = assignments c.args.assigns.items in
    let test = satisfies c.args.condition in
    let integers : GetIntegers sets (filter test t.rows) = subst (λ l. GetIntegers (assignments l) (filter test t.rows)) c.deref.ensures.value c.in-Some.ensures.integers in
    in_place c.args.is_undrafted t sets c.args.condition c.in-Some.count c.in_place.result c.if-is_undrafted.true c.requires integers (omega (arith, c.in-Some.ensures.count, length-filter test t.rows)) c.in_place.ensures

pub returns-in-Some-2 : goal.returns-in-Some-2
returns-in-Some-2 c =
    let t = c.args.view.now in
    let as' = assignments c.args.assigns.items in
    let test = satisfies c.args.condition in
    let rows = c.in_ok-rows.rows in
    let size : length rows.items ≡ length (filter test t.rows) = sym (length-map rows.items deref) ∙ ap length c.in_ok-rows.ensures in
    let made : Some c.in-Some-2.changes ≡ values_or_none t.schema.key as' (filter test t.rows) = sym c.in-Some-2.is ∙ c.in_ok-changes.ensures
    ∙ ap (λ (s : Schema). values_or_none s.key (assignments c.deref-3.result.now) (map deref c.deref-2.result.now)) c.schema.ensures
    ∙ ap (λ l. values_or_none t.schema.key (assignments c.deref-3.result.now) (map deref l)) c.deref-2.ensures.value
    ∙ ap (λ l. values_or_none t.schema.key (assignments l) (map deref c.in_ok-rows.rows.items)) c.deref-3.ensures.value
    ∙ ap (values_or_none t.schema.key as') c.in_ok-rows.ensures in
    let parts = from_some _ _ _ made in
    makes_past c.args.is_undrafted t _ _ _ _ (sym (any_both test (overflows as') t.rows) ∙ parts.0)
    (update_leaves t c.legal.ensures _ test (assigned as') c.requires.same parts.1 c.count.ensures (omega (arith, c.len-written.ensures, size)))

pub returns : goal.returns
returns c =
    let t = c.args.view.now in
    let as' = assignments c.args.assigns.items in
    let test = satisfies c.args.condition in
    let made : None ≡ values_or_none t.schema.key as' (filter test t.rows) = sym c.in-None.is ∙ c.in_ok-changes.ensures
    ∙ ap (λ (s : Schema). values_or_none s.key (assignments c.deref-3.result.now) (map deref c.deref-2.result.now)) c.schema.ensures
    ∙ ap (λ l. values_or_none t.schema.key (assignments c.deref-3.result.now) (map deref l)) c.deref-2.ensures.value
    ∙ ap (λ l. values_or_none t.schema.key (assignments l) (map deref c.in_ok-rows.rows.items)) c.deref-3.ensures.value
    ∙ ap (values_or_none t.schema.key as') c.in_ok-rows.ensures in
    makes_refused c.args.is_undrafted t _ _ _ _ (sym (any_both test (overflows as') t.rows) ∙ from_none _ _ made) c.of_code.ensures
