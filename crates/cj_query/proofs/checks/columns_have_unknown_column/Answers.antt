use Rattle.std.proofs.Common.{◌≡◌, ◌||◌, ap, sym, ◌∙◌}
use Rattle.cj_query.proofs.Cited.{Key, any_named, list_any, option_to_list}
use Rattle.cj_model.specs.Database.Queries as queries
use Rattle.cj_model.specs.Database.Scopes as scopes
use Rattle.cj_query.proofs.checks.columns_have_unknown_column.Goals as goal

pub returns-then-items_have_unknown_column : goal.returns-then-items_have_unknown_column
returns-then-items_have_unknown_column c =
    let p = scopes.is_unknown_column c.args.scope.now in
    let s = c.args.select.now in
    let rest = list_any p (option_to_list s.group) || list_any (λ (k : Key). p k.col) s.order in
    let items : c.items_have_unknown_column.result ≡ list_any (λ i. list_any p (queries.columns_of_item i)) (queries.items_listed s.items)
    = c.items_have_unknown_column.ensures ∙ ap (λ is. list_any (λ i. list_any p (queries.columns_of_item i)) is) c.listed.ensures in
    c.if-items_have_unknown_column.true ∙ sym (any_named p s ∙ ap (λ b. b || rest) (sym items ∙ c.if-items_have_unknown_column.true))

pub returns-else-items_have_unknown_column : goal.returns-else-items_have_unknown_column
returns-else-items_have_unknown_column c =
    let p = scopes.is_unknown_column c.args.scope.now in
    let s = c.args.select.now in
    let rest = list_any p (option_to_list s.group) || list_any (λ (k : Key). p k.col) s.order in
    let items : c.items_have_unknown_column.result ≡ list_any (λ i. list_any p (queries.columns_of_item i)) (queries.items_listed s.items)
    = c.items_have_unknown_column.ensures ∙ ap (λ is. list_any (λ i. list_any p (queries.columns_of_item i)) is) c.listed.ensures in
    c.keys_or_group_have_unknown_column.ensures ∙ sym (any_named p s ∙ ap (λ b. b || rest) (sym items ∙ c.if-items_have_unknown_column.false))
