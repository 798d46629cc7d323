use Rattle.std.proofs.Common.{rules, ◌≡◌, [], List, map, ap, sym, subst, ◌∙◌}
use Rattle.cj_query.proofs.Cited.{SortKey, always_in_order, always_returns_same, by_sort_keys_total, first_row, nil_from_length, ordered-map, ordered_is, ranks_by, rows_in, rows_of, sorted_by, sorts_before}
use Rattle.cj_query.proofs.order.sort_groups.Goals as goal

pub returns-then-is_empty : goal.returns-then-is_empty
returns-then-is_empty c =
    let e : c.args.keys.now ≡ [] = nil_from_length _ (search rules) in
    subst (λ (ks : List SortKey). rows_in c.args.groups.now.items ≡ sorted_by (λ g h. sorts_before ks (first_row g) (first_row h)) (rows_in c.args.groups.now.items)) (sym e)
    (sym (always_in_order (rows_in c.args.groups.now.items)))

pub returns : goal.returns
returns c =
    let o = ranks_by (by_sort_keys_total c.args.keys.now) (λ g. first_row (rows_of g)) in
    ap (map rows_of) (ordered_is _ o c.args.groups.now.items c.sort_by.new.self.items (c.in_ok-sort_by.ensures.sorted _ o (always_returns_same _ _ _ (λ a r f k. (search rules, search rules)))) (c.sort_by.ensures.stable _ o (always_returns_same _ _ _ (λ a r f k. (search rules, search rules)))))
    ∙ ordered-map rows_of (λ g h. sorts_before c.args.keys.now (first_row g) (first_row h)) c.args.groups.now.items
