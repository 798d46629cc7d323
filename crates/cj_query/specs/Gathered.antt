-- Rows in runs of one value.
use Rattle.std.specs.Prelude.{ℕ, ◌+◌, Bool, List, [], ◌∷◌, map, if◌then◌else◌}
use Rattle.std.specs.List.{prefix_len}
use Rattle.std.specs.declared.option.Option.{Option}
use Rattle.std.specs.declared.option.Option.TheVariants.{None, Some}
use Rattle.std.specs.Ordering.{is_eq, is_lt}
use Rattle.cj_model.specs.declared.value.Value.{Value}
use Rattle.cj_model.specs.declared.term.ColRef.{ColRef}
use Rattle.cj_model.specs.declared.select.Items.{Items}
use Rattle.cj_model.specs.Database.Tables.{by_key}
use Rattle.cj_model.specs.Database.Order.{sorted_by}
use Rattle.cj_model.specs.Database.Scopes.{Scope, column_place}
use Rattle.cj_model.specs.Database.Queries.{has_aggregate, first_row}

-- two rows have one value at this index
abbrev pub same_at : ℕ → List Value → List Value → Bool
same_at n r s = is_eq (by_key n r s)

-- the runs with this row in front: it joins the first run if that has its value, and begins a run otherwise
abbrev pub run_with : ℕ → List Value → List (List (List Value)) → List (List (List Value))
run_with n r [] = (r ∷ []) ∷ []
run_with n r (g ∷ gs) = if same_at n r (first_row g) then (r ∷ g) ∷ gs else (r ∷ []) ∷ g ∷ gs

-- the rows, cut into runs where the value at this index changes
abbrev pub runs : ℕ → List (List Value) → List (List (List Value))
runs n [] = []
runs n (r ∷ rs) = run_with n r (runs n rs)

-- the rows in rising order of the value at this index
abbrev pub sorted_at : ℕ → List (List Value) → List (List Value)
sorted_at n rows = sorted_by (λ r s. is_lt (by_key n r s)) rows

-- the rows in the order of their groups; unchanged without GROUP BY
abbrev pub arranged : Scope → Option ColRef → List (List Value) → List (List Value)
arranged scope None rows = rows
arranged scope (Some group) rows = sorted_at (column_place scope group) rows

-- the groups of rows that are already in the order of their groups
abbrev pub cut_into : Scope → Items → Option ColRef → List (List Value) → List (List (List Value))
cut_into scope items None rows = if has_aggregate items then rows ∷ [] else map (λ r. r ∷ []) rows
cut_into scope items (Some group) rows = runs (column_place scope group) rows

-- the number of rows at the front that have the first one's value at this index
abbrev pub run_length : ℕ → List (List Value) → ℕ
run_length n [] = 0
run_length n (r ∷ rs) = 1 + prefix_len (same_at n r) rs
