-- Results of calls that make sums of 64 bits.
use Rattle.std.specs.Prelude.{◌≡◌, Bool, true, false, List, map, ⊤}
use Rattle.std.specs.List.{list_any}
use Rattle.std.specs.declared.result.Result.{Result}
use Rattle.std.specs.declared.result.Result.TheVariants.{Ok, Err}
use Rattle.cj_model.specs.declared.value.Value.{Value}
use Rattle.cj_model.specs.declared.select.Item.{Item}
use Rattle.cj_model.specs.declared.select.Items.{Items}
use Rattle.cj_model.specs.Database.Scopes.{Scope}
use Rattle.cj_model.specs.Database.Queries.{is_sum_out_of_range, items_listed, answer_row}
use Rattle.cj_expr.specs.declared.formula.ValueError.{ValueError}
use Rattle.cj_expr.specs.declared.formula.ValueError.TheVariants.{Overflow, NoMemory}

-- the result is the expected one where no sum is outside 64 bits, else Overflow; an allocation may fail in both
-- cases
abbrev pub MakesValue : {A : Type 0} → Bool → A → Result A ValueError → Type 0
MakesValue outside made (Ok x) = (outside ≡ false) × (x ≡ made)
MakesValue outside made (Err Overflow) = outside ≡ true
MakesValue outside made (Err NoMemory) = ⊤

-- some sum among the items is outside 64 bits for this group
abbrev pub has_sum_out_of_range : Scope → List Item → List (List Value) → Bool
has_sum_out_of_range scope items group = list_any (is_sum_out_of_range scope group) items

-- some sum among the items is outside 64 bits for some group
abbrev pub any_group_outside : Scope → Items → List (List (List Value)) → Bool
any_group_outside scope items groups = list_any (has_sum_out_of_range scope (items_listed items)) groups

-- the rows of the answer, one for each group
abbrev pub rows_made : Scope → Items → List (List (List Value)) → List (List Value)
rows_made scope items groups = map (answer_row scope items) groups
