-- The items of a query with their columns by index.
use Rattle.std.specs.Prelude.{pos, Bool, false, List, length, map}
use Rattle.std.specs.List.{list_any}
use Rattle.std.specs.declared.option.Option.{Option}
use Rattle.std.specs.declared.option.Option.TheVariants.{None, Some}
use Rattle.cj_model.specs.declared.value.Value.{Value}
use Rattle.cj_model.specs.declared.value.Value.TheVariants.{Int}
use Rattle.cj_model.specs.declared.select.Item.{Item}
use Rattle.cj_model.specs.declared.select.Item.TheVariants as item
use Rattle.cj_model.specs.declared.select.Items.{Items}
use Rattle.cj_model.specs.declared.select.Items.TheVariants as select_items
use Rattle.cj_model.specs.Database.Evaluation.{is_out_of_range}
use Rattle.cj_model.specs.Database.Queries.{first_row, sum_at}
use Rattle.cj_model.specs.Database.Scopes.{Scope, column_place}
use Rattle.cj_model.specs.Database.Tables.{cell}
use Rattle.cj_query.specs.declared.projection.BoundItem.{BoundItem}
use Rattle.cj_query.specs.declared.projection.BoundItem.TheVariants as bound_item
use Rattle.cj_query.specs.declared.projection.Projection.{Projection}
use Rattle.cj_query.specs.declared.projection.Projection.TheVariants as projection

-- the item with its column by index in the scope
abbrev pub bound_item_of : Scope → Item → BoundItem
bound_item_of scope (item.Col r) = bound_item.Value (column_place scope r)
bound_item_of scope item.Count = bound_item.Count
bound_item_of scope (item.Sum r) = bound_item.Sum (column_place scope r)

-- the items with their columns by index in the scope; none for `*`
abbrev pub bound_items : Scope → Items → Option (List BoundItem)
bound_items scope select_items.All = None
bound_items scope (select_items.Listed items) = Some (map (bound_item_of scope) items)

-- the items of a projection, none for whole rows
abbrev pub items_of : Projection → Option (List BoundItem)
items_of projection.All = None
items_of (projection.Items items) = Some items.items

-- the value of an item for a group of rows
abbrev pub bound_item_value : List (List Value) → BoundItem → Value
bound_item_value rows (bound_item.Value n) = cell (first_row rows) n
bound_item_value rows bound_item.Count = Int (pos (length rows))
bound_item_value rows (bound_item.Sum n) = Int (sum_at n rows)

-- whether the item is a sum that is outside 64 bits for this group
abbrev pub is_bound_sum_out_of_range : List (List Value) → BoundItem → Bool
is_bound_sum_out_of_range rows (bound_item.Value n) = false
is_bound_sum_out_of_range rows bound_item.Count = false
is_bound_sum_out_of_range rows (bound_item.Sum n) = is_out_of_range (Int (sum_at n rows))

-- some sum among the items is outside 64 bits for this group
abbrev pub has_bound_sum_out_of_range : List BoundItem → List (List Value) → Bool
has_bound_sum_out_of_range items rows = list_any (is_bound_sum_out_of_range rows) items

-- some sum of the projection is outside 64 bits for this group
abbrev pub is_row_outside : Projection → List (List Value) → Bool
is_row_outside projection.All rows = false
is_row_outside (projection.Items items) rows = has_bound_sum_out_of_range items.items rows

-- the row of the answer for a group of rows
abbrev pub projected_row : Projection → List (List Value) → List Value
projected_row projection.All rows = first_row rows
projected_row (projection.Items items) rows = map (bound_item_value rows) items.items
