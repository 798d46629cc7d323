-- What any query is answered, or the first refusal.
use Rattle.std.specs.Prelude.{ℕ, ℤ, pos, ◌+ℤ◌, Bool, true, false, not, ◌&&◌, ◌||◌, ◌==◌, List, [], ◌∷◌, ◌++◌, length, map, filter, filter_map, flat_map, fold, codes, slice_index_or, is_none, option_map, option_to_list, if◌then◌else◌}
use Rattle.std.specs.declared.option.Option.{Option}
use Rattle.std.specs.declared.option.Option.TheVariants.{None, Some}
use Rattle.std.specs.declared.result.Result.{Result}
use Rattle.std.specs.declared.result.Result.TheVariants.{Ok, Err}
use Rattle.std.specs.List.{list_any}
use Rattle.std.specs.Ordering.{is_eq}
use Rattle.cj_model.specs.declared.value.Value.{Value}
use Rattle.cj_model.specs.declared.value.Value.TheVariants.{Int}
use Rattle.cj_model.specs.declared.value.Kind.TheVariants as kind
use Rattle.cj_model.specs.declared.term.ColRef.{ColRef}
use Rattle.cj_model.specs.declared.schema.Column.{Column}
use Rattle.cj_model.specs.declared.database.Slot.{Slot}
use Rattle.cj_model.specs.declared.database.Table.{Table}
use Rattle.cj_model.specs.declared.select.Item.{Item}
use Rattle.cj_model.specs.declared.select.Item.TheVariants as item
use Rattle.cj_model.specs.declared.select.Items.{Items}
use Rattle.cj_model.specs.declared.select.Items.TheVariants.{All, Listed}
use Rattle.cj_model.specs.declared.select.Key.{Key}
use Rattle.cj_model.specs.declared.select.Select.{Select}
use Rattle.cj_model.specs.declared.answer.Answer.{Answer}
use Rattle.cj_model.specs.declared.answer.Asked.{Asked}
use Rattle.cj_model.specs.declared.answer.Asked.TheVariants.{Rows, Refused}
use Rattle.cj_model.specs.declared.answer.Refusal.{Refusal}
use Rattle.cj_model.specs.declared.codes.TheConstants.{NO_TABLE, NO_COLUMN, BAD_COLUMNS, OVERFLOW, WRONG_TYPE}
use Rattle.cj_model.specs.Database.Values.{value_cmp}
use Rattle.cj_model.specs.Database.Tables.{cell, put_by, same_kind, slot_of}
use Rattle.cj_model.specs.Database.Inserts.{refusal_of_code, refuse_if}
use Rattle.cj_model.specs.Database.Steps.{seen}
use Rattle.cj_model.specs.Database.Scopes.{Scope, scope_of, is_unknown_column, column_place, column_kind_at, where_has_unknown_column, where_mixes_kinds, predicate_of}
use Rattle.cj_model.specs.Database.Evaluation.{satisfies, integer_of, is_out_of_range}
use Rattle.cj_model.specs.Database.Order.{product, SortKey, sorts_before, sorted_by, at_most}

-- ---- what is named

abbrev pub columns_of_item : Item → List ColRef
columns_of_item (item.Col r) = r ∷ []
columns_of_item item.Count = []
columns_of_item (item.Sum r) = r ∷ []

abbrev pub items_listed : Items → List Item
items_listed All = []
items_listed (Listed items) = items

-- the columns that a SELECT names outside its condition
abbrev pub columns_named : Select → List ColRef
columns_named s = flat_map columns_of_item (items_listed s.items) ++ option_to_list s.group ++ map (λ (k : Key). k.col) s.order

-- ---- columns that do not fit each other

abbrev pub is_plain_item : Item → Bool
is_plain_item (item.Col r) = true
is_plain_item item.Count = false
is_plain_item (item.Sum r) = false

-- whether the items count or sum rows
abbrev pub has_aggregate : Items → Bool
has_aggregate items = list_any (λ i. not (is_plain_item i)) (items_listed items)

-- whether two references mean one column
abbrev pub is_same_column : Scope → ColRef → ColRef → Bool
is_same_column scope r s = column_place scope r == column_place scope s

-- whether the item is a plain column other than that of GROUP BY
abbrev pub is_outside_group : Scope → ColRef → Item → Bool
is_outside_group scope group (item.Col r) = not (is_same_column scope group r)
is_outside_group scope group item.Count = false
is_outside_group scope group (item.Sum r) = false

-- whether the items are `*`, or have a plain column other than that of GROUP BY
abbrev pub leave_group : Scope → ColRef → Items → Bool
leave_group scope group All = true
leave_group scope group (Listed items) = list_any (is_outside_group scope group) items

-- With GROUP BY, a column other than the group's is asked for or ordered by.
-- Without GROUP BY, counts or sums are mixed with plain columns, or are ordered.
abbrev pub has_bad_columns : Scope → Items → List Key → Option ColRef → Bool
has_bad_columns scope items keys (Some group) = leave_group scope group items || list_any (λ (k : Key). not (is_same_column scope group k.col)) keys
has_bad_columns scope items keys None = has_aggregate items && (list_any is_plain_item (items_listed items) || not (length keys == 0))

-- ---- kinds

-- whether the item is the SUM of a TEXT column
abbrev pub sums_text : Scope → Item → Bool
sums_text scope (item.Col r) = false
sums_text scope item.Count = false
sums_text scope (item.Sum r) = same_kind (column_kind_at scope (column_place scope r)) kind.Text

-- ---- rows

-- the distinct values at an index of the rows, rising
abbrev pub distinct_values : ℕ → List (List Value) → List Value
distinct_values n rows = fold (put_by value_cmp) [] (map (λ r. cell r n) rows)

-- the rows that have this value at an index
abbrev pub rows_with : ℕ → List (List Value) → Value → List (List Value)
rows_with n rows v = filter (λ r. is_eq (value_cmp (cell r n) v)) rows

-- The rows from which each row of the answer is made: with GROUP BY those with one value in its column.
-- Without GROUP BY these are all rows if they are counted or summed, else each row by itself.
abbrev pub gathered : Scope → Items → Option ColRef → List (List Value) → List (List (List Value))
gathered scope items (Some group) rows = map (rows_with (column_place scope group) rows) (distinct_values (column_place scope group) rows)
gathered scope items None rows = if has_aggregate items then rows ∷ [] else map (λ r. r ∷ []) rows

-- the first row of a group, whose value in the column of GROUP BY is that of all
abbrev pub first_row : List (List Value) → List Value
first_row rows = slice_index_or rows 0 []

abbrev pub sum_at : ℕ → List (List Value) → ℤ
sum_at n rows = fold (λ total r. total +ℤ integer_of (cell r n)) (pos 0) rows

-- the value of an item over the gathered rows
abbrev pub item_value : Scope → List (List Value) → Item → Value
item_value scope rows (item.Col r) = cell (first_row rows) (column_place scope r)
item_value scope rows item.Count = Int (pos (length rows))
item_value scope rows (item.Sum r) = Int (sum_at (column_place scope r) rows)

abbrev pub answer_row : Scope → Items → List (List Value) → List Value
answer_row scope All rows = first_row rows
answer_row scope (Listed items) rows = map (item_value scope rows) items

abbrev pub sort_key_of : Scope → Key → SortKey
sort_key_of scope k = record { place = column_place scope k.col; desc = k.desc }

-- the gathered rows for each row of the answer, stably sorted by the keys, up to the LIMIT
abbrev pub groups_answered : Scope → Select → List (List Value) → List (List (List Value))
groups_answered scope s rows = at_most s.limit (sorted_by (λ g h. sorts_before (map (sort_key_of scope) s.order) (first_row g) (first_row h)) (gathered scope s.items s.group rows))

-- whether the item is a SUM that lies outside 64 bits
abbrev pub is_sum_out_of_range : Scope → List (List Value) → Item → Bool
is_sum_out_of_range scope rows (item.Col r) = false
is_sum_out_of_range scope rows item.Count = false
is_sum_out_of_range scope rows (item.Sum r) = is_out_of_range (Int (sum_at (column_place scope r) rows))

-- ---- names of an answer's columns

abbrev pub name_of_item : Item → List ℕ
name_of_item (item.Col r) = r.column
name_of_item item.Count = codes "count"
name_of_item (item.Sum r) = codes "sum"

abbrev pub names_answered : Scope → Items → List (List ℕ)
names_answered scope All = map (λ (c : List ℕ × Column). c.1.name) scope
names_answered scope (Listed items) = map name_of_item items

-- ---- any query

-- the answer with a row for each list of gathered rows, or the refusal of a sum outside 64 bits
abbrev pub answer_of : Scope → Select → List (List (List Value)) → Result Answer Refusal
answer_of scope s groups =
    refuse_if (list_any (λ g. list_any (is_sum_out_of_range scope g) (items_listed s.items)) groups) (refusal_of_code OVERFLOW)
    (Ok (record { columns = names_answered scope s.items; rows = map (answer_row scope s.items) groups }))

-- the answer to a SELECT over these tables, or its first refusal
abbrev pub answer_over : List Table → Select → Result Answer Refusal
answer_over tables s =
    let scope = scope_of (map (λ (t : Table). t.schema) tables) in
    let rows = filter (satisfies (option_map (predicate_of scope) s.cond)) (product (map (λ (t : Table). t.rows) tables)) in
    refuse_if (list_any (is_unknown_column scope) (columns_named s) || where_has_unknown_column scope s.cond) (refusal_of_code NO_COLUMN)
    (refuse_if (has_bad_columns scope s.items s.order s.group) (refusal_of_code BAD_COLUMNS)
    (refuse_if (where_mixes_kinds scope s.cond || list_any (sums_text scope) (items_listed s.items)) (refusal_of_code WRONG_TYPE)
    (answer_of scope s (groups_answered scope s rows))))

-- the tables of these names, as a transaction sees them
abbrev pub tables_seen : List Slot → ℕ → List (List ℕ) → List Table
tables_seen db tx names = filter_map (λ n. option_map (λ s. seen s tx) (slot_of db n)) names

abbrev pub asked_by : Result Answer Refusal → Asked
asked_by (Ok answer) = Rows answer
asked_by (Err refusal) = Refused refusal

abbrev pub ask : List Slot → ℕ → Select → Asked
ask db tx s =
    asked_by (refuse_if (list_any (λ n. is_none (slot_of db n)) s.tables) (refusal_of_code NO_TABLE)
    (answer_over (tables_seen db tx s.tables) s))
