-- Rows in the order of keys, each with the value of its first key beside it.
use Rattle.std.specs.Prelude.{◌≡◌, ℕ, ◌≤◌, Bool, true, false, not, ⊤, List, ◌∷◌, length, take, map, All, if◌then◌else◌}
use Rattle.std.specs.declared.option.Option.{Option}
use Rattle.std.specs.declared.option.Option.TheVariants.{None, Some}
use Rattle.std.specs.declared.cmp.Ordering.{Ordering}
use Rattle.std.specs.Ordering.{is_lt, ordering_then}
use Rattle.cj_model.specs.declared.value.Value.{Value}
use Rattle.cj_model.specs.declared.value.Value.TheVariants as value
use Rattle.cj_model.specs.Database.Values.{value_cmp}
use Rattle.cj_model.specs.Database.Tables.{cell}
use Rattle.cj_model.specs.Database.Order.{SortKey, at_most, by_sort_keys, sorted_by}
use Rattle.cj_query.specs.declared.ranked.Lead.{Lead}
use Rattle.cj_query.specs.declared.ranked.Lead.TheVariants as lead
use Rattle.cj_query.specs.declared.ranked.Ranked.{Ranked}
use Rattle.cj_query.specs.declared.ranked.Ranking.{Ranking}

-- a row with the value of its first key beside it
abbrev pub RankedRow : Type 0
RankedRow = Value × List Value

-- the value of the first key as the code holds it
abbrev pub lead_value : Lead → Value
lead_value (lead.Int n) = value.Int n
lead_value (lead.Text t) = value.Text t.now

-- a row of the code, with the value of its first key beside it
abbrev pub seen : Ranked → RankedRow
seen r = (lead_value r.lead, r.row.now)

-- the rows alone
abbrev pub rows_seen : List Ranked → List (List Value)
rows_seen rows = map (λ r. r.1) (map seen rows)

-- all keys of a ranking, the first one in front
abbrev pub keys_of : Ranking → List SortKey
keys_of ranking = ranking.first.now ∷ ranking.rest.now

-- a row with its value at this index beside it
abbrev pub led_by : ℕ → List Value → RankedRow
led_by place row = (cell row place, row)

-- a row with its value for the ranking's first key beside it
abbrev pub ranked_by : Ranking → List Value → RankedRow
ranked_by ranking row = led_by ranking.first.now.place row

-- the value beside one row is less than the value beside the other
abbrev pub leads_before : RankedRow → RankedRow → Bool
leads_before x y = is_lt (value_cmp x.0 y.0)

-- the order of two values by a key, which rises or falls
abbrev pub by_lead : SortKey → Value → Value → Ordering
by_lead key v w = if key.desc then value_cmp w v else value_cmp v w

-- the order of two rows by the values beside them, then by the other keys
abbrev pub by_rank : Ranking → RankedRow → RankedRow → Ordering
by_rank ranking x y = ordering_then (by_lead ranking.first.now x.0 y.0) (by_sort_keys ranking.rest.now x.1 y.1)

-- one row is before the other in the order of the keys
abbrev pub ranks_before : Ranking → RankedRow → RankedRow → Bool
ranks_before ranking x y = is_lt (by_rank ranking x y)

-- the wanted rows: the first ones in the order of the keys, at most as many as the limit
abbrev pub wanted : Ranking → List RankedRow → List RankedRow
wanted ranking rows = at_most ranking.limit (sorted_by (ranks_before ranking) rows)

-- there is a bar, and the row is not before it
abbrev pub is_barred : {X : Type 0} → (X → X → Bool) → Option X → X → Bool
is_barred before None row = false
is_barred before (Some bar) row = not (before row bar)

-- where there is a bar, the rows reach the limit, and the bar is before none of the first ones up to the limit
abbrev pub Bars : {X : Type 0} → (X → X → Bool) → Option ℕ → List X → Option X → Type 0
Bars before limit rows None = ⊤
Bars before None rows (Some bar) = false ≡ true
Bars before (Some n) rows (Some bar) = (n ≤ length rows) × All (λ row. before bar row ≡ false) (take n rows)
