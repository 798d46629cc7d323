-- Queries for which not all rows are read, or no rows are sorted.
use Rattle.std.specs.Prelude.{◌≡◌, ℕ, Bool, true, false, not, ◌&&◌, ◌==◌, nat_le, List, [], ◌∷◌, length, is_none}
use Rattle.std.specs.declared.option.Option.{Option}
use Rattle.std.specs.declared.option.Option.TheVariants.{None, Some}
use Rattle.std.specs.List.{list_all}
use Rattle.cj_model.specs.declared.value.Value.{Value}
use Rattle.cj_model.specs.declared.select.Item.{Item}
use Rattle.cj_model.specs.declared.select.Item.TheVariants as item
use Rattle.cj_model.specs.declared.select.Items.{Items}
use Rattle.cj_model.specs.declared.select.Items.TheVariants.{All, Listed}
use Rattle.cj_model.specs.declared.select.Key.{Key}
use Rattle.cj_model.specs.declared.select.Select.{Select}
use Rattle.cj_model.specs.Database.Queries.{has_aggregate}
use Rattle.cj_model.specs.Database.Scopes.{Scope, column_place}
use Rattle.cj_model.specs.Database.Tables.{Rises, by_key}
use Rattle.cj_model.specs.Database.Order.{SortKey, sorted_by, sorts_before}
use Rattle.cj_query.specs.declared.ranked.Ranking.{Ranking}
use Rattle.cj_query.specs.Ranked.{keys_of}

-- the key is the rising one of the column at this index
abbrev pub is_rising_at : Scope → ℕ → Key → Bool
is_rising_at scope n k = not k.desc && column_place scope k.col == n

-- there are no keys, or the first is the rising one of the column at this index
abbrev pub is_led_by : Scope → ℕ → List Key → Bool
is_led_by scope n [] = true
is_led_by scope n (k ∷ ks) = is_rising_at scope n k

-- the key is the falling one of the column at this index
abbrev pub is_falling_at : Scope → ℕ → Key → Bool
is_falling_at scope n k = k.desc && column_place scope k.col == n

-- the first key is the falling one of the column at this index
abbrev pub falls_by : Scope → ℕ → List Key → Bool
falls_by scope n [] = false
falls_by scope n (k ∷ ks) = is_falling_at scope n k

-- each row has its own row in the answer: the query neither groups nor aggregates
abbrev pub answers_each : Select → Bool
answers_each s = is_none s.group && not (has_aggregate s.items)

-- each row has its own row in the answer, in the order of the table's rows
abbrev pub follows_rows : Scope → Select → ℕ → Bool
follows_rows scope s n = answers_each s && is_led_by scope n s.order

-- each row has its own row in the answer, in the reverse order of the table's rows
abbrev pub reverses_rows : Scope → Select → ℕ → Bool
reverses_rows scope s n = answers_each s && falls_by scope n s.order

-- each joined row has its own row in the answer, in no order of keys
abbrev pub follows_join : Select → Bool
follows_join s = answers_each s && length s.order == 0

-- each row has its own row in the answer, in the order of these keys
pub record RanksBy (s : Select) (order : List SortKey) (ranking : Ranking) : Type 0 where
  pub each : answers_each s ≡ true
  pub keys : keys_of ranking ≡ order
  pub limit : ranking.limit ≡ s.limit

-- rows that rise at the index are in the same order by these keys as by all keys
pub record OrdersAs (place : ℕ) (these keys : List SortKey) : Type 0 where
  pub at : (rows : List (List Value)) → Rises (by_key place) rows → sorted_by (sorts_before these) rows ≡ sorted_by (sorts_before keys) rows

-- whether the item is COUNT
abbrev pub is_count : Item → Bool
is_count (item.Col r) = false
is_count item.Count = true
is_count (item.Sum r) = false

-- there is an item, and each item is COUNT
abbrev pub only_counts : Items → Bool
only_counts All = false
only_counts (Listed []) = false
only_counts (Listed (i ∷ items)) = list_all is_count (i ∷ items)

-- the number has reached the limit; never without a limit
abbrev pub is_enough : Option ℕ → ℕ → Bool
is_enough None n = false
is_enough (Some most) n = nat_le most n
