-- Rows by their keys.
use Rattle.std.specs.Prelude.{false, unwrap_or, ◌≡◌, ℕ, Bool, List, [], filter, map, fold, is_some}
use Rattle.std.specs.declared.option.Option.{Option}
use Rattle.std.specs.declared.option.Option.TheVariants.{None, Some}
use Rattle.std.specs.Ordering.{is_le}
use Rattle.std.specs.BTreeMap.{insert_entry, is_at}
use Rattle.cj_model.specs.declared.value.Value.{Value}
use Rattle.cj_model.specs.Database.Values.{value_cmp}
use Rattle.cj_model.specs.Database.Tables.{cell}
use Rattle.cj_ptree.specs.Pairs.{PairsRise}
use Rattle.cj_rowstore.specs.Entries.{at}
use Rattle.cj_rowstore.specs.Layers.{merged}

-- rows, each the list of its values
abbrev pub Rows : Type 0
Rows = List (List Value)

-- rows, each with its key
abbrev pub KeyedRows : Type 0
KeyedRows = List (Value × List Value)

-- changes: keys, each with its row or with none
abbrev pub RowEntries : Type 0
RowEntries = List (Value × Option (List Value))

-- the changes have this key, with a row or with none
abbrev pub knows : RowEntries → Value → Bool
knows es key = is_some (at value_cmp key es)

-- the rows, each with its key, which is its value at index `k`
abbrev pub keyed : ℕ → List (List Value) → KeyedRows
keyed k rows = map (λ r. (cell r k, r)) rows

-- the rows whose key is `v` or greater
abbrev pub from_key : Value → KeyedRows → KeyedRows
from_key v es = filter (λ e. is_le (value_cmp v e.0)) es

-- the changes that put these rows at their keys
abbrev pub puts : ℕ → List (List Value) → RowEntries
puts k rows = fold (λ changes r. insert_entry value_cmp changes (cell r k) (Some r)) [] rows

-- the changes that remove these rows
abbrev pub removals : ℕ → List (List Value) → RowEntries
removals k rows = fold (λ changes r. insert_entry value_cmp changes (cell r k) None) [] rows

-- ---- changes that turn rows into new ones

-- only the change at the row's key differs, and it makes of the row what the old change made of no row
pub record SettlesRow (key : Value) (row : List Value) (old new : RowEntries) : Type 0 where
  pub own : unwrap_or (at value_cmp key new) (Some row) ≡ unwrap_or (at value_cmp key old) None
  pub others : (other : Value) → is_at (value_cmp other) key ≡ false → at value_cmp other new ≡ at value_cmp other old

-- the changes turn the old rows into the new ones
pub record TurnsInto (k : ℕ) (old new : List (List Value)) (changes : RowEntries) : Type 0 where
  pub rises : PairsRise value_cmp changes
  pub rows : merged value_cmp (keyed k old) changes ≡ keyed k new
