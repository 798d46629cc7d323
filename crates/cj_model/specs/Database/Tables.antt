-- Rows, tables and databases.
use Rattle.std.specs.Prelude.{◌≡◌, ℕ, ◌<◌, ◌≤◌, Bool, true, false, not, ◌&&◌, List, [], ◌∷◌, length, map, find, slice_index_or, All, IfSome, pos}
use Rattle.std.specs.declared.option.Option.{Option}
use Rattle.std.specs.List.{list_any}
use Rattle.std.specs.Str.{bytes_eq}
use Rattle.std.specs.Cmp.Lexicographic.{slice_cmp}
use Rattle.std.specs.Ordering.{nat_cmp, match_ordering}
use Rattle.std.specs.declared.cmp.Ordering.{Ordering}
use Rattle.std.specs.declared.cmp.Ordering.TheVariants.{Less}
use Rattle.cj_model.specs.declared.value.Value.{Value}
use Rattle.cj_model.specs.declared.value.Value.TheVariants.{Int}
use Rattle.cj_model.specs.declared.value.Kind.{Kind}
use Rattle.cj_model.specs.declared.value.Kind.TheVariants as kind
use Rattle.cj_model.specs.declared.schema.Column.{Column}
use Rattle.cj_model.specs.declared.database.Table.{Table}
use Rattle.cj_model.specs.declared.database.Slot.{Slot}
use Rattle.cj_model.specs.declared.limits.TheConstants.{COLUMN_LIMIT, ROW_LIMIT}
use Rattle.cj_model.specs.Database.Values.{kind_of, value_cmp}

-- ---- order

-- the value at an index of a row
abbrev pub cell : List Value → ℕ → Value
cell row n = slice_index_or row n (Int (pos 0))

-- the order of rows by their value at the key's index
abbrev pub by_key : ℕ → List Value → List Value → Ordering
by_key k r s = value_cmp (cell r k) (cell s k)

-- the order of names by their bytes
abbrev pub name_cmp : List ℕ → List ℕ → Ordering
name_cmp = slice_cmp nat_cmp

abbrev pub table_of : Slot → List ℕ
table_of s = s.base.schema.table

-- the order of slots by the name of their table
abbrev pub by_table : Slot → Slot → Ordering
by_table s t = name_cmp (table_of s) (table_of t)

-- each item of the list is below all after it
abbrev pub Rises : {A : Type 0} → (A → A → Ordering) → List A → Type 0
Rises order [] = Unit {0}
Rises order (x ∷ xs) = All (λ y. order x y ≡ Less) xs × Rises order xs

-- a rising list with x inserted in order, in place of the item that is equal to it in this order
abbrev pub put_by : {A : Type 0} → (A → A → Ordering) → List A → A → List A
put_by order [] x = x ∷ []
put_by order (y ∷ ys) x = match_ordering (order x y) (x ∷ y ∷ ys) (x ∷ ys) (y ∷ put_by order ys x)

-- ---- tables

-- whether no name occurs twice
abbrev pub is_distinct : List (List ℕ) → Bool
is_distinct [] = true
is_distinct (n ∷ ns) = not (list_any (bytes_eq n) ns) && is_distinct ns

abbrev pub column_names : List Column → List (List ℕ)
column_names cs = map (λ (c : Column). c.name) cs

abbrev pub same_kind : Kind → Kind → Bool
same_kind kind.Integer kind.Integer = true
same_kind kind.Integer kind.Text = false
same_kind kind.Text kind.Integer = false
same_kind kind.Text kind.Text = true

-- whether the row has exactly one value for each column, of that column's kind
abbrev pub fits_columns : List Column → List Value → Bool
fits_columns [] [] = true
fits_columns [] (v ∷ vs) = false
fits_columns (c ∷ cs) [] = false
fits_columns (c ∷ cs) (v ∷ vs) = same_kind c.kind (kind_of v) && fits_columns cs vs

-- a table: at most 16 columns with distinct names, and at most 65,536 fitting rows in rising key
pub record IsTable (t : Table) : Type 0 where
  pub few : length t.schema.columns ≤ COLUMN_LIMIT
  pub distinct : is_distinct (column_names t.schema.columns) ≡ true
  pub key : t.schema.key < length t.schema.columns
  pub kinds : All (λ row. fits_columns t.schema.columns row ≡ true) t.rows
  pub rises : Rises (by_key t.schema.key) t.rows
  pub room : length t.rows ≤ ROW_LIMIT

-- ---- databases

-- the slot of a table
abbrev pub slot_of : List Slot → List ℕ → Option Slot
slot_of db name = find (λ s. bytes_eq (table_of s) name) db

-- a table, and maybe a draft of the same schema by a transaction
pub record IsSlot (s : Slot) : Type 0 where
  pub base : IsTable s.base
  pub draft : IfSome s.draft (λ d. (0 < d.tx) × IsTable d.table × (d.table.schema ≡ s.base.schema))

-- slots in rising name of their table
pub record IsDatabase (db : List Slot) : Type 0 where
  pub slots : All IsSlot db
  pub rises : Rises by_table db
