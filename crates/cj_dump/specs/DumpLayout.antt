-- The layout of a dump, field by field.
use Rattle.std.specs.Prelude.{ℕ, ◌-◌, Bool, true, false, not, ◌&&◌, ◌||◌, ◌==◌, nat_lt, nat_le, List, [], length, slice_get, is_some, option_map, if◌then◌else◌}
use Rattle.std.specs.declared.option.Option.{Option}
use Rattle.std.specs.declared.option.Option.TheVariants.{None, Some}
use Rattle.std.specs.Option.{option_map_or, option_and_then}
use Rattle.std.specs.List.{list_any}
use Rattle.std.specs.Str.{bytes_eq}
use Rattle.std.specs.Ordering.{is_lt}
use Rattle.cj_model.specs.declared.limits.TheConstants.{COLUMN_LIMIT, ROW_LIMIT}
use Rattle.cj_model.specs.declared.value.Kind.{Kind}
use Rattle.cj_model.specs.declared.value.Kind.TheVariants as kinds
use Rattle.cj_model.specs.declared.value.Value.{Value}
use Rattle.cj_model.specs.declared.schema.Column.{Column}
use Rattle.cj_model.specs.declared.schema.Schema.{Schema}
use Rattle.cj_model.specs.declared.database.Draft.{Draft}
use Rattle.cj_model.specs.declared.database.Slot.{Slot}
use Rattle.cj_model.specs.Database.Tables.{name_cmp, table_of, same_kind}
use Rattle.cj_model.specs.Database.Values.{kind_of, value_cmp}
use Rattle.cj_model.specs.Sql.Lexical.{keyword}
use Rattle.cj_codec.specs.Fields.{byte, number16, number64, name, value}
use Rattle.cj_codec.specs.Formats.{Format, such_that}
use Rattle.cj_codec.specs.Formats as formats
use Rattle.cj_dump.specs.Layouts.{FieldLayout, field, rising_field, known, behind, mapped, followed, pair, listed, list}
use Rattle.cj_dump.specs.declared.dump.Dump.{Dump}

-- ---- words

-- the last of some items
abbrev pub last_of : {A : Type 0} → List A → Option A
last_of xs = slice_get xs (length xs - 1)

-- the name is greater than the one before it, if there is one
abbrev pub rises_above : Option (List ℕ) → List ℕ → Bool
rises_above before name = option_map_or (λ last. is_lt (name_cmp last name)) before true

-- a name that is no reserved word
abbrev pub is_free : List ℕ → Bool
is_free name = not (is_some (keyword name))

abbrev pub free_name : Format (List ℕ)
free_name = such_that is_free name

-- a byte that says no or yes
abbrev pub flag_byte : Bool → ℕ
flag_byte false = 0
flag_byte true = 1

abbrev pub flag : Format Bool
flag = formats.mapped (λ b. b == 1) flag_byte (such_that (λ b. nat_le b 1) byte)

-- ---- schemas

abbrev pub kind_byte : Kind → ℕ
kind_byte kinds.Integer = 1
kind_byte kinds.Text = 2

abbrev pub kind_of_byte : ℕ → Kind
kind_of_byte b = if b == 1 then kinds.Integer else kinds.Text

abbrev pub kind : Format Kind
kind = formats.mapped kind_of_byte kind_byte (such_that (λ b. b == 1 || b == 2) byte)

-- one of the columns has this name
abbrev pub is_named : List Column → List ℕ → Bool
is_named cs name = list_any (λ (c : Column). bytes_eq c.name name) cs

-- a free name that no column before has
abbrev pub is_new : List Column → List ℕ → Bool
is_new before name = is_free name && not (is_named before name)

abbrev pub column_name : List Column → Format (List ℕ)
column_name before = such_that (is_new before) name

abbrev pub column : List Column → FieldLayout Column
column before = mapped (λ p. record { name = p.0; kind = p.1 }) (λ c. (c.name, c.kind)) (pair (field (column_name before)) (field kind))

-- from 1 to the most columns
abbrev pub column_count : Format ℕ
column_count = such_that (λ n. nat_le 1 n && nat_le n COLUMN_LIMIT) number16

-- the columns of a table, after their number
abbrev pub columns : FieldLayout (List Column)
columns = list column_count column

-- the key is at the place of a column
abbrev pub key : List Column → FieldLayout ℕ
key cs = field (such_that (λ k. nat_lt k (length cs)) number16)

-- a table whose name is greater than the one before it, with its columns and its key
abbrev pub schema : Option (List ℕ) → FieldLayout Schema
schema before = mapped (λ p. record { table = p.0; columns = p.1.0; key = p.1.1 }) (λ s. (s.table, (s.columns, s.key))) (pair (rising_field free_name (rises_above before)) (followed columns key))

-- ---- rows

-- the value is of the kind of the column at a place
abbrev pub is_of_column : List Column → ℕ → Value → Bool
is_of_column cs place v = option_map_or (λ (c : Column). same_kind c.kind (kind_of v)) (slice_get cs place) false

-- the value at the key's place of the last row
abbrev pub last_key : ℕ → List (List Value) → Option Value
last_key k rows = option_and_then (λ last. slice_get last k) (last_of rows)

-- the value is greater than the key before it, if there is one
abbrev pub key_rises : Option Value → Value → Bool
key_rises before v = option_map_or (λ last. is_lt (value_cmp last v)) before true

abbrev pub column_value : List Column → ℕ → Format Value
column_value cs place = such_that (is_of_column cs place) value

-- a value of its column's kind; at the key's place it is greater than the key before
abbrev pub row_value : Schema → Option Value → List Value → FieldLayout Value
row_value s last before = rising_field (column_value s.columns (length before)) (λ v. not (length before == s.key) || key_rises last v)

-- a value for each column
abbrev pub row : Schema → List (List Value) → FieldLayout (List Value)
row s before = listed (row_value s (last_key s.key before)) (length s.columns)

-- the number of rows of a table
abbrev pub row_count : Format ℕ
row_count = such_that (λ n. nat_le n ROW_LIMIT) number64

-- the rows of a table, after their number
abbrev pub rows : Schema → FieldLayout (List (List Value))
rows s = list row_count (row s)

-- ---- slots

abbrev pub tx_in : Option Draft → ℕ
tx_in None = 0
tx_in (Some d) = d.tx

abbrev pub rows_in : Option Draft → List (List Value)
rows_in None = []
rows_in (Some d) = d.table.rows

-- the transaction of a draft, which is not 0
abbrev pub transaction : Format ℕ
transaction = such_that (nat_lt 0) number64

-- a transaction, and its rows in the schema of the table
abbrev pub draft_fields : Schema → FieldLayout (Option Draft)
draft_fields s = mapped (λ p. Some (record { tx = p.0; table = record { schema = s; rows = p.1 } })) (λ d. (tx_in d, rows_in d)) (pair (field transaction) (rows s))

abbrev pub draft_behind : Schema → Bool → FieldLayout (Option Draft)
draft_behind s false = known None
draft_behind s true = draft_fields s

abbrev pub draft : Schema → FieldLayout (Option Draft)
draft s = behind (field flag) is_some (draft_behind s)

abbrev pub slot_behind : Schema → FieldLayout Slot
slot_behind s = mapped (λ p. record { base = record { schema = s; rows = p.0 }; draft = p.1 }) (λ t. (t.base.rows, t.draft)) (pair (rows s) (draft s))

abbrev pub slot : List Slot → FieldLayout Slot
slot before = behind (schema (option_map table_of (last_of before))) (λ s. s.base.schema) slot_behind

-- ---- dumps

-- a name that the dump covers, greater than the one before
abbrev pub covered : List (List ℕ) → FieldLayout (List ℕ)
covered before = rising_field name (rises_above (last_of before))

-- the number of names covered, 0 where all tables are
abbrev pub covers_count : Bool → Format ℕ
covers_count all = such_that (λ n. not all || n == 0) number64

-- the names that the dump covers, after their number
abbrev pub covers : Bool → FieldLayout (List (List ℕ))
covers all = list (covers_count all) covered

-- the tables with their drafts, after their number
abbrev pub slots : FieldLayout (List Slot)
slots = list number64 slot

abbrev pub DumpFields : Type 0
DumpFields = ℕ × (ℕ × (List ℕ × ((Bool × List (List ℕ)) × List Slot)))

-- the fields of a dump in order: position, source, name, names covered, tables
abbrev pub dump : FieldLayout Dump
dump = mapped
    (λ p. record { position = p.0; source = p.1.0; name = p.1.1.0; all = p.1.1.1.0.0; covers = p.1.1.1.0.1; db = p.1.1.1.1 })
    (λ d. (d.position, (d.source, (d.name, ((d.all, d.covers), d.db)))))
    (pair (field number64) (pair (field byte) (pair (field name) (pair (followed (field flag) covers) slots))))
