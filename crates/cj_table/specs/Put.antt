-- Whole tables that are put into a database.
use Rattle.std.specs.Prelude.{◌≡◌, Bool, not, ◌&&◌, nat_lt, List, [], length, fold, if◌then◌else◌}
use Rattle.std.specs.List.{list_any}
use Rattle.std.specs.declared.option.Option.{Option}
use Rattle.std.specs.declared.option.Option.TheVariants.{None, Some}
use Rattle.std.specs.declared.result.Result.{Result}
use Rattle.std.specs.declared.result.Result.TheVariants.{Ok, Err}
use Rattle.cj_model.specs.declared.memory.NoMemory.{NoMemory}
use Rattle.cj_model.specs.declared.value.Value.{Value}
use Rattle.cj_model.specs.declared.schema.Schema.{Schema}
use Rattle.cj_model.specs.declared.database.Slot.{Slot}
use Rattle.cj_model.specs.declared.limits.TheConstants.{COLUMN_LIMIT, ROW_LIMIT}
use Rattle.cj_model.specs.Database.Inserts.{has_key_twice}
use Rattle.cj_model.specs.Database.Tables.{by_key, by_table, column_names, fits_columns, is_distinct, put_by}

-- the columns are within the limit and have different names, and the key is one of them
abbrev pub is_schema : Schema → Bool
is_schema s = not (nat_lt COLUMN_LIMIT (length s.columns)) && nat_lt s.key (length s.columns) && is_distinct (column_names s.columns)

-- the schema is valid, the rows are within the limit, and each row fits the columns
abbrev pub may_be_table : Schema → List (List Value) → Bool
may_be_table s rows = is_schema s && not (nat_lt ROW_LIMIT (length rows)) && not (list_any (λ r. not (fits_columns s.columns r)) rows)

-- the schema and rows make a table: they are valid together, and no two rows have one key
abbrev pub makes_table : Schema → List (List Value) → Bool
makes_table s rows = may_be_table s rows && not (has_key_twice s.key rows)

-- the slot of the table with these rows in rising key, without a draft
abbrev pub slot_with : Schema → List (List Value) → Slot
slot_with s rows = record { base = record { schema = s; rows = fold (put_by (by_key s.key)) [] rows }; draft = None }

-- the slot of the table that the schema and rows make; none where they make none
abbrev pub slot_made : Schema → List (List Value) → Option Slot
slot_made s rows = if makes_table s rows then Some (slot_with s rows) else None

-- the result says whether they make a table, which then replaces the one of its name; otherwise the database is
-- unchanged
abbrev pub PutsTable : List Slot → Schema → List (List Value) → Result Bool NoMemory → List Slot → Type 0
PutsTable old s rows (Ok made) new = (made ≡ makes_table s rows) × (new ≡ (if makes_table s rows then put_by by_table old (slot_with s rows) else old))
PutsTable old s rows (Err e) new = new ≡ old
