-- What backends hold of the workload's table, and how often they were armed.
use Rattle.std.specs.Prelude.{◌≡◌, ℕ, ◌<◌, true, List, [], ◌∷◌, length, map, All, slice_get}
use Rattle.std.specs.declared.option.Option.{Option}
use Rattle.std.specs.declared.option.Option.TheVariants.{None, Some}
use Rattle.std.specs.Option.{option_map}
use Rattle.cj_backend.specs.Backends.{Arming}
use Rattle.cj_model.specs.declared.value.Value.{Value}
use Rattle.cj_model.specs.declared.database.Slot.{Slot}
use Rattle.cj_model.specs.Cluster.Masks.{in_mask}
use Rattle.cj_model.specs.Database.Tables.{slot_of}
use Rattle.cj_workload.specs.Statements.{table_name}

-- the rows that a database has of the table, if it has the table
abbrev pub rows_in : List Slot → Option (List (List Value))
rows_in db = option_map (λ (s : Slot). s.base.rows) (slot_of db table_name)

-- how many rows these are
abbrev pub row_count : Option (List (List Value)) → ℕ
row_count None = 0
row_count (Some rows) = length rows

-- how many rows of the table the first of these databases has
abbrev pub first_count : List (List Slot) → ℕ
first_count [] = 0
first_count (db ∷ dbs) = row_count (rows_in db)

-- all have the same rows of it
abbrev pub AreSame : List (List Slot) → Type 0
AreSame [] = Unit {0}
AreSame (first ∷ others) = All (λ db. rows_in db ≡ rows_in first) others

-- each backend of the mask tells that it holds these rows
abbrev pub EachHolds : ℕ → List (Option (List Slot)) → Option (List (List Value)) → Type 0
EachHolds mask told rows = (b : ℕ) → b < length told → in_mask mask b ≡ true → (db : List Slot) × (slice_get told b ≡ Some (Some db)) × (rows_in db ≡ rows)

-- how often each of these backends was armed
abbrev pub times_armed : {B : Type 0} → (B → Arming) → List B → List ℕ
times_armed arming backends = map (λ b. (arming b).times) backends
