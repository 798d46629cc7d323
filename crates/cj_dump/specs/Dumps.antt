-- Dumps as bytes.
use Rattle.std.specs.Prelude.{◌≡◌, ◌≢◌, ◌⊎◌, ℕ, ◌^◌, ◌<◌, true, List, [], ◌∷◌, ◌++◌, length, All, IfSome, Result, Ok, Err}
use Rattle.std.specs.declared.option.Option.{Option}
use Rattle.std.specs.declared.option.Option.TheVariants.{None, Some}
use Rattle.std.specs.List.{flat_map}
use Rattle.std.specs.Int.{w16, w64, to_be_bytes}
use Rattle.cj_model.specs.declared.value.Value.{Value}
use Rattle.cj_model.specs.declared.schema.Column.{Column}
use Rattle.cj_model.specs.declared.schema.Schema.{Schema}
use Rattle.cj_model.specs.declared.database.Draft.{Draft}
use Rattle.cj_model.specs.declared.database.Slot.{Slot}
use Rattle.cj_model.specs.Database.Storable.{IsStorable}
use Rattle.cj_model.specs.Database.Tables.{Rises, name_cmp}
use Rattle.cj_model.specs.Sql.Names.{is_name}
use Rattle.cj_model.specs.Wire.Fields.{str16}
use Rattle.cj_model.specs.Wire.Replies.{row_bytes}
use Rattle.cj_codec.specs.Readings.{Place, offset}
use Rattle.cj_dump.specs.declared.dump.Dump.{Dump}
use Rattle.cj_dump.specs.declared.error.DumpError.{DumpError}
use Rattle.cj_dump.specs.declared.error.DumpError.TheVariants.{BadField, NoMemory}
use Rattle.cj_dump.specs.DumpLayout.{flag_byte, kind_byte, dump}
use Rattle.cj_dump.specs.Layouts.{Between}

-- ---- the bytes

abbrev pub column_bytes : Column → List ℕ
column_bytes c = str16 c.name ++ kind_byte c.kind ∷ []

-- the table, the number of columns, the columns, and the key's place
abbrev pub schema_bytes : Schema → List ℕ
schema_bytes s = str16 s.table ++ ((to_be_bytes w16 (length s.columns) ++ flat_map column_bytes s.columns) ++ to_be_bytes w16 s.key)

-- the number of rows, and the rows
abbrev pub rows_bytes : List (List Value) → List ℕ
rows_bytes rows = to_be_bytes w64 (length rows) ++ flat_map row_bytes rows

-- 00, or 01 with the transaction and its rows
abbrev pub draft_bytes : Option Draft → List ℕ
draft_bytes None = 0 ∷ []
draft_bytes (Some d) = 1 ∷ (to_be_bytes w64 d.tx ++ rows_bytes d.table.rows)

abbrev pub slot_bytes : Slot → List ℕ
slot_bytes s = schema_bytes s.base.schema ++ (rows_bytes s.base.rows ++ draft_bytes s.draft)

abbrev pub names_bytes : List (List ℕ) → List ℕ
names_bytes names = to_be_bytes w64 (length names) ++ flat_map str16 names

abbrev pub db_bytes : List Slot → List ℕ
db_bytes db = to_be_bytes w64 (length db) ++ flat_map slot_bytes db

abbrev pub dump_bytes : Dump → List ℕ
dump_bytes d = to_be_bytes w64 d.position ++ (d.source ∷ (str16 d.name ++ (flag_byte d.all ∷ (names_bytes d.covers ++ db_bytes d.db))))

-- ---- the dumps that have bytes

-- the transaction of a draft has 64 bits
abbrev pub HasSmallTransaction : Slot → Type 0
HasSmallTransaction s = IfSome s.draft (λ (d : Draft). d.tx < 2 ^ 64)

-- a dump that has bytes: names, numbers and tables within their limits, and the names covered in rising order
pub record IsDump (d : Dump) : Type 0 where
  pub position : d.position < 2 ^ 64
  pub source : d.source < 256
  pub name : is_name d.name ≡ true
  pub covers : All (λ n. is_name n ≡ true) d.covers
  pub rises : Rises name_cmp d.covers
  pub none : d.all ≡ true → d.covers ≡ []
  pub few_covers : length d.covers < 2 ^ 64
  pub db : IsStorable d.db
  pub few_slots : length d.db < 2 ^ 64
  pub transactions : All HasSmallTransaction d.db

-- a dump that may be encoded; the rest of `IsDump` follows from the types of its fields
pub record CanEncode (d : Dump) : Type 0 where
  pub name : d.name ≢ []
  pub covers : All (λ n. is_name n ≡ true) d.covers
  pub none : d.all ≡ true → d.covers ≡ []
  pub db : IsStorable d.db

-- ---- bytes that are no dump's

-- the place in front of the bytes
abbrev pub start_of : List ℕ → Place
start_of bytes = record { rest = bytes; size = length bytes }

-- more bytes follow after those of a dump
pub record HasMore (bytes : List ℕ) (e : DumpError) : Type 0 where
  pub dumped : Dump
  pub next : Place
  pub front : Between (dump_bytes dumped) (start_of bytes) next
  pub is : IsDump dumped
  pub more : next.rest ≢ []
  pub there : e ≡ BadField (offset next)

-- The first field that the bytes end in, that isn't allowed or that doesn't rise: all fields before it are those of a
-- dump.
abbrev pub Stops : List ℕ → DumpError → Type 0
Stops bytes e = dump.stops (start_of bytes) e ⊎ HasMore bytes e

-- the bytes are those of the dump, or stop being a dump's, unless memory ran out
abbrev pub Decodes : List ℕ → Result Dump DumpError → Type 0
Decodes bytes (Ok d) = (bytes ≡ dump_bytes d) × IsDump d
Decodes bytes (Err e) = e ≢ NoMemory → Stops bytes e

-- ---- laws

-- what is written reads back
abbrev pub WrittenReadsBack : Type 0
WrittenReadsBack = (d : Dump) (result : Result Dump DumpError) → IsDump d → Decodes (dump_bytes d) result → (result ≡ Ok d) ⊎ (result ≡ Err NoMemory)

-- bytes are those of one dump, or stop at one place for one reason
abbrev pub BytesHaveOneReading : Type 0
BytesHaveOneReading = (bytes : List ℕ) (r s : Result Dump DumpError) → r ≢ Err NoMemory → s ≢ Err NoMemory → Decodes bytes r → Decodes bytes s → r ≡ s
