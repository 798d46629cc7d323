-- Fields and steps that the public clauses don't name, for proofs alone.
use Rattle.std.specs.Prelude.{◌≡◌, ℕ, Bool, true, false, List, [], ◌∷◌, ◌++◌, length, take, map, slice_get, Result, Ok, Err}
use Rattle.std.specs.declared.option.Option.{Option}
use Rattle.std.specs.declared.option.Option.TheVariants.{None, Some}
use Rattle.std.specs.List.{AllByRecursion}
use Rattle.std.specs.Global.{Vec}
use Rattle.cj_records.specs.declared.error.RecordsError.{RecordsError}
use Rattle.cj_records.specs.declared.error.RecordsError.TheVariants as records
use Rattle.cj_records.specs.Records.{RecordList}
use Rattle.cj_dump.specs.declared.dump.Dump.{Dump}
use Rattle.cj_dump.specs.declared.error.DumpError.{DumpError}
use Rattle.cj_dump.specs.declared.error.DumpError.TheVariants as decoding
use Rattle.cj_dump.specs.DumpLayout.{dump}
use Rattle.cj_dump.specs.Dumps.{dump_bytes, start_of, IsDump}
use Rattle.cj_dump.specs.Layouts.{FieldReading}
use Rattle.cj_shelf.specs.declared.error.ShelfError.{ShelfError}
use Rattle.cj_shelf.specs.declared.error.ShelfError.TheVariants as errors
use Rattle.cj_shelf.specs.declared.label.Label.{Label}
use Rattle.cj_shelf.specs.Shelves.{shelf_magic, dump_bodies, names_of, is_shelved, IsNoDump, BadDumpIn}

-- the error of a shelf for an error of its records
abbrev pub of_records : RecordsError → ShelfError
of_records records.Failed = errors.Failed
of_records (records.BadRecord offset) = errors.BadRecord offset
of_records records.NoMemory = errors.NoMemory

-- the error for a record with its gate at the offset, whose body was not decoded
abbrev pub refusal_at : ℕ → DumpError → ShelfError
refusal_at at (decoding.Cut _) = errors.BadRecord at
refusal_at at (decoding.BadField _) = errors.BadRecord at
refusal_at at (decoding.Order _) = errors.BadRecord at
refusal_at at decoding.NoMemory = errors.NoMemory

-- the error is no bad record; a shelf that is open over a store that tells its bytes gives none
abbrev pub IsNoBadRecord : ShelfError → Type 0
IsNoBadRecord errors.Failed = Unit {0}
IsNoBadRecord (errors.BadRecord _) = ⊥
IsNoBadRecord errors.NoMemory = Unit {0}

-- ---- names

-- the names on the labels
abbrev pub labelled : List Label → List (List ℕ)
labelled labels = map (λ (label : Label). label.name) labels

-- the index of the first of the names that is this one, or none if it is not among them
abbrev pub IsFirstPlace : List ℕ → List (List ℕ) → Option ℕ → Type 0
IsFirstPlace name names (Some place) = (slice_get names place ≡ Some name) × (is_shelved name (take place names) ≡ false)
IsFirstPlace name names None = is_shelved name names ≡ false

-- ---- dumps of bodies

-- the dump that was read of a body, as a list of at most one
abbrev pub read_dump : FieldReading Dump → List Dump
read_dump (Ok x) = x.0 ∷ []
read_dump (Err e) = []

-- the dumps of these bodies, without the bodies that are no dump's
abbrev pub dumps_in : List (List ℕ) → List Dump
dumps_in [] = []
dumps_in (body ∷ bodies) = read_dump (dump.reads (start_of body)) ++ dumps_in bodies

-- these are the bodies of these dumps
pub record AreBodies (bodies : List (List ℕ)) (dumps : List Dump) : Type 0 where
  pub same : bodies ≡ dump_bodies dumps
  pub each : AllByRecursion IsDump dumps

-- this is the body of a dump
abbrev pub IsBody : List ℕ → Type 0
IsBody body = (d : Dump) × IsDump d × (dump_bytes d ≡ body)

-- the labels are those of the dumps of these bodies
pub record Labels (bodies : List (List ℕ)) (labels : List Label) : Type 0 where
  pub dumps : AreBodies bodies (dumps_in bodies)
  pub names : labelled labels ≡ names_of (dumps_in bodies)

-- ---- fields and steps

-- what holds of the fields of a shelf
pub record AgreesWithRecords {S : Type 0} (tells : Bool) (records : RecordList S) (kept : List Label) : Type 0 where
  pub magic : records.magic ≡ shelf_magic
  pub count : length kept ≡ length records.list
  pub labels : tells ≡ true → Labels records.list kept
  pub refused : tells ≡ true → records.torn ≡ true → IsBody records.refused

-- the body is that of the dump, or it is the body of none and the record's offset is told, unless memory ran out
abbrev pub FindsDump : List ℕ → ℕ → Result Dump ShelfError → Type 0
FindsDump body at (Ok d) = (body ≡ dump_bytes d) × IsDump d
FindsDump body at (Err (errors.BadRecord offset)) = IsNoDump body × (offset ≡ at)
FindsDump body at (Err errors.NoMemory) = Unit {0}
FindsDump body at (Err errors.Failed) = ⊥

-- the labels of the dumps of these bodies, or the first body that is no dump's
abbrev pub LabelsOf : List (List ℕ) → Result (Vec Label) ShelfError → Type 0
LabelsOf list (Ok labels) = Labels list labels.items
LabelsOf list (Err (errors.BadRecord offset)) = BadDumpIn list offset
LabelsOf list (Err errors.Failed) = Unit {0}
LabelsOf list (Err errors.NoMemory) = Unit {0}
