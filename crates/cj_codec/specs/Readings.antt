-- What reading a field gives.
use Rattle.std.specs.Prelude.{◌≡◌, ◌≢◌, ℕ, ◌-◌, List, length, Result, Ok, Err}
use Rattle.cj_codec.specs.declared.error.CodecError.{CodecError}
use Rattle.cj_codec.specs.declared.error.CodecError.TheVariants as errors
use Rattle.cj_codec.specs.declared.error.Fault.{Fault}
use Rattle.cj_codec.specs.declared.error.Fault.TheVariants as faults
use Rattle.cj_codec.specs.declared.error.Stop.{Stop}
use Rattle.cj_codec.specs.declared.error.Stop.TheVariants as stops
use Rattle.cj_codec.specs.Formats.{Format}

-- what a step returned, seen by a view, is what reading gives, unless memory ran out
abbrev pub GivesReading : {X Y : Type 0} → (X → Y) → Result X Stop → Result Y Fault → Type 0
GivesReading view (Ok x) read = read ≡ Ok (view x)
GivesReading view (Err (stops.Fault fault)) read = read ≡ Err fault
GivesReading view (Err stops.NoMemory) read = Unit {0}

-- a reader: the bytes that are left, and how many it was given
pub record Place : Type 0 where
  pub rest : List ℕ
  pub size : ℕ

-- how many bytes are taken
abbrev pub offset : Place → ℕ
offset place = place.size - length place.rest

-- the error of a field that begins at this offset
abbrev pub stopped_at : ℕ → Stop → CodecError
stopped_at n (stops.Fault faults.Cut) = errors.Cut n
stopped_at n (stops.Fault faults.BadField) = errors.BadField n
stopped_at n stops.NoMemory = errors.NoMemory

-- A field was taken off; or the reader is where it was, as the bytes end inside the field, or it isn't allowed,
-- or memory ran out.
abbrev pub ReadsField : {X Y : Type 0} → Format Y → (X → Y) → Place → Place → Result X CodecError → Type 0
ReadsField f view old new (Ok x) = (f.reads old.rest ≡ Ok (view x, new.rest)) × (new.size ≡ old.size)
ReadsField f view old new (Err (errors.Cut n)) = (f.reads old.rest ≡ Err faults.Cut) × (n ≡ offset old) × (new ≡ old)
ReadsField f view old new (Err (errors.BadField n)) = (f.reads old.rest ≡ Err faults.BadField) × (n ≡ offset old) × (new ≡ old)
ReadsField f view old new (Err errors.NoMemory) = new ≡ old

-- Fields were taken off, one after another; or the bytes end inside one, or one isn't allowed, or memory ran out.
-- After an error nothing is said of the reader.
abbrev pub ReadsFields : {Y : Type 0} → Format Y → Place → Place → Result Y CodecError → Type 0
ReadsFields f old new (Ok x) = (f.reads old.rest ≡ Ok (x, new.rest)) × (new.size ≡ old.size)
ReadsFields f old new (Err (errors.Cut n)) = f.reads old.rest ≡ Err faults.Cut
ReadsFields f old new (Err (errors.BadField n)) = f.reads old.rest ≡ Err faults.BadField
ReadsFields f old new (Err errors.NoMemory) = Unit {0}

-- the bytes are those of no value that the format may hold
abbrev pub IsNoField : {Y : Type 0} → Format Y → List ℕ → Type 0
IsNoField {Y} f bytes = (x : Y) → f.fits x → bytes ≢ f.bytes x

-- all of the bytes are those of a value that the format may hold, or of none, unless memory ran out
abbrev pub ReadsWhole : {Y : Type 0} → Format Y → List ℕ → Result Y CodecError → Type 0
ReadsWhole f bytes (Ok x) = (bytes ≡ f.bytes x) × f.fits x
ReadsWhole f bytes (Err (errors.Cut n)) = IsNoField f bytes
ReadsWhole f bytes (Err (errors.BadField n)) = IsNoField f bytes
ReadsWhole f bytes (Err errors.NoMemory) = Unit {0}
