-- What holds of the fields of records, and what a stop may leave of them.
use Rattle.std.specs.Prelude.{◌≡◌, ◌≢◌, ℕ, ◌+◌, ◌<◌, ◌≤◌, Bool, true, false, List, ◌∷◌, ◌++◌, length, take, drop, slice_index_or, Result, Ok, Err}
use Rattle.std.specs.Global.{Vec}
use Rattle.std.specs.Int.{w64, from_be_bytes}
use Rattle.cj_outside.specs.Streams.{most}
use Rattle.cj_codec.specs.Fields.{str64}
use Rattle.cj_records.specs.declared.error.RecordsError.{RecordsError}
use Rattle.cj_records.specs.declared.error.RecordsError.TheVariants as errors
use Rattle.cj_records.specs.declared.place.Place.{Place}
use Rattle.cj_records.specs.RecordFiles.{HasLength}
use Rattle.cj_records.specs.Proving.Parts.{SameButGate}
use Rattle.cj_records.specs.Proving.Places.{body_at, bodies_at, AllWithin, Reaches}

-- the bytes are the magic, these records and a gate, which is closed unless it is torn
pub record Laid (magic held : List ℕ) (bodies : List (List ℕ)) (end : ℕ) (torn : Bool) : Type 0 where
  pub reaches : Reaches magic held bodies end
  pub gate : end < length held
  pub closed : torn ≡ false → slice_index_or held end 1 ≢ 1

-- the window shows bytes that the store holds at its offset
abbrev pub ShowsPart : List ℕ → ℕ → List ℕ → Type 0
ShowsPart held from shown = shown ≡ take (length shown) (drop from held)

-- the places and the gate are those of the bytes, and the window shows some of the bytes
pub record AgreesWithStore (tells : Bool) (held magic : List ℕ) (places : List Place) (end : ℕ) (torn : Bool) (from : ℕ) (part : List ℕ) : Type 0 where
  pub limit : end ≤ most
  pub within : AllWithin end places
  pub laid : tells ≡ true → Laid magic held (bodies_at held places) end torn
  pub shown : tells ≡ true → ShowsPart held from part

-- ---- what a stop may leave

-- the body after the gate, of the length that is there
abbrev pub body_behind : List ℕ → ℕ → List ℕ
body_behind held end = take (from_be_bytes w64 (take 8 (drop (end + 1) held))) (drop (end + 9) held)

-- after the gate come the rest of a whole record with this body, and a closed gate
pub record HasRecordBehind (held : List ℕ) (end : ℕ) (body : List ℕ) : Type 0 where
  pub later : List ℕ
  pub behind : drop (end + 1) held ≡ str64 body ++ 0 ∷ later
  pub small : HasLength body

-- A stop leaves these records and a closed gate. While the gate is torn, it leaves all bytes but the gate as they
-- are, and after the gate is the record that was refused.
pub record SurvivesStop (tells : Bool) (held : List ℕ) (may : List ℕ → Type 0) (magic : List ℕ) (places : List Place) (end : ℕ) (torn : Bool) : Type 0 where
  pub shut : tells ≡ true → torn ≡ false → (image : List ℕ) → may image → Laid magic image (bodies_at held places) end false
  pub may_be_open : tells ≡ true → torn ≡ true → (image : List ℕ) → may image → SameButGate end held image
  pub stands : tells ≡ true → torn ≡ true → HasRecordBehind held end (body_behind held end)

-- what reading a body at a place gives
abbrev pub ReadsPart : List ℕ → Place → Result (Vec ℕ) RecordsError → Type 0
ReadsPart held place (Ok body) = body.items ≡ body_at held place
ReadsPart held place (Err errors.Failed) = Unit {0}
ReadsPart held place (Err errors.NoMemory) = Unit {0}
ReadsPart held place (Err (errors.BadRecord _)) = length (body_at held place) < place.len
