-- Record files: which list of byte strings some bytes keep, and where bytes that keep none are bad.
use Rattle.std.specs.Prelude.{◌≡◌, ◌≢◌, ◌⊎◌, ℕ, ◌^◌, ◌<◌, ◌≤◌, List, [], ◌∷◌, ◌++◌, length, take, Result, Ok, Err}
use Rattle.std.specs.List.{flat_map, AllByRecursion}
use Rattle.cj_codec.specs.Fields.{str64}

-- the bytes of a record: an open gate, the length of the body, and the body
abbrev pub record_bytes : List ℕ → List ℕ
record_bytes body = 1 ∷ str64 body

-- the bytes of a record file before the closed gate: the magic, and these records
abbrev pub front_bytes : List ℕ → List (List ℕ) → List ℕ
front_bytes magic bodies = magic ++ flat_map record_bytes bodies

-- a body whose length fits the eight bytes that a record has for it
abbrev pub HasLength : List ℕ → Type 0
HasLength body = length body < 2 ^ 64

-- The bytes are the magic, the records of these bodies, and then the rest, at whose front a gate should be.
pub record StartsWithRecords (magic bytes : List ℕ) (bodies : List (List ℕ)) (rest : List ℕ) : Type 0 where
  pub whole : bytes ≡ front_bytes magic bodies ++ rest
  pub each : AllByRecursion HasLength bodies

-- the bytes begin with a closed gate
abbrev pub IsClosed : List ℕ → Type 0
IsClosed [] = ⊥
IsClosed (gate ∷ _) = gate ≢ 1

-- the bytes begin with no gate, or with an open one and no whole record
abbrev pub IsFaulty : List ℕ → Type 0
IsFaulty [] = Unit {0}
IsFaulty (gate ∷ rest) = (gate ≡ 1) × ((body later : List ℕ) → HasLength body → rest ≡ str64 body ++ later → ⊥)

-- the bytes are those of a new file: at most five
abbrev pub IsNew : List ℕ → Type 0
IsNew bytes = length bytes ≤ 5

-- after the records of these bodies come a closed gate and any bytes
pub record Holds (magic bytes : List ℕ) (bodies : List (List ℕ)) : Type 0 where
  pub rest : List ℕ
  pub front : StartsWithRecords magic bytes bodies rest
  pub closed : IsClosed rest

-- before the offset are whole records, and at the offset is no gate or no record
pub record Breaks (magic bytes : List ℕ) (offset : ℕ) : Type 0 where
  pub bodies : List (List ℕ)
  pub rest : List ℕ
  pub front : StartsWithRecords magic bytes bodies rest
  pub faulty : IsFaulty rest
  pub there : offset ≡ length (front_bytes magic bodies)

-- What is found in bytes: a list of bodies, empty in a new file; or the offset of a bad record or magic.
abbrev pub Finds : List ℕ → List ℕ → Result (List (List ℕ)) ℕ → Type 0
Finds magic bytes (Ok bodies) = (IsNew bytes × (bodies ≡ [])) ⊎ Holds magic bytes bodies
Finds magic bytes (Err offset) = (5 < length bytes) × (((take 4 bytes ≢ magic) × (offset ≡ 0)) ⊎ Breaks magic bytes offset)

-- the bytes fix what is found in them
abbrev pub BytesFixTheList : Type 0
BytesFixTheList = (magic bytes : List ℕ) (a b : Result (List (List ℕ)) ℕ) → length magic ≡ 4 → Finds magic bytes a → Finds magic bytes b → a ≡ b
