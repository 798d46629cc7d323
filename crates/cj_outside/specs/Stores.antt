-- What the calls of a store do to its bytes, and to the images of them that a stop may leave.
use Rattle.std.specs.Prelude.{◌≡◌, ◌⊎◌, ℕ, ◌+◌, ◌<◌, ◌≤◌, List, ◌++◌, length, take, drop, Result, Ok, Err}
use Rattle.cj_outside.specs.declared.source.Failed.{Failed}
use Rattle.cj_outside.specs.declared.sink.OutError.{OutError}
use Rattle.cj_outside.specs.declared.sink.OutError.TheVariants as errors
use Rattle.cj_outside.specs.Streams.{most}

-- ---- bytes

-- the answer is the length of the store
abbrev pub TellsLength : List ℕ → Result ℕ Failed → Type 0
TellsLength held (Ok n) = n ≡ length held
TellsLength held (Err _) = Unit {0}

-- the first count bytes of the buffer are those from the offset on; none only if none is left or asked for
pub record ReadsAt (held : List ℕ) (at : ℕ) (buf : List ℕ) (count : ℕ) : Type 0 where
  pub bytes : drop at held ≡ take count buf ++ drop (at + count) held
  pub some : 0 < length buf → at < length held → 0 < count

-- the old bytes with these from the offset on
abbrev pub overwritten : List ℕ → ℕ → List ℕ → List ℕ
overwritten old at bytes = take at old ++ bytes ++ drop (at + length bytes) old

-- n bytes from the offset on may be any, or missing where there were none; the others are as they were
pub record Torn (at n : ℕ) (old new : List ℕ) : Type 0 where
  pub before : take at new ≡ take at old
  pub after : drop (at + n) new ≡ drop (at + n) old
  pub no_shorter : length old ≤ length new

-- the bytes were written, or after a refusal they are torn
abbrev pub Writes : {E : Type 0} → List ℕ → ℕ → List ℕ → List ℕ → Result Unit E → Type 0
Writes old at bytes new (Ok _) = new ≡ overwritten old at bytes
Writes old at bytes new (Err _) = Torn at (length bytes) old new

-- what reaches past the most bytes of a store is refused as a fault
abbrev pub KeepsLimit : ℕ → Result Unit OutError → Type 0
KeepsLimit end (Ok _) = end ≤ most
KeepsLimit end (Err errors.Failed) = Unit {0}
KeepsLimit end (Err errors.NoMemory) = end ≤ most

-- ---- images: the bytes that a stop may leave

-- an image is one from before, changed by this step
abbrev pub IsSteppedImage : (List ℕ → List ℕ → Type 0) → (List ℕ → Type 0) → List ℕ → Type 0
IsSteppedImage step before image = (old : List ℕ) × before old × step old image

-- a step that changes nothing
abbrev pub Stays : List ℕ → List ℕ → Type 0
Stays old new = new ≡ old

-- a stop leaves these bytes and no others
abbrev pub Only : List ℕ → (List ℕ → Type 0) → Type 0
Only bytes images = (image : List ℕ) → images image → image ≡ bytes

-- Time goes on by a call that makes this step.
-- A stop may leave, now or since a moment, what it might have left before, or such an image after the step.
pub record Steps {D : Type 0} (moment : D → ℕ) (may : D → List ℕ → Type 0) (since : D → ℕ → List ℕ → Type 0) (step : List ℕ → List ℕ → Type 0) (old new : D) : Type 0 where
  pub later : moment old ≤ moment new
  pub images : (image : List ℕ) → may new image → IsSteppedImage step (may old) image
  pub past : (t : ℕ) (image : List ℕ) → t ≤ moment old → since new t image → since old t image ⊎ IsSteppedImage step (may old) image
  pub keeps : (t : ℕ) (image : List ℕ) → t ≤ moment old → since old t image → since new t image

-- A stop at any moment since old leaves bytes of which P holds.
-- Since a moment before old, a stop leaves what it might have left until then, or such bytes.
pub record LeavesOnly {D : Type 0} (moment : D → ℕ) (since : D → ℕ → List ℕ → Type 0) (old new : D) (P : List ℕ → Type 0) : Type 0 where
  pub later : moment old ≤ moment new
  pub each : (image : List ℕ) → since new (moment old) image → P image
  pub before : (t : ℕ) (image : List ℕ) → t ≤ moment old → since new t image → since old t image ⊎ P image

-- ---- stores without a disk: nothing is said of a stop

abbrev pub no_moment : {D : Type 0} → D → ℕ
no_moment store = 0

abbrev pub no_image : {D : Type 0} → D → List ℕ → Type 0
no_image store image = ⊥

abbrev pub no_past : {D : Type 0} → D → ℕ → List ℕ → Type 0
no_past store moment image = ⊥
