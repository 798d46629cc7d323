-- Layouts: fields one after another, and where bytes that are no value's stop being one.
use Rattle.std.specs.Prelude.{◌≡◌, ◌≢◌, ◌⊎◌, ℕ, zero, suc, Bool, true, false, List, [], ◌∷◌, ◌++◌, length, Result, Ok, Err, if◌then◌else◌}
use Rattle.cj_model.specs.Wire.Fields.{◌>>=◌}
use Rattle.cj_codec.specs.declared.error.Fault.{Fault}
use Rattle.cj_codec.specs.declared.error.Fault.TheVariants as faults
use Rattle.cj_codec.specs.Formats.{Format}
use Rattle.cj_codec.specs.Readings.{Place, offset}
use Rattle.cj_dump.specs.declared.error.DumpError.{DumpError}
use Rattle.cj_dump.specs.declared.error.DumpError.TheVariants.{Cut, BadField, Order, NoMemory}

-- a value and the place after it, or what is wrong
abbrev pub FieldReading : Type 0 → Type 0
FieldReading A = Result (A × Place) DumpError

-- these bytes are between two places
pub record Between (bytes : List ℕ) (start next : Place) : Type 0 where
  pub front : start.rest ≡ bytes ++ next.rest
  pub size : next.size ≡ start.size

-- the bytes of each value, the values that fit, where other bytes stop and why, and what is read
pub record FieldLayout (A : Type 0) : Type 1 where
  pub bytes : A → List ℕ
  pub fits : A → Type 0
  pub stops : Place → DumpError → Type 0
  pub reads : Place → FieldReading A

-- ---- one field

-- The bytes end inside the field; or it isn't allowed; or it is, and doesn't rise. Each has the offset at which the
-- field begins.
abbrev pub field_stops : {A : Type 0} → Format A → (A → Bool) → Place → DumpError → Type 0
field_stops f rises place (Cut n) = f.partial place.rest × (n ≡ offset place)
field_stops f rises place (BadField n) = (f.reads place.rest ≡ Err faults.BadField) × (n ≡ offset place)
field_stops {A} f rises place (Order n) = ((x : A) × (next : Place) × Between (f.bytes x) place next × f.fits x × (rises x ≡ false)) × (n ≡ offset place)
field_stops f rises place NoMemory = ⊥

abbrev pub field_found : {A : Type 0} → (A → Bool) → Place → Result (A × List ℕ) Fault → FieldReading A
field_found rises place (Ok x) = if rises x.0 then Ok (x.0, record { rest = x.1; size = place.size }) else Err (Order (offset place))
field_found rises place (Err faults.Cut) = Err (Cut (offset place))
field_found rises place (Err faults.BadField) = Err (BadField (offset place))

-- a field of a format, whose value is greater than the one before it
abbrev pub rising_field : {A : Type 0} → Format A → (A → Bool) → FieldLayout A
rising_field f rises = record {
  bytes = f.bytes;
  fits = λ x. f.fits x × (rises x ≡ true);
  stops = field_stops f rises;
  reads = λ place. field_found rises place (f.reads place.rest);
}

-- a field without an order
abbrev pub field : {A : Type 0} → Format A → FieldLayout A
field f = rising_field f (λ x. true)

-- no field, for the one value that is left
abbrev pub known : {A : Type 0} → A → FieldLayout A
known x = record { bytes = λ y. []; fits = λ y. y ≡ x; stops = λ place e. ⊥; reads = λ place. Ok (x, place) }

-- ---- one after another

-- a part of the value, and then the whole value in the layout that this part gives
abbrev pub behind : {K A : Type 0} → FieldLayout K → (A → K) → (K → FieldLayout A) → FieldLayout A
behind {K} f key g = record {
  bytes = λ x. f.bytes (key x) ++ (g (key x)).bytes x;
  fits = λ x. f.fits (key x) × (g (key x)).fits x;
  stops = λ place e. f.stops place e ⊎ ((k : K) × (next : Place) × Between (f.bytes k) place next × f.fits k × (g k).stops next e);
  reads = λ place. f.reads place >>= λ k. (g k.0).reads k.1;
}

-- values of another type, each laid out as the value made from it
abbrev pub mapped : {A B : Type 0} → (A → B) → (B → A) → FieldLayout A → FieldLayout B
mapped make parts f = record {
  bytes = λ y. f.bytes (parts y);
  fits = λ y. f.fits (parts y) × (make (parts y) ≡ y);
  stops = f.stops;
  reads = λ place. f.reads place >>= λ x. Ok (make x.0, x.1);
}

-- a value and then another one, in the layout that the first gives
abbrev pub followed : {A B : Type 0} → FieldLayout A → (A → FieldLayout B) → FieldLayout (A × B)
followed {A} {B} f g = behind f (λ p. p.0) (λ x. mapped (λ y. (x, y)) (λ p. p.1) (g x))

abbrev pub pair : {A B : Type 0} → FieldLayout A → FieldLayout B → FieldLayout (A × B)
pair f g = followed f (λ x. g)

-- ---- lists: what the next item may be depends on those before it

abbrev pub listed_bytes : {A : Type 0} → (List A → FieldLayout A) → List A → List A → List ℕ
listed_bytes item before [] = []
listed_bytes item before (x ∷ xs) = (item before).bytes x ++ listed_bytes item (before ++ x ∷ []) xs

abbrev pub listed_fits : {A : Type 0} → (List A → FieldLayout A) → List A → List A → Type 0
listed_fits item before [] = Unit {0}
listed_fits item before (x ∷ xs) = (item before).fits x × listed_fits item (before ++ x ∷ []) xs

abbrev pub listed_stops : {A : Type 0} → (List A → FieldLayout A) → List A → ℕ → Place → DumpError → Type 0
listed_stops item before zero place e = ⊥
listed_stops {A} item before (suc n) place e =
    (item before).stops place e ⊎ ((x : A) × (next : Place) × Between ((item before).bytes x) place next × (item before).fits x × listed_stops item (before ++ x ∷ []) n next e)

-- all items, with those before
abbrev pub listed_reads : {A : Type 0} → (List A → FieldLayout A) → List A → ℕ → Place → FieldReading (List A)
listed_reads item before zero place = Ok (before, place)
listed_reads item before (suc n) place = (item before).reads place >>= λ x. listed_reads item (before ++ x.0 ∷ []) n x.1

-- so many items
abbrev pub listed : {A : Type 0} → (List A → FieldLayout A) → ℕ → FieldLayout (List A)
listed item n = record {
  bytes = listed_bytes item [];
  fits = λ xs. (length xs ≡ n) × listed_fits item [] xs;
  stops = listed_stops item [] n;
  reads = listed_reads item [] n;
}

-- a number, and as many items
abbrev pub list : {A : Type 0} → Format ℕ → (List A → FieldLayout A) → FieldLayout (List A)
list count item = behind (field count) length (listed item)

-- ---- what a step of reading gives

-- a value was read off the front; or the error is that of the layout, unless memory ran out
abbrev pub TakesOff : {A : Type 0} → FieldLayout A → Place → Place → Result A DumpError → Type 0
TakesOff layout old new (Ok x) = layout.reads old ≡ Ok (x, new)
TakesOff layout old new (Err e) = e ≢ NoMemory → layout.reads old ≡ Err e
