-- Formats: how the values of a field are spelled as bytes, which of them a field may hold, and how a field is read.
use Rattle.std.specs.Prelude.{◌≡◌, ◌⊎◌, ℕ, zero, suc, ◌<◌, Bool, true, List, [], ◌∷◌, ◌++◌, length, slice_index_or, Result, Ok, Err, if◌then◌else◌}
use Rattle.std.specs.List.{flat_map, AllByRecursion}
use Rattle.cj_model.specs.Wire.Fields.{◌>>=◌}
use Rattle.cj_codec.specs.declared.error.Fault.{Fault}
use Rattle.cj_codec.specs.declared.error.Fault.TheVariants.{Cut, BadField}

-- a value and the bytes after its field, or what is wrong
abbrev pub Reading : Type 0 → Type 0
Reading A = Result (A × List ℕ) Fault

-- the bytes of each value, the values that a field may hold, the bytes that end inside a field, and the reading
pub record Format (A : Type 0) : Type 1 where
  pub bytes : A → List ℕ
  pub fits : A → Type 0
  pub partial : List ℕ → Type 0
  pub reads : List ℕ → Reading A

-- numbers that are bytes
abbrev pub AreBytes : List ℕ → Type 0
AreBytes bytes = (i : ℕ) → slice_index_or bytes i 0 < 256

-- What is written reads back, whatever follows it; what is read was written; bytes are cut exactly inside a field.
pub record IsFormat {A : Type 0} (f : Format A) : Type 0 where
  pub again : (x : A) (rest : List ℕ) → f.fits x → f.reads (f.bytes x ++ rest) ≡ Ok (x, rest)
  pub whole : (bytes : List ℕ) (x : A) (rest : List ℕ) → AreBytes bytes → f.reads bytes ≡ Ok (x, rest) → (bytes ≡ f.bytes x ++ rest) × f.fits x
  pub inside : (bytes : List ℕ) → AreBytes bytes → f.reads bytes ≡ Err Cut → f.partial bytes
  pub cut : (bytes : List ℕ) → f.partial bytes → f.reads bytes ≡ Err Cut

-- two values of one format whose bytes begin the same bytes are equal
abbrev pub HasOneReading : {A : Type 0} → Format A → Type 0
HasOneReading {A} f = (x y : A) (rest more : List ℕ) → f.fits x → f.fits y → f.bytes x ++ rest ≡ f.bytes y ++ more → (x ≡ y) × (rest ≡ more)

-- ---- formats from formats

-- a field after a key that says how it is read: the key of the value, and the value in the format of this key
abbrev pub behind : {K A : Type 0} → Format K → (A → K) → (K → Format A) → Format A
behind {K} f key g = record {
  bytes = λ x. f.bytes (key x) ++ (g (key x)).bytes x;
  fits = λ x. f.fits (key x) × (g (key x)).fits x;
  partial = λ bytes. f.partial bytes ⊎ ((k : K) × (rest : List ℕ) × (bytes ≡ f.bytes k ++ rest) × f.fits k × (g k).partial rest);
  reads = λ bytes. f.reads bytes >>= λ k. (g k.0).reads k.1;
}

-- a format for another type, each value of which is spelled as one of the first type
abbrev pub mapped : {A B : Type 0} → (A → B) → (B → A) → Format A → Format B
mapped make parts f = record {
  bytes = λ y. f.bytes (parts y);
  fits = λ y. f.fits (parts y) × (make (parts y) ≡ y);
  partial = f.partial;
  reads = λ bytes. f.reads bytes >>= λ x. Ok (make x.0, x.1);
}

-- two fields, the one after the other
abbrev pub pair : {A B : Type 0} → Format A → Format B → Format (A × B)
pair {A} {B} f g = behind f (λ p. p.0) (λ x. mapped (λ y. (x, y)) (λ p. p.1) g)

-- the values for which a test holds
abbrev pub such_that : {A : Type 0} → (A → Bool) → Format A → Format A
such_that test f = record {
  bytes = f.bytes;
  fits = λ x. f.fits x × (test x ≡ true);
  partial = f.partial;
  reads = λ bytes. f.reads bytes >>= λ x. if test x.0 then Ok x else Err BadField;
}

-- the format of no value at all
abbrev pub nothing : {A : Type 0} → Format A
nothing = record { bytes = λ x. []; fits = λ x. ⊥; partial = λ bytes. ⊥; reads = λ bytes. Err BadField }

-- ---- lists

-- reading n values, one after another
abbrev pub repeated_at : {A : Type 0} → Format A → ℕ → List ℕ → Reading (List A)
repeated_at f zero bytes = Ok ([], bytes)
repeated_at f (suc n) bytes = f.reads bytes >>= λ x. repeated_at f n x.1 >>= λ xs. Ok (x.0 ∷ xs.0, xs.1)

-- bytes that end inside one of n values, one after another
abbrev pub repeated_partial : {A : Type 0} → Format A → ℕ → List ℕ → Type 0
repeated_partial f zero bytes = ⊥
repeated_partial {A} f (suc n) bytes = f.partial bytes ⊎ ((x : A) × (rest : List ℕ) × (bytes ≡ f.bytes x ++ rest) × f.fits x × repeated_partial f n rest)

abbrev pub repeated : {A : Type 0} → Format A → ℕ → Format (List A)
repeated f n = record {
  bytes = flat_map f.bytes;
  fits = λ xs. (length xs ≡ n) × AllByRecursion f.fits xs;
  partial = repeated_partial f n;
  reads = repeated_at f n;
}

-- values after their number
abbrev pub list : {A : Type 0} → Format ℕ → Format A → Format (List A)
list count f = behind count length (repeated f)
