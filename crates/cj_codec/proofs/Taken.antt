-- What is taken off one field after another is what reading them all gives.
use Rattle.std.proofs.Common.{◌≡◌, ◌≢◌, ℕ, suc, List, [], ◌∷◌, ◌++◌, Result, Ok, Err, refl, sym, ap, subst, ◌∙◌, append_assoc}
use Rattle.std.proofs.lemmas.List.{append-nil}
use Rattle.cj_model.specs.Wire.Fields.{◌>>=◌}
use Rattle.cj_codec.specs.declared.error.CodecError.{CodecError}
use Rattle.cj_codec.specs.declared.error.CodecError.TheVariants as errors
use Rattle.cj_codec.specs.declared.error.Fault.{Fault}
use Rattle.cj_model.proofs.Fields.{failed, ok_is}
use Rattle.cj_codec.specs.Formats.{Reading, Format, IsFormat, AreBytes, repeated_at}
use Rattle.cj_codec.specs.Readings.{Place, ReadsFields, IsNoField, ReadsWhole}

-- a reading of values, with those in front that were read before
abbrev pub with_front : {A : Type 0} → List A → Reading (List A) → Reading (List A)
with_front front read = read >>= λ xs. Ok (front ++ xs.0, xs.1)

-- one more in front
more_in_front : {A : Type 0} (front : List A) (x : A) (read : Reading (List A)) → with_front front (read >>= λ xs. Ok (x ∷ xs.0, xs.1)) ≡ with_front (front ++ x ∷ []) read
more_in_front front x (Ok xs) = ap (λ (all : List _). Ok (all, xs.1)) (sym (append_assoc front (x ∷ []) xs.0))
more_in_front front x (Err fault) = refl

-- the next is read, and what reading them all gives stays
pub one_more : {A : Type 0} (f : Format A) (front more : List A) (x : A) (n left : ℕ) (bytes rest : List ℕ) (all : Reading (List A)) → f.reads bytes ≡ Ok (x, rest) → more ≡ front ++ x ∷ [] → suc left ≡ n
    → with_front front (repeated_at f n bytes) ≡ all → with_front more (repeated_at f left rest) ≡ all
one_more {A} f front more x n left bytes rest all e pushed one kept =
    ap (λ (items : List A). with_front items (repeated_at f left rest)) pushed
    ∙ sym (more_in_front front x (repeated_at f left rest))
    ∙ sym (ap (λ (r : Reading A). with_front front (r >>= λ y. repeated_at f left y.1 >>= λ ys. Ok (y.0 ∷ ys.0, ys.1))) e)
    ∙ ap (λ (k : ℕ). with_front front (repeated_at f k bytes)) one
    ∙ kept

-- ---- all of the bytes

-- what is read of all the bytes is spelled so
pub all_read : {A : Type 0} (f : Format A) → IsFormat f → (bytes : List ℕ) (x : A) (rest : List ℕ) → AreBytes bytes → f.reads bytes ≡ Ok (x, rest) → rest ≡ [] → (bytes ≡ f.bytes x) × f.fits x
all_read f law bytes x rest are e end =
    let p = law.whole bytes x rest are e in
    (p.0 ∙ ap (λ (t : List ℕ). f.bytes x ++ t) end ∙ append-nil (f.bytes x), p.1)

-- the bytes of a value are read as this value, to their end
reads_back : {A : Type 0} (f : Format A) → IsFormat f → (bytes : List ℕ) (x : A) → f.fits x → bytes ≡ f.bytes x → f.reads bytes ≡ Ok (x, [])
reads_back f law bytes x fits is = ap f.reads (is ∙ sym (append-nil (f.bytes x))) ∙ law.again x [] fits

-- where reading fails the bytes are no value's
pub none_read : {A : Type 0} (f : Format A) → IsFormat f → (bytes : List ℕ) (fault : Fault) → f.reads bytes ≡ Err fault → IsNoField f bytes
none_read {A} f law bytes fault e x fits is = let both : Ok (x, []) ≡ failed (A × List ℕ) fault = sym (reads_back f law bytes x fits is) ∙ e in absurd cc

-- nor where bytes are left
pub some_left : {A : Type 0} (f : Format A) → IsFormat f → (bytes : List ℕ) (x : A) (rest : List ℕ) → f.reads bytes ≡ Ok (x, rest) → rest ≢ [] → IsNoField f bytes
some_left {A} f law bytes x rest e more y fits is =
    let both : (x, rest) ≡ (y, []) = ok_is {E = Fault} (x, rest) (y, []) (sym e ∙ reads_back f law bytes y fits is) in
    more (ap (λ (z : A × List ℕ). z.1) both)

-- an error of reading the fields is one of reading all of the bytes
pub none_whole : {A : Type 0} (f : Format A) → IsFormat f → (bytes : List ℕ) (start last : Place) (error : CodecError) (result : Result A CodecError) → start.rest ≡ bytes → ReadsFields f start last (Err error) → result ≡ Err error → ReadsWhole f bytes result
none_whole {A} f law bytes start last error result from e is = subst (ReadsWhole f bytes) (sym is) (subst (λ (b : List ℕ). ReadsWhole f b (failed A error)) from (none_at error e))
  where
    none_at : (d : CodecError) → ReadsFields f start last (failed A d) → ReadsWhole f start.rest (failed A d)
    none_at (errors.Cut n) h = none_read f law start.rest _ h
    none_at (errors.BadField n) h = none_read f law start.rest _ h
    none_at errors.NoMemory h = tt
