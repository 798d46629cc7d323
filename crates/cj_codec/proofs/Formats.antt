-- Laws of formats, each for every format.
use Rattle.std.proofs.Common.{◌≡◌, ℕ, zero, suc, Bool, true, false, cond, List, [], ◌∷◌, ◌++◌, length, drop, Ok, Err, refl, sym, ap, subst, ◌∙◌, append_assoc, arith, inl, inr}
use Rattle.std.specs.List.{flat_map, AllByRecursion}
use Rattle.std.proofs.lemmas.List.{drop_at}
use Rattle.std.proofs.lemmas.List.Concat.{flat_map-cons}
use Rattle.cj_model.specs.Wire.Fields.{◌>>=◌}
use Rattle.cj_model.proofs.Fields.{bind_ok, bind_err, guard_else, guard_else_err, ok_is, done, IsBytes_drop}
use Rattle.cj_codec.specs.declared.error.Fault.{Fault}
use Rattle.cj_codec.specs.declared.error.Fault.TheVariants.{Cut, BadField}
use Rattle.cj_codec.specs.Formats.{Reading, Format, AreBytes, IsFormat, HasOneReading, behind, mapped, pair, such_that, nothing, repeated_at, repeated_partial, repeated, list}

-- bytes have one reading
pub one_reading : {A : Type 0} (f : Format A) → IsFormat f → HasOneReading f
one_reading {A} f law x y rest more p q e =
    let read : (x, rest) ≡ (y, more) = ok_is {E = Fault} (x, rest) (y, more) (sym (law.again x rest p) ∙ ap f.reads e ∙ law.again y more q) in
    (ap (λ (z : A × List ℕ). z.0) read, ap (λ (z : A × List ℕ). z.1) read)

-- what follows some bytes is bytes
after : (front rest : List ℕ) (bytes : List ℕ) → bytes ≡ front ++ rest → AreBytes bytes → AreBytes rest
after front rest bytes is fits =
    subst AreBytes (ap (drop (length front)) is ∙ drop_at front rest (length front) refl) (IsBytes_drop (length front) bytes fits)

-- one field behind another
pub behind_law : {K A : Type 0} (f : Format K) (key : A → K) (g : K → Format A) → IsFormat f → ((k : K) → IsFormat (g k)) → ((k : K) (x : A) → (g k).fits x → key x ≡ k) → IsFormat (behind f key g)
behind_law {K} {A} f key g first second keyed = record {
  again = λ x rest fits.
      ap (λ (b : List ℕ). f.reads b >>= λ k. (g k.0).reads k.1) (append_assoc (f.bytes (key x)) ((g (key x)).bytes x) rest)
      ∙ ap (λ (r : Reading K). r >>= λ k. (g k.0).reads k.1) (first.again (key x) ((g (key x)).bytes x ++ rest) fits.0)
      ∙ (second (key x)).again x rest fits.1;
  whole = λ bytes x rest are e.
      let b = bind_ok (f.reads bytes) (λ k. (g k.0).reads k.1) (x, rest) e in
      let p = first.whole bytes b.0.0 b.0.1 are b.1 in
      let q = (second b.0.0).whole b.0.1 x rest (after (f.bytes b.0.0) b.0.1 bytes p.0 are) b.2 in
      let is : b.0.0 ≡ key x = sym (keyed b.0.0 x q.1) in
      let all : bytes ≡ (f.bytes b.0.0 ++ (g b.0.0).bytes x) ++ rest = p.0 ∙ ap (λ (t : List ℕ). f.bytes b.0.0 ++ t) q.0 ∙ sym (append_assoc (f.bytes b.0.0) ((g b.0.0).bytes x) rest) in
      subst (λ (k : K). (bytes ≡ (f.bytes k ++ (g k).bytes x) ++ rest) × (f.fits k × (g k).fits x)) is (all, (p.1, q.1));
  inside = λ bytes are e.
      bind_err (λ d. d ≡ Cut → (behind f key g).partial bytes) (f.reads bytes) (λ k. (g k.0).reads k.1) Cut
      (λ short is. inl (first.inside bytes are short))
      (λ k ok short is.
      let p = first.whole bytes k.0 k.1 are ok in
      inr (k.0, k.1, p.0, p.1, (second k.0).inside k.1 (after (f.bytes k.0) k.1 bytes p.0 are) short))
      e refl;
  cut = λ bytes part. behind_cut f key g first second bytes part;
}
  where
    behind_cut : {K A : Type 0} (f : Format K) (key : A → K) (g : K → Format A) → IsFormat f → ((k : K) → IsFormat (g k)) → (bytes : List ℕ) → (behind f key g).partial bytes → (behind f key g).reads bytes ≡ Err Cut
    behind_cut f key g first second bytes (inl part) = ap (λ r. r >>= λ k. (g k.0).reads k.1) (first.cut bytes part)
    behind_cut f key g first second bytes (inr h) =
        ap (λ b. f.reads b >>= λ k. (g k.0).reads k.1) h.2 ∙ ap (λ r. r >>= λ k. (g k.0).reads k.1) (first.again h.0 h.1 h.3) ∙ (second h.0).cut h.1 h.4

-- values of another type
pub mapped_law : {A B : Type 0} (make : A → B) (parts : B → A) (f : Format A) → IsFormat f → ((x : A) → f.fits x → parts (make x) ≡ x) → IsFormat (mapped make parts f)
mapped_law {A} {B} make parts f law back = record {
  again = λ y rest fits.
      ap (λ (r : Reading A). r >>= λ x. Ok (make x.0, x.1)) (law.again (parts y) rest fits.0)
      ∙ ap (λ (z : B). done Fault (z, rest)) fits.1;
  whole = λ bytes y rest are e.
      let b = bind_ok (f.reads bytes) (λ x. Ok (make x.0, x.1)) (y, rest) e in
      let p = law.whole bytes b.0.0 b.0.1 are b.1 in
      let same : parts (make b.0.0) ≡ b.0.0 = back b.0.0 p.1 in
      let made : B × List ℕ = (make b.0.0, b.0.1) in
      let is : made ≡ (y, rest) = ok_is {E = Fault} made (y, rest) b.2 in
      subst (λ (z : B × List ℕ). (bytes ≡ f.bytes (parts z.0) ++ z.1) × (f.fits (parts z.0) × (make (parts z.0) ≡ z.0))) is
      (p.0 ∙ ap (λ (x : A). f.bytes x ++ b.0.1) (sym same), (subst f.fits (sym same) p.1, ap make same));
  inside = λ bytes are e.
      bind_err (λ d. d ≡ Cut → f.partial bytes) (f.reads bytes) (λ x. Ok (make x.0, x.1)) Cut
      (λ short is. law.inside bytes are short) (λ x ok never is. absurd cc) e refl;
  cut = λ bytes part. ap (λ (r : Reading A). r >>= λ x. Ok (make x.0, x.1)) (law.cut bytes part);
}

-- two fields, the one after the other
pub pair_law : {A B : Type 0} (f : Format A) (g : Format B) → IsFormat f → IsFormat g → IsFormat (pair f g)
pair_law {A} {B} f g first second =
    behind_law f (λ (p : A × B). p.0) (λ x. mapped (λ y. (x, y)) (λ p. p.1) g) first (λ x. mapped_law (λ y. (x, y)) (λ p. p.1) g second (λ y fits. refl))
    (λ x p fits. ap (λ (q : A × B). q.0) (sym fits.1))

-- values for which a test holds
pub such_that_law : {A : Type 0} (test : A → Bool) (f : Format A) → IsFormat f → IsFormat (such_that test f)
such_that_law {A} test f law = record {
  again = λ x rest fits.
      ap (λ (r : Reading A). r >>= λ y. cond (test y.0) (Ok y) (Err BadField)) (law.again x rest fits.0)
      ∙ ap (λ (t : Bool). cond t (Ok (x, rest)) (Err BadField)) fits.1;
  whole = λ bytes x rest are e.
      let b = bind_ok (f.reads bytes) (λ y. cond (test y.0) (Ok y) (Err BadField)) (x, rest) e in
      let g = guard_else (test b.0.0) BadField (Ok b.0) (x, rest) b.2 in
      let p = law.whole bytes b.0.0 b.0.1 are b.1 in
      subst (λ (z : A × List ℕ). (bytes ≡ f.bytes z.0 ++ z.1) × (f.fits z.0 × (test z.0 ≡ true))) (ok_is {E = Fault} b.0 (x, rest) g.1) (p.0, (p.1, g.0));
  inside = λ bytes are e.
      bind_err (λ d. d ≡ Cut → f.partial bytes) (f.reads bytes) (λ y. cond (test y.0) (Ok y) (Err BadField)) Cut
      (λ short is. law.inside bytes are short)
      (λ x ok later. guard_else_err (λ d. d ≡ Cut → f.partial bytes) (test x.0) BadField Cut (Ok x) (λ wrong is. absurd cc) (λ right never is. absurd cc) later)
      e refl;
  cut = λ bytes part. ap (λ (r : Reading A). r >>= λ y. cond (test y.0) (Ok y) (Err BadField)) (law.cut bytes part);
}

pub nothing_law : {A : Type 0} → IsFormat (nothing {A = A})
nothing_law {A} = record {
  again = λ x rest fits. absurd fits;
  whole = λ bytes x rest are e. absurd cc;
  inside = λ bytes are e. absurd cc;
  cut = λ bytes part. absurd part;
}

-- one of two formats, by a test
pub choice_law : {A : Type 0} (b : Bool) (f g : Format A) → IsFormat f → IsFormat g → IsFormat (cond b f g)
choice_law true f g first second = first
choice_law false f g first second = second

-- what follows from a value that the one or the other holds
pub choice_holds : {A P : Type 0} (b : Bool) (f g : Format A) (x : A) → (b ≡ true → f.fits x → P) → (b ≡ false → g.fits x → P) → (cond b f g).fits x → P
choice_holds true f g x first second fits = first refl fits
choice_holds false f g x first second fits = second refl fits

-- ---- lists

items_again : {A : Type 0} (f : Format A) → IsFormat f → (n : ℕ) (xs : List A) (rest : List ℕ) → (repeated f n).fits xs → repeated_at f n (flat_map f.bytes xs ++ rest) ≡ Ok (xs, rest)
items_again f law zero [] rest fits = refl
items_again f law zero (x ∷ xs) rest fits = absurd (omega (arith, fits.0))
items_again f law (suc n) [] rest fits = absurd (omega (arith, fits.0))
items_again {A} f law (suc n) (x ∷ xs) rest fits =
    ap (λ (b : List ℕ). f.reads b >>= λ y. repeated_at f n y.1 >>= λ ys. Ok (y.0 ∷ ys.0, ys.1)) (ap (λ (t : List ℕ). t ++ rest) (flat_map-cons f.bytes x xs) ∙ append_assoc (f.bytes x) (flat_map f.bytes xs) rest)
    ∙ ap (λ (r : Reading A). r >>= λ y. repeated_at f n y.1 >>= λ ys. Ok (y.0 ∷ ys.0, ys.1)) (law.again x (flat_map f.bytes xs ++ rest) fits.1.0)
    ∙ ap (λ (r : Reading (List A)). r >>= λ ys. Ok (x ∷ ys.0, ys.1)) (items_again f law n xs rest (omega (arith, fits.0), fits.1.1))

items_whole : {A : Type 0} (f : Format A) → IsFormat f → (n : ℕ) (bytes : List ℕ) (xs : List A) (rest : List ℕ) → AreBytes bytes → repeated_at f n bytes ≡ Ok (xs, rest) → (bytes ≡ flat_map f.bytes xs ++ rest) × (repeated f n).fits xs
items_whole {A} f law zero bytes xs rest are e =
    let none : List A × List ℕ = ([], bytes) in
    subst (λ (z : List A × List ℕ). (bytes ≡ flat_map f.bytes z.0 ++ z.1) × ((length z.0 ≡ 0) × AllByRecursion f.fits z.0)) (ok_is {E = Fault} none (xs, rest) e) (refl, (refl, tt))
items_whole {A} f law (suc n) bytes xs rest are e =
    let b = bind_ok (f.reads bytes) (λ y. repeated_at f n y.1 >>= λ ys. Ok (y.0 ∷ ys.0, ys.1)) (xs, rest) e in
    let p = law.whole bytes b.0.0 b.0.1 are b.1 in
    let c = bind_ok (repeated_at f n b.0.1) (λ ys. Ok (b.0.0 ∷ ys.0, ys.1)) (xs, rest) b.2 in
    let q = items_whole f law n b.0.1 c.0.0 c.0.1 (after (f.bytes b.0.0) b.0.1 bytes p.0 are) c.1 in
    let made : List A × List ℕ = (b.0.0 ∷ c.0.0, c.0.1) in
    let all : bytes ≡ flat_map f.bytes (b.0.0 ∷ c.0.0) ++ c.0.1 =
    p.0 ∙ ap (λ (t : List ℕ). f.bytes b.0.0 ++ t) q.0 ∙ sym (append_assoc (f.bytes b.0.0) (flat_map f.bytes c.0.0) c.0.1) ∙ ap (λ (t : List ℕ). t ++ c.0.1) (sym (flat_map-cons f.bytes b.0.0 c.0.0)) in
    subst (λ (z : List A × List ℕ). (bytes ≡ flat_map f.bytes z.0 ++ z.1) × ((length z.0 ≡ suc n) × AllByRecursion f.fits z.0)) (ok_is {E = Fault} made (xs, rest) c.2)
    (all, (ap suc q.1.0, (p.1, q.1.1)))

items_inside : {A : Type 0} (f : Format A) → IsFormat f → (n : ℕ) (bytes : List ℕ) → AreBytes bytes → repeated_at f n bytes ≡ Err Cut → repeated_partial f n bytes
items_inside f law zero bytes are e = absurd cc
items_inside {A} f law (suc n) bytes are e =
    bind_err (λ d. d ≡ Cut → repeated_partial f (suc n) bytes) (f.reads bytes) (λ y. repeated_at f n y.1 >>= λ ys. Ok (y.0 ∷ ys.0, ys.1)) Cut
    (λ short is. inl (law.inside bytes are short))
    (λ y ok later is.
    let p = law.whole bytes y.0 y.1 are ok in
    bind_err (λ d. d ≡ Cut → repeated_partial f (suc n) bytes) (repeated_at f n y.1) (λ ys. Ok (y.0 ∷ ys.0, ys.1)) Cut
    (λ short is'. inr (y.0, y.1, p.0, p.1, items_inside f law n y.1 (after (f.bytes y.0) y.1 bytes p.0 are) short))
    (λ ys fine never is'. absurd cc)
    later refl)
    e refl

items_cut : {A : Type 0} (f : Format A) → IsFormat f → (n : ℕ) (bytes : List ℕ) → repeated_partial f n bytes → repeated_at f n bytes ≡ Err Cut
items_cut f law zero bytes part = absurd part
items_cut {A} f law (suc n) bytes (inl part) = ap (λ (r : Reading A). r >>= λ y. repeated_at f n y.1 >>= λ ys. Ok (y.0 ∷ ys.0, ys.1)) (law.cut bytes part)
items_cut {A} f law (suc n) bytes (inr h) =
    ap (λ (b : List ℕ). f.reads b >>= λ y. repeated_at f n y.1 >>= λ ys. Ok (y.0 ∷ ys.0, ys.1)) h.2
    ∙ ap (λ (r : Reading A). r >>= λ y. repeated_at f n y.1 >>= λ ys. Ok (y.0 ∷ ys.0, ys.1)) (law.again h.0 h.1 h.3)
    ∙ ap (λ (r : Reading (List A)). r >>= λ ys. Ok (h.0 ∷ ys.0, ys.1)) (items_cut f law n h.1 h.4)

-- so many values, one after another
pub repeated_law : {A : Type 0} (f : Format A) → IsFormat f → (n : ℕ) → IsFormat (repeated f n)
repeated_law f law n = record { again = items_again f law n; whole = items_whole f law n; inside = items_inside f law n; cut = items_cut f law n }

-- lists behind their number
pub list_law : {A : Type 0} (count : Format ℕ) (f : Format A) → IsFormat count → IsFormat f → IsFormat (list count f)
list_law count f counts law = behind_law count length (repeated f) counts (repeated_law f law) (λ n xs fits. fits.0)
