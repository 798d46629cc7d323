-- Laws of layouts, each for every layout.
use Rattle.std.proofs.Common.{◌≡◌, ℕ, zero, suc, Bool, true, false, cond, List, [], ◌∷◌, ◌++◌, length, drop, Result, Ok, Err, refl, sym, ap, subst, ◌∙◌, append_assoc, append-nil, arith, inl, inr}
use Rattle.std.proofs.lemmas.List.{drop_at}
use Rattle.cj_dump.proofs.Common.{BadField, Cut, DumpError, NoMemory, Order, Place, offset, ◌>>=◌}
use Rattle.cj_model.proofs.Fields.{bind_ok, bind_err, guard_else, guard_else_err, ok_is, err_is, done, failed, IsBytes_drop}
use Rattle.cj_codec.specs.declared.error.Fault.{Fault}
use Rattle.cj_codec.specs.declared.error.Fault.TheVariants as faults
use Rattle.cj_codec.specs.Formats.{Format, AreBytes, IsFormat}
use Rattle.cj_dump.specs.Layouts.{FieldReading, Between, FieldLayout, field_stops, field_found, rising_field, field, known, behind, mapped, followed, pair, listed_bytes, listed_fits, listed_stops, listed_reads, listed, list}

-- What is written reads back, whatever follows it; what is read was written; and reading fails exactly where the bytes stop, for the same reason.
pub record IsLayout {A : Type 0} (l : FieldLayout A) : Type 0 where
  pub again : (x : A) (place next : Place) → Between (l.bytes x) place next → l.fits x → l.reads place ≡ Ok (x, next)
  pub whole : (place : Place) (x : A) (next : Place) → AreBytes place.rest → l.reads place ≡ Ok (x, next) → Between (l.bytes x) place next × l.fits x
  pub inside : (place : Place) (e : DumpError) → AreBytes place.rest → l.reads place ≡ Err e → l.stops place e
  pub stopped : (place : Place) (e : DumpError) → l.stops place e → l.reads place ≡ Err e

-- ---- places

-- the place behind the first of two parts
pub middle : (a b : List ℕ) (place next : Place) → Between (a ++ b) place next → Between a place (record { rest = b ++ next.rest; size = place.size }) × Between b (record { rest = b ++ next.rest; size = place.size }) next
middle a b place next w = (record { front = w.front ∙ append_assoc a b next.rest; size = refl }, record { front = refl; size = w.size })

pub joined : (a b : List ℕ) (place mid next : Place) → Between a place mid → Between b mid next → Between (a ++ b) place next
joined a b place mid next p q = record {
  front = p.front ∙ ap (λ (t : List ℕ). a ++ t) q.front ∙ sym (append_assoc a b next.rest);
  size = q.size ∙ p.size;
}

-- what follows a place is bytes
pub bytes_after : (a : List ℕ) (place next : Place) → Between a place next → AreBytes place.rest → AreBytes next.rest
bytes_after a place next w are = subst AreBytes (ap (drop (length a)) w.front ∙ drop_at a next.rest (length a) refl) (IsBytes_drop (length a) place.rest are)

-- with nothing between them two places are one
pub nothing_between : (place next : Place) → Between [] place next → place ≡ next
nothing_between place next w =
    ap (λ (rest : List ℕ). record { rest = rest; size = place.size }) w.front ∙ ap (λ (size : ℕ). record { rest = next.rest; size = size }) (sym w.size)

-- ---- one field

pub found_ok : {A : Type 0} (rises : A → Bool) (place : Place) (r : Result (A × List ℕ) Fault) (x : A) (next : Place) → field_found rises place r ≡ Ok (x, next) → (r ≡ Ok (x, next.rest)) × (rises x ≡ true) × (next.size ≡ place.size)
found_ok {A} rises place (Ok y) x next e =
    let made : A × Place = (y.0, record { rest = y.1; size = place.size }) in
    let g = guard_else (rises y.0) (Order (offset place)) (Ok made) (x, next) e in
    let is : made ≡ (x, next) = ok_is {E = DumpError} made (x, next) g.1 in
    subst (λ (z : A × Place). (Ok y ≡ done Fault (z.0, z.1.rest)) × (rises z.0 ≡ true) × (z.1.size ≡ place.size)) is (refl, g.0, refl)
found_ok rises place (Err faults.Cut) x next e = absurd cc
found_ok rises place (Err faults.BadField) x next e = absurd cc

found_err : {A : Type 0} (f : Format A) (law : IsFormat f) (rises : A → Bool) (place : Place) (are : AreBytes place.rest) (r : Result (A × List ℕ) Fault) → f.reads place.rest ≡ r → (e : DumpError) → field_found rises place r ≡ Err e → field_stops f rises place e
found_err {A} f law rises place are (Ok y) is e err =
    let p = law.whole place.rest y.0 y.1 are is in
    guard_else_err (λ d. field_stops f rises place d) (rises y.0) (Order (offset place)) e (Ok (y.0, record { rest = y.1; size = place.size }))
    (λ no. ((y.0, record { rest = y.1; size = place.size }, record { front = p.0; size = refl }, p.1, no), refl))
    (λ yes never. absurd cc) err
found_err {A} f law rises place are (Err faults.Cut) is e err = subst (field_stops f rises place) (err_is {A = A × Place} (Cut (offset place)) e err) (law.inside place.rest are is, refl)
found_err {A} f law rises place are (Err faults.BadField) is e err = subst (field_stops f rises place) (err_is {A = A × Place} (BadField (offset place)) e err) (is, refl)

-- a field whose reading has a value
found_again : {A : Type 0} (f : Format A) (law : IsFormat f) (rises : A → Bool) (x : A) (place next : Place) (b : Bool) → Between (f.bytes x) place next → f.fits x → rises x ≡ b
    → field_found rises place (f.reads place.rest) ≡ cond b (Ok (x, record { rest = next.rest; size = place.size })) (Err (Order (offset place)))
found_again f law rises x place next b w fits is =
    ap (λ (t : List ℕ). field_found rises place (f.reads t)) w.front
    ∙ ap (field_found rises place) (law.again x next.rest fits)
    ∙ ap (λ (t : Bool). cond t (Ok (x, record { rest = next.rest; size = place.size })) (Err (Order (offset place)))) is

field_stopped : {A : Type 0} (f : Format A) (law : IsFormat f) (rises : A → Bool) (place : Place) (e : DumpError) → field_stops f rises place e → field_found rises place (f.reads place.rest) ≡ Err e
field_stopped {A} f law rises place (Cut n) h = ap (field_found rises place) (law.cut place.rest h.0) ∙ ap (λ (k : ℕ). failed (A × Place) (Cut k)) (sym h.1)
field_stopped {A} f law rises place (BadField n) h = ap (field_found rises place) h.0 ∙ ap (λ (k : ℕ). failed (A × Place) (BadField k)) (sym h.1)
field_stopped {A} f law rises place (Order n) h = found_again f law rises h.0.0 place h.0.1 false h.0.2 h.0.3 h.0.4 ∙ ap (λ (k : ℕ). failed (A × Place) (Order k)) (sym h.1)
field_stopped f law rises place NoMemory h = absurd h

pub rising_law : {A : Type 0} (f : Format A) (rises : A → Bool) → IsFormat f → IsLayout (rising_field f rises)
rising_law {A} f rises law = record {
  again = λ x place next w fits.
      found_again f law rises x place next true w fits.0 fits.1 ∙ ap (λ (size : ℕ). done DumpError (x, record { rest = next.rest; size = size })) (sym w.size);
  whole = λ place x next are e.
      let t = found_ok rises place (f.reads place.rest) x next e in
      let p = law.whole place.rest x next.rest are t.0 in
      (record { front = p.0; size = t.2 }, (p.1, t.1));
  inside = λ place e are err. found_err f law rises place are (f.reads place.rest) refl e err;
  stopped = λ place e h. field_stopped f law rises place e h;
}

pub field_law : {A : Type 0} (f : Format A) → IsFormat f → IsLayout (field f)
field_law f law = rising_law f (λ x. true) law

pub known_law : {A : Type 0} (x : A) → IsLayout (known x)
known_law {A} x = record {
  again = λ y place next w fits. ap (λ (p : Place). done DumpError (x, p)) (nothing_between place next w) ∙ ap (λ (z : A). done DumpError (z, next)) (sym fits);
  whole = λ place y next are e.
      let made : A × Place = (x, place) in
      subst (λ (z : A × Place). Between [] place z.1 × (z.0 ≡ x)) (ok_is {E = DumpError} made (y, next) e) (record { front = refl; size = refl }, refl);
  inside = λ place e are err. absurd cc;
  stopped = λ place e h. absurd h;
}

-- ---- one behind another

behind_stopped : {K A : Type 0} (f : FieldLayout K) (key : A → K) (g : K → FieldLayout A) → IsLayout f → ((k : K) → IsLayout (g k)) → (place : Place) (e : DumpError) → (behind f key g).stops place e → (behind f key g).reads place ≡ Err e
behind_stopped {K} f key g first second place e (inl h) = ap (λ (r : FieldReading K). r >>= λ k. (g k.0).reads k.1) (first.stopped place e h)
behind_stopped {K} f key g first second place e (inr h) = ap (λ (r : FieldReading K). r >>= λ k. (g k.0).reads k.1) (first.again h.0 place h.1 h.2 h.3) ∙ (second h.0).stopped h.1 e h.4

pub behind_law : {K A : Type 0} (f : FieldLayout K) (key : A → K) (g : K → FieldLayout A) → IsLayout f → ((k : K) → IsLayout (g k)) → ((k : K) (x : A) → (g k).fits x → key x ≡ k) → IsLayout (behind f key g)
behind_law {K} {A} f key g first second keyed = record {
  again = λ x place next w fits.
      let m = middle (f.bytes (key x)) ((g (key x)).bytes x) place next w in
      ap (λ (r : FieldReading K). r >>= λ k. (g k.0).reads k.1) (first.again (key x) place (record { rest = (g (key x)).bytes x ++ next.rest; size = place.size }) m.0 fits.0)
      ∙ (second (key x)).again x (record { rest = (g (key x)).bytes x ++ next.rest; size = place.size }) next m.1 fits.1;
  whole = λ place x next are e.
      let b = bind_ok (f.reads place) (λ k. (g k.0).reads k.1) (x, next) e in
      let p = first.whole place b.0.0 b.0.1 are b.1 in
      let q = (second b.0.0).whole b.0.1 x next (bytes_after (f.bytes b.0.0) place b.0.1 p.0 are) b.2 in
      let is : b.0.0 ≡ key x = sym (keyed b.0.0 x q.1) in
      subst (λ (k : K). Between (f.bytes k ++ (g k).bytes x) place next × (f.fits k × (g k).fits x)) is
      (joined (f.bytes b.0.0) ((g b.0.0).bytes x) place b.0.1 next p.0 q.0, (p.1, q.1));
  inside = λ place e are err.
      bind_err (λ d. (behind f key g).stops place d) (f.reads place) (λ k. (g k.0).reads k.1) e
      (λ here. inl (first.inside place e are here))
      (λ k ok later.
      let p = first.whole place k.0 k.1 are ok in
      inr (k.0, k.1, p.0, p.1, (second k.0).inside k.1 e (bytes_after (f.bytes k.0) place k.1 p.0 are) later))
      err;
  stopped = λ place e h. behind_stopped f key g first second place e h;
}

-- values of another type
pub mapped_law : {A B : Type 0} (make : A → B) (parts : B → A) (f : FieldLayout A) → IsLayout f → ((x : A) → f.fits x → parts (make x) ≡ x) → IsLayout (mapped make parts f)
mapped_law {A} {B} make parts f law back = record {
  again = λ y place next w fits.
      ap (λ (r : FieldReading A). r >>= λ x. Ok (make x.0, x.1)) (law.again (parts y) place next w fits.0)
      ∙ ap (λ (z : B). done DumpError (z, next)) fits.1;
  whole = λ place y next are e.
      let b = bind_ok (f.reads place) (λ x. Ok (make x.0, x.1)) (y, next) e in
      let p = law.whole place b.0.0 b.0.1 are b.1 in
      let same : parts (make b.0.0) ≡ b.0.0 = back b.0.0 p.1 in
      let made : B × Place = (make b.0.0, b.0.1) in
      let is : made ≡ (y, next) = ok_is {E = DumpError} made (y, next) b.2 in
      subst (λ (z : B × Place). Between (f.bytes (parts z.0)) place z.1 × (f.fits (parts z.0) × (make (parts z.0) ≡ z.0))) is
      (subst (λ (x : A). Between (f.bytes x) place b.0.1) (sym same) p.0, (subst f.fits (sym same) p.1, ap make same));
  inside = λ place e are err.
      bind_err (λ d. f.stops place d) (f.reads place) (λ x. Ok (make x.0, x.1)) e
      (λ here. law.inside place e are here) (λ x ok never. absurd cc) err;
  stopped = λ place e h. ap (λ (r : FieldReading A). r >>= λ x. Ok (make x.0, x.1)) (law.stopped place e h);
}

-- a value and then another one
pub followed_law : {A B : Type 0} (f : FieldLayout A) (g : A → FieldLayout B) → IsLayout f → ((x : A) → IsLayout (g x)) → IsLayout (followed f g)
followed_law {A} {B} f g first second =
    behind_law f (λ (p : A × B). p.0) (λ x. mapped (λ y. (x, y)) (λ p. p.1) (g x)) first (λ x. mapped_law (λ y. (x, y)) (λ p. p.1) (g x) (second x) (λ y fits. refl))
    (λ x p fits. ap (λ (q : A × B). q.0) (sym fits.1))

pub pair_law : {A B : Type 0} (f : FieldLayout A) (g : FieldLayout B) → IsLayout f → IsLayout g → IsLayout (pair f g)
pair_law f g first second = followed_law f (λ x. g) first (λ x. second)

-- ---- lists

listed_again : {A : Type 0} (item : List A → FieldLayout A) → ((before : List A) → IsLayout (item before)) → (n : ℕ) (before xs : List A) (place next : Place) → Between (listed_bytes item before xs) place next → length xs ≡ n → listed_fits item before xs → listed_reads item before n place ≡ Ok (before ++ xs, next)
listed_again {A} item law zero before [] place next w len fits =
    ap (λ (p : Place). done DumpError (before, p)) (nothing_between place next w) ∙ ap (λ (all : List A). done DumpError (all, next)) (sym (append-nil before))
listed_again item law zero before (x ∷ xs) place next w len fits = absurd (omega (arith, len))
listed_again item law (suc n) before [] place next w len fits = absurd (omega (arith, len))
listed_again {A} item law (suc n) before (x ∷ xs) place next w len fits =
    let rest : List ℕ = listed_bytes item (before ++ x ∷ []) xs in
    let m = middle ((item before).bytes x) rest place next w in
    ap (λ (r : FieldReading A). r >>= λ y. listed_reads item (before ++ y.0 ∷ []) n y.1) ((law before).again x place (record { rest = rest ++ next.rest; size = place.size }) m.0 fits.0)
    ∙ listed_again item law n (before ++ x ∷ []) xs (record { rest = rest ++ next.rest; size = place.size }) next m.1 (omega (arith, len)) fits.1
    ∙ ap (λ (all : List A). done DumpError (all, next)) (append_assoc before (x ∷ []) xs)

-- what was read behind those before
record Read {A : Type 0} (item : List A → FieldLayout A) (n : ℕ) (before : List A) (place : Place) (all : List A) (next : Place) : Type 0 where
  pub items : List A
  pub parts : all ≡ before ++ items
  pub between : Between (listed_bytes item before items) place next
  pub count : length items ≡ n
  pub each : listed_fits item before items

listed_whole : {A : Type 0} (item : List A → FieldLayout A) → ((before : List A) → IsLayout (item before)) → (n : ℕ) (before : List A) (place : Place) (all : List A) (next : Place) → AreBytes place.rest → listed_reads item before n place ≡ Ok (all, next) → Read item n before place all next
listed_whole {A} item law zero before place all next are e =
    let made : List A × Place = (before, place) in
    subst (λ (z : List A × Place). Read item 0 before place z.0 z.1) (ok_is {E = DumpError} made (all, next) e)
    (record { items = []; parts = sym (append-nil before); between = record { front = refl; size = refl }; count = refl; each = tt })
listed_whole {A} item law (suc n) before place all next are e =
    let b = bind_ok ((item before).reads place) (λ x. listed_reads item (before ++ x.0 ∷ []) n x.1) (all, next) e in
    let p = (law before).whole place b.0.0 b.0.1 are b.1 in
    let q : Read item n (before ++ b.0.0 ∷ []) b.0.1 all next = listed_whole item law n (before ++ b.0.0 ∷ []) b.0.1 all next (bytes_after ((item before).bytes b.0.0) place b.0.1 p.0 are) b.2 in
    record {
      items = b.0.0 ∷ q.items;
      parts = q.parts ∙ append_assoc before (b.0.0 ∷ []) q.items;
      between = joined ((item before).bytes b.0.0) (listed_bytes item (before ++ b.0.0 ∷ []) q.items) place b.0.1 next p.0 q.between;
      count = ap suc q.count;
      each = (p.1, q.each);
    }

listed_inside : {A : Type 0} (item : List A → FieldLayout A) → ((before : List A) → IsLayout (item before)) → (n : ℕ) (before : List A) (place : Place) (e : DumpError) → AreBytes place.rest → listed_reads item before n place ≡ Err e → listed_stops item before n place e
listed_inside item law zero before place e are err = absurd cc
listed_inside {A} item law (suc n) before place e are err =
    bind_err (λ d. listed_stops item before (suc n) place d) ((item before).reads place) (λ x. listed_reads item (before ++ x.0 ∷ []) n x.1) e
    (λ here. inl ((law before).inside place e are here))
    (λ x ok later.
    let p = (law before).whole place x.0 x.1 are ok in
    inr (x.0, x.1, p.0, p.1, listed_inside item law n (before ++ x.0 ∷ []) x.1 e (bytes_after ((item before).bytes x.0) place x.1 p.0 are) later))
    err

listed_stopped : {A : Type 0} (item : List A → FieldLayout A) → ((before : List A) → IsLayout (item before)) → (n : ℕ) (before : List A) (place : Place) (e : DumpError) → listed_stops item before n place e → listed_reads item before n place ≡ Err e
listed_stopped item law zero before place e h = absurd h
listed_stopped {A} item law (suc n) before place e (inl h) = ap (λ (r : FieldReading A). r >>= λ x. listed_reads item (before ++ x.0 ∷ []) n x.1) ((law before).stopped place e h)
listed_stopped {A} item law (suc n) before place e (inr h) =
    ap (λ (r : FieldReading A). r >>= λ x. listed_reads item (before ++ x.0 ∷ []) n x.1) ((law before).again h.0 place h.1 h.2 h.3)
    ∙ listed_stopped item law n (before ++ h.0 ∷ []) h.1 e h.4

pub listed_law : {A : Type 0} (item : List A → FieldLayout A) (n : ℕ) → ((before : List A) → IsLayout (item before)) → IsLayout (listed item n)
listed_law {A} item n law = record {
  again = λ xs place next w fits. listed_again item law n [] xs place next w fits.0 fits.1;
  whole = λ place all next are e.
      let q : Read item n [] place all next = listed_whole item law n [] place all next are e in
      subst (λ (xs : List A). Between (listed_bytes item [] xs) place next × ((length xs ≡ n) × listed_fits item [] xs)) (sym q.parts) (q.between, (q.count, q.each));
  inside = λ place e are err. listed_inside item law n [] place e are err;
  stopped = λ place e h. listed_stopped item law n [] place e h;
}

pub list_law : {A : Type 0} (count : Format ℕ) (item : List A → FieldLayout A) → IsFormat count → ((before : List A) → IsLayout (item before)) → IsLayout (list count item)
list_law count item counts law = behind_law (field count) length (listed item) (field_law count counts) (λ n. listed_law item n law) (λ n xs fits. fits.0)
