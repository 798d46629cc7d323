-- Lists in which each item stands above the one before it rise.
use Rattle.std.proofs.Common.{◌≡◌, ◌-◌, Bool, true, List, [], ◌∷◌, ◌++◌, length, refl, sym, ap, subst, ◌∙◌, arith, length-append, Ordering, Less, Equal, Greater}
use Rattle.std.specs.Option.{option_map_or}
use Rattle.std.proofs.lemmas.Option.{get_or_from_slice_get, slice_get_within}
use Rattle.cj_dump.proofs.Common.{All, All-cons, All-head, All-nil, All-tail, All-weaker, IsTotalOrder, Option, Rises, Some, is_lt, slice_get}
use Rattle.cj_dump.specs.DumpLayout.{last_of}
use Rattle.cj_dump.specs.Layouts.{FieldLayout, listed_fits}

-- x stands above the one before it
abbrev pub above : {A : Type 0} → (A → A → Ordering) → Option A → A → Bool
above order before x = option_map_or (λ last. is_lt (order last x)) before true

-- each stands above the one before it
abbrev pub rises_from : {A : Type 0} → (A → A → Ordering) → List A → List A → Type 0
rises_from order before [] = Unit {0}
rises_from order before (x ∷ xs) = (above order (last_of before) x ≡ true) × rises_from order (before ++ x ∷ []) xs

lt_less : (o : Ordering) → is_lt o ≡ true → o ≡ Less
lt_less Less e = refl
lt_less Equal e = absurd cc
lt_less Greater e = absurd cc

at_end : {A : Type 0} (before : List A) (x : A) → slice_get (before ++ x ∷ []) (length before) ≡ Some x
at_end [] x = refl
at_end (b ∷ before) x = at_end before x

pub last_added : {A : Type 0} (before : List A) (x : A) → last_of (before ++ x ∷ []) ≡ Some x
last_added {A} before x =
    let n : length (before ++ x ∷ []) - 1 ≡ length before = omega (arith, length-append before (x ∷ [])) in
    ap (slice_get (before ++ x ∷ [])) n ∙ at_end before x

-- ---- what stands behind rises

behind_last : {A : Type 0} (order : A → A → Ordering) → IsTotalOrder order → (y : A) (before xs : List A) → last_of before ≡ Some y → rises_from order before xs → All (λ x. order y x ≡ Less) xs × Rises order xs
behind_last order total y before [] last h = (All-nil (λ x. order y x ≡ Less), tt)
behind_last {A} order total y before (x ∷ xs) last h =
    let less : order y x ≡ Less = lt_less (order y x) (sym (ap (λ (o : Option A). above order o x) last) ∙ h.0) in
    let rest = behind_last order total x (before ++ x ∷ []) xs (last_added before x) h.1 in
    (All-cons (λ z. order y z ≡ Less) x xs less (All-weaker (λ z. order x z ≡ Less) (λ z. order y z ≡ Less) (λ z beyond. total.trans y x z less beyond) xs rest.0), rest)

pub all_rise : {A : Type 0} (order : A → A → Ordering) → IsTotalOrder order → (xs : List A) → rises_from order [] xs → Rises order xs
all_rise order total [] h = tt
all_rise order total (x ∷ xs) h = behind_last order total x (x ∷ []) xs refl h.1

rise_behind : {A : Type 0} (order : A → A → Ordering) (y : A) (before xs : List A) → last_of before ≡ Some y → All (λ x. order y x ≡ Less) xs → Rises order xs → rises_from order before xs
rise_behind order y before [] last beyond r = tt
rise_behind {A} order y before (x ∷ xs) last beyond r =
    (ap (λ (o : Option A). above order o x) last ∙ ap is_lt (All-head (λ z. order y z ≡ Less) x xs beyond), rise_behind order x (before ++ x ∷ []) xs (last_added before x) r.0 r.1)

pub each_rises : {A : Type 0} (order : A → A → Ordering) (xs : List A) → Rises order xs → rises_from order [] xs
each_rises order [] r = tt
each_rises order (x ∷ xs) r = (refl, rise_behind order x (x ∷ []) xs refl r.0 r.1)

-- ---- lists whose items hold something and rise

All-added : {A : Type 0} (P : A → Type 0) (before : List A) (x : A) → All P before → P x → All P (before ++ x ∷ [])
All-added P [] x all is = All-cons P x [] is all
All-added P (b ∷ before) x all is = All-cons P b (before ++ x ∷ []) (All-head P b before all) (All-added P before x (All-tail P b before all) is)

pub split : {A : Type 0} (item : List A → FieldLayout A) (P : A → Type 0) (order : A → A → Ordering) → ((before : List A) (x : A) → All P before → (item before).fits x → P x × (above order (last_of before) x ≡ true))
    → (before xs : List A) → All P before → listed_fits item before xs → All P xs × rises_from order before xs
split item P order step before [] seen fits = (All-nil P, tt)
split item P order step before (x ∷ xs) seen fits =
    let here = step before x seen fits.0 in
    let rest = split item P order step (before ++ x ∷ []) xs (All-added P before x seen here.0) fits.1 in
    (All-cons P x xs here.0 rest.0, (here.1, rest.1))

pub merge : {A : Type 0} (item : List A → FieldLayout A) (P : A → Type 0) (order : A → A → Ordering) → ((before : List A) (x : A) → All P before → P x → above order (last_of before) x ≡ true → (item before).fits x)
    → (before xs : List A) → All P before → All P xs → rises_from order before xs → listed_fits item before xs
merge item P order step before [] seen all r = tt
merge item P order step before (x ∷ xs) seen all r =
    let is = All-head P x xs all in
    (step before x seen is r.0, merge item P order step (before ++ x ∷ []) xs (All-added P before x seen is) (All-tail P x xs all) r.1)

-- what holds of all holds of the last
pub last_holds : {A : Type 0} (P : A → Type 0) (xs : List A) (x : A) → All P xs → last_of xs ≡ Some x → P x
last_holds P xs x all is =
    subst P (get_or_from_slice_get xs (length xs - 1) x x is) (all (length xs - 1) x (slice_get_within xs (length xs - 1) x is))
