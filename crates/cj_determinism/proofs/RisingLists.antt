-- A rising list is fixed by what it has.
use Rattle.std.proofs.Common.{◌≡◌, ◌≢◌, ◌<◌, ◌≤◌, ◌==◌, ◌||◌, ℕ, zero, suc, true, false, Bool, List, [], ◌∷◌, length, All, get_or, refl, sym, ap, subst, ◌∙◌, arith, ⊎_elim}
use Rattle.std.specs.List.{AllPairs, list_any}
use Rattle.std.proofs.lemmas.List.Elements.{All-head, All-tail}
use Rattle.std.proofs.lemmas.Bool.{both_ways, cases_eq, cases_lt, eq-eqb, ne_eqb}

-- whether a list has a number
abbrev pub has : ℕ → List ℕ → Bool
has b xs = list_any (λ (c : ℕ). b == c) xs

abbrev Rises : List ℕ → Type 0
Rises xs = AllPairs (λ (a b : ℕ). a < b) xs

-- what holds of each of a list holds of what it has
pub all_has : (P : ℕ → Type 0) (b : ℕ) (xs : List ℕ) → All P xs → has b xs ≡ true → P b
all_has P b [] all there = absurd (cc there)
all_has P b (x ∷ xs) all there =
    ⊎_elim (λ (e : b ≡ x). subst P (sym e) (All-head P x xs all))
    (λ (ne : b ≢ x). all_has P b xs (All-tail P x xs all) (sym (ap (λ (t : Bool). t || has b xs) (ne_eqb b x ne)) ∙ there)) (cases_eq b x)

-- a number below each of a list is not in it
below_none : (b : ℕ) (xs : List ℕ) → ((j : ℕ) → j < length xs → b < get_or xs j 0) → has b xs ≡ false
below_none b [] below = refl
below_none b (x ∷ xs) below =
    let lt : b < x = below 0 (omega arith) in
    ap (λ (t : Bool). t || has b xs) (ne_eqb b x (λ (e : b ≡ x). absurd (omega (arith, lt, e)))) ∙ below_none b xs (λ j within. below (suc j) (omega (arith, within)))

tail_rises : (x : ℕ) (xs : List ℕ) → Rises (x ∷ xs) → Rises xs
tail_rises x xs rises = λ i j d less within. rises (suc i) (suc j) d (omega (arith, less)) (omega (arith, within))

above_head : (x : ℕ) (xs : List ℕ) → Rises (x ∷ xs) → (j : ℕ) → j < length xs → x < get_or xs j 0
above_head x xs rises j within = rises 0 (suc j) 0 (omega arith) (omega (arith, within))

above_all : (b x : ℕ) (xs : List ℕ) → Rises (x ∷ xs) → b < x → (j : ℕ) → j < length (x ∷ xs) → b < get_or (x ∷ xs) j 0
above_all b x xs rises less zero within = less
above_all b x xs rises less (suc j) within = let more : x < get_or xs j 0 = above_head x xs rises j (omega (arith, within)) in omega (arith, less, more)

has_head : (x : ℕ) (xs : List ℕ) → has x (x ∷ xs) ≡ true
has_head x xs = ap (λ (t : Bool). t || has x xs) (eq-eqb x x refl)

-- a list with a number is not one whose first is above it
not_below : (x y : ℕ) (ys : List ℕ) → Rises (y ∷ ys) → has x (y ∷ ys) ≡ true → y ≤ x
not_below x y ys rises there =
    ⊎_elim (λ (less : x < y). absurd (both_ways (has x (y ∷ ys)) (below_none x (y ∷ ys) (above_all x y ys rises less)) there)) (λ (le : y ≤ x). le) (cases_lt x y)

pub rising_one : (xs ys : List ℕ) → Rises xs → Rises ys → ((b : ℕ) → has b xs ≡ has b ys) → xs ≡ ys
rising_one [] [] up high same = refl
rising_one [] (y ∷ ys) up high same = absurd (both_ways (has y (y ∷ ys)) (sym (same y)) (has_head y ys))
rising_one (x ∷ xs) [] up high same = absurd (both_ways (has x (x ∷ xs)) (same x) (has_head x xs))
rising_one (x ∷ xs) (y ∷ ys) up high same =
    let low : y ≤ x = not_below x y ys high (sym (same x) ∙ has_head x xs) in
    let most : x ≤ y = not_below y x xs up (same y ∙ has_head y ys) in
    let first : x ≡ y = omega (arith, low, most) in
    let others : (b : ℕ) → has b xs ≡ has b ys = λ b.
    ⊎_elim
    (λ (e : b ≡ x).
    below_none b xs (λ j within. let more = above_head x xs up j within in omega (arith, more, e)) ∙ sym (below_none b ys (λ j within. let more = above_head y ys high j within in omega (arith, more, e, first))))
    (λ (ne : b ≢ x).
    sym (ap (λ (t : Bool). t || has b xs) (ne_eqb b x ne)) ∙ (same b ∙ ap (λ (t : Bool). t || has b ys) (ne_eqb b y (λ (e : b ≡ y). ne (e ∙ sym first)))))
    (cases_eq b x) in
    ap (λ (k : ℕ). k ∷ xs) first ∙ ap (λ (ks : List ℕ). y ∷ ks) (rising_one xs ys (tail_rises x xs up) (tail_rises y ys high) others)
