-- Walks over a list that put together what each element gives.
use Rattle.std.proofs.Common.{◌≡◌, ℕ, zero, suc, ◌+◌, ◌<◌, ℤ, ◌+ℤ◌, Bool, true, false, ◌||◌, List, [], ◌∷◌, ◌++◌, map, fold, length, take, get_or, refl, ap, sym, ◌∙◌, arith}
use Rattle.std.proofs.lemmas.Bool.{or_left, or_right}
use Rattle.cj_query.proofs.Common.{cell, integer_of, list_any, list_any-append, map-append, take_more, Value}

-- one more element
pub map_next : {A Y : Type 0} (f : A → Y) (xs : List A) (i : ℕ) (x : A) → i < length xs → x ≡ get_or xs i x → map f (take i xs) ++ f x ∷ [] ≡ map f (take (i + 1) xs)
map_next f xs i x lt is =
    sym (map-append f (take i xs) (x ∷ []))
    ∙ ap (map f) (ap (λ y. take i xs ++ y ∷ []) is ∙ sym (take_more xs i x lt))

-- a sum over what is seen so
pub sum_seen : {A : Type 0} (h : A → List Value) (n : ℕ) (start : ℤ) (xs : List A) → fold (λ total x. total +ℤ integer_of (cell (h x) n)) start xs ≡ fold (λ total r. total +ℤ integer_of (cell r n)) start (map h xs)
sum_seen h n start [] = refl
sum_seen h n start (x ∷ xs) = sum_seen h n (start +ℤ integer_of (cell (h x) n)) xs

-- a test that one of them passes
pub any_at : {A X : Type 0} (h : A → X) (test : X → Bool) (xs : List A) (i : ℕ) (x : A) → i < length xs → x ≡ get_or xs i x → test (h x) ≡ true → list_any test (map h xs) ≡ true
any_at h test [] i x l is t = absurd (omega (arith, l))
any_at h test (y ∷ ys) zero x l is t = or_left _ _ (ap (λ z. test (h z)) (sym is) ∙ t)
any_at h test (y ∷ ys) (suc i) x l is t = or_right (test (h y)) _ (any_at h test ys i x (omega (arith, l)) is t)

-- a test that none has passed so far
pub none_next : {A X : Type 0} (h : A → X) (test : X → Bool) (xs : List A) (i : ℕ) (x : A) → i < length xs → x ≡ get_or xs i x → list_any test (map h (take i xs)) ≡ false → test (h x) ≡ false → list_any test (map h (take (i + 1) xs)) ≡ false
none_next h test xs i x lt is none f =
    ap (λ l. list_any test (map h l)) (take_more xs i x lt)
    ∙ ap (list_any test) (map-append h (take i xs) (get_or xs i x ∷ []))
    ∙ list_any-append test (map h (take i xs)) (h (get_or xs i x) ∷ [])
    ∙ ap (λ b. b || list_any test (h (get_or xs i x) ∷ [])) none
    ∙ ap (λ y. test (h y) || false) (sym is) ∙ ap (λ b. b || false) f
