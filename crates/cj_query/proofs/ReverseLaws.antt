-- A list whose elements stand each behind those after it is ordered by being reversed.
use Rattle.std.proofs.Common.{◌≡◌, Bool, true, false, cond, List, [], ◌∷◌, ◌++◌, map, refl, ap, sym, ◌∙◌, subst}
use Rattle.std.specs.Prelude.{All, filter, reverse}
use Rattle.std.proofs.lemmas.List.{append-nil, map-append, reverse-append}
use Rattle.cj_query.proofs.Common.{All-append, All-cons, All-head, All-nil, All-tail, cond-true, filter-append, insert_before, sorted_by}

pub map-reverse : {X Y : Type 0} (f : X → Y) (xs : List X) → map f (reverse xs) ≡ reverse (map f xs)
map-reverse f [] = refl
map-reverse f (x ∷ xs) =
    ap (map f) (reverse-append (x ∷ []) xs)
    ∙ map-append f (reverse xs) (x ∷ [])
    ∙ ap (λ l. l ++ f x ∷ []) (map-reverse f xs)
    ∙ sym (reverse-append (f x ∷ []) (map f xs))

pub filter-reverse : {X : Type 0} (p : X → Bool) (xs : List X) → filter p (reverse xs) ≡ reverse (filter p xs)
filter-reverse p [] = refl
filter-reverse p (x ∷ xs) =
    ap (filter p) (reverse-append (x ∷ []) xs)
    ∙ filter-append p (reverse xs) (x ∷ [])
    ∙ ap (λ l. l ++ filter p (x ∷ [])) (filter-reverse p xs)
    ∙ elim (p x) as (λ b. reverse (filter p xs) ++ cond b (x ∷ []) [] ≡ reverse (cond b (x ∷ filter p xs) (filter p xs))) [
      | true ↦ sym (reverse-append (x ∷ []) (filter p xs))
      | false ↦ append-nil (reverse (filter p xs))
    ]

All-reverse : {X : Type 0} (P : X → Type 0) (xs : List X) → All P xs → All P (reverse xs)
All-reverse P [] a = a
All-reverse P (x ∷ xs) a =
    subst (All P) (sym (reverse-append (x ∷ []) xs))
    (All-append P (reverse xs) (x ∷ []) (All-reverse P xs (All-tail P x xs a)) (All-cons P x [] (All-head P x xs a) (All-nil P)))

-- each stands behind those after it
abbrev pub IsFalling : {X : Type 0} → (X → X → Bool) → List X → Type 0
IsFalling before [] = Unit {0}
IsFalling before (x ∷ xs) = All (λ y. before y x ≡ true) xs × IsFalling before xs

-- what all stand before comes last
put_last : {X : Type 0} (before : X → X → Bool) (x : X) (ys : List X) → All (λ y. before y x ≡ true) ys → insert_before before x ys ≡ ys ++ x ∷ []
put_last before x [] a = refl
put_last before x (y ∷ ys) a =
    cond-true _ _ _ (All-head (λ y. before y x ≡ true) y ys a)
    ∙ ap (λ l. y ∷ l) (put_last before x ys (All-tail (λ y. before y x ≡ true) y ys a))

pub ordered_falling : {X : Type 0} (before : X → X → Bool) (xs : List X) → IsFalling before xs → sorted_by before xs ≡ reverse xs
ordered_falling before [] h = refl
ordered_falling before (x ∷ xs) h =
    ap (insert_before before x) (ordered_falling before xs h.1)
    ∙ put_last before x (reverse xs) (All-reverse (λ y. before y x ≡ true) xs h.0)
    ∙ sym (reverse-append (x ∷ []) xs)
