-- A stable sort gives `sorted_by`, and a list in order is `sorted_by` already.
use Rattle.std.proofs.Common.{◌≡◌, ℕ, suc, ◌+◌, ◌<◌, Bool, true, false, cond, ◌||◌, List, [], ◌∷◌, length, map, get_or, refl, ap, sym, ◌∙◌, subst, arith, ⊎_elim}
use Rattle.std.specs.Prelude.{⊤}
use Rattle.std.specs.List.{filter, list_any}
use Rattle.std.specs.List.Sorted.{IsSortedBy, IsStableBy, ties}
use Rattle.std.proofs.lemmas.Bool.{and_parts, not-true, not_from_false, and_from, cases_Bool, cond-true, cond-false, both_ways}
use Rattle.std.proofs.lemmas.List.Sorted.{sorted_far}
use Rattle.cj_query.proofs.Common.{insert_before, IsStrictWeakOrder, sorted_by}

-- none of the list stands before x
abbrev pub NoneBefore : {X : Type 0} → (X → X → Bool) → X → List X → Type 0
NoneBefore before x [] = ⊤
NoneBefore before x (y ∷ ys) = (before y x ≡ false) × NoneBefore before x ys

-- none stands before an earlier one
abbrev pub IsInOrder : {X : Type 0} → (X → X → Bool) → List X → Type 0
IsInOrder before [] = ⊤
IsInOrder before (x ∷ xs) = NoneBefore before x xs × IsInOrder before xs

abbrev rest_of : {X : Type 0} → List X → List X
rest_of [] = []
rest_of (x ∷ xs) = xs

abbrev head_of : {X : Type 0} → X → List X → X
head_of d [] = d
head_of d (x ∷ xs) = x

swap_conds : {X : Type 0} (p q : Bool) (x y : X) (l : List X) → (p ≡ true → q ≡ true → ⊥) → cond p (x ∷ cond q (y ∷ l) l) (cond q (y ∷ l) l) ≡ cond q (y ∷ cond p (x ∷ l) l) (cond p (x ∷ l) l)
swap_conds true true x y l h = absurd (h refl refl)
swap_conds true false x y l h = refl
swap_conds false true x y l h = refl
swap_conds false false x y l h = refl

same_tails : {X : Type 0} (b : Bool) (y : X) (l m : List X) → cond b (y ∷ l) l ≡ cond b (y ∷ m) m → l ≡ m
same_tails true y l m e = ap rest_of e
same_tails false y l m e = e

module _ {X : Type 0} (lt : X → X → Bool) (o : IsStrictWeakOrder lt) where
  tie_parts : (x y : X) → ties lt x y ≡ true → (lt x y ≡ false) × (lt y x ≡ false)
  tie_parts x y h = let p = and_parts _ _ h in (not-true _ p.0, not-true _ p.1)

  tie_from : (x y : X) → lt x y ≡ false → lt y x ≡ false → ties lt x y ≡ true
  tie_from x y p q = and_from _ _ (not_from_false _ p) (not_from_false _ q)

  pub not_before_itself : (x : X) → lt x x ≡ false
  not_before_itself x = ⊎_elim (λ (t : lt x x ≡ true). o.one_way x x t) (λ (f : lt x x ≡ false). f) (cases_Bool (lt x x))

  -- where something in zs ties with y, and nothing in it is before z, y is not before z
  not_before : (y z : X) (zs rest : List X) → y ∷ rest ≡ filter (ties lt y) zs → NoneBefore lt z zs → lt y z ≡ false
  not_before y z [] rest e h = cc e
  not_before y z (w ∷ ws) rest e h =
      ⊎_elim (λ (t : ties lt y w ≡ true). o.chain y w z (tie_parts y w t).0 h.0)
      (λ (f : ties lt y w ≡ false). not_before y z ws rest (e ∙ cond-false _ _ _ f) h.1)
      (cases_Bool (ties lt y w))

  at_head : (x : X) (xs : List X) → filter (ties lt x) (x ∷ xs) ≡ x ∷ filter (ties lt x) xs
  at_head x xs = cond-true _ _ _ (tie_from x x (not_before_itself x) (not_before_itself x))

  -- two lists in order, in which what ties stands alike, are one list
  pub unique : (ys zs : List X) → IsInOrder lt ys → IsInOrder lt zs → ((x : X) → filter (ties lt x) ys ≡ filter (ties lt x) zs) → ys ≡ zs
  unique [] [] p q h = refl
  unique [] (z ∷ zs) p q h = cc (h z ∙ at_head z zs)
  unique (y ∷ ys) [] p q h = cc (sym (h y) ∙ at_head y ys)
  unique (y ∷ ys) (z ∷ zs) p q h =
      let a : y ∷ filter (ties lt y) ys ≡ filter (ties lt y) (z ∷ zs) = sym (at_head y ys) ∙ h y in
      let b : z ∷ filter (ties lt z) zs ≡ filter (ties lt z) (y ∷ ys) = sym (at_head z zs) ∙ sym (h z) in
      let t : ties lt y z ≡ true = tie_from y z (not_before y z (z ∷ zs) _ a (not_before_itself z, q.0)) (not_before z y (y ∷ ys) _ b (not_before_itself y, p.0)) in
      let e : y ≡ z = ap (head_of y) (a ∙ cond-true _ _ _ t) in
      let rest : (x : X) → filter (ties lt x) ys ≡ filter (ties lt x) zs = λ x. same_tails (ties lt x y) y _ _ (h x ∙ ap (λ (w : X). cond (ties lt x w) (w ∷ filter (ties lt x) zs) (filter (ties lt x) zs)) (sym e)) in
      ap (λ (w : X). w ∷ ys) e ∙ ap (λ (l : List X). z ∷ l) (unique ys zs p.1 q.1 rest)

  -- `insert_before` and `sorted_by`
  put_before_stable : (x a : X) (ys : List X) → filter (ties lt x) (insert_before lt a ys) ≡ filter (ties lt x) (a ∷ ys)
  put_before_stable x a [] = refl
  put_before_stable x a (y ∷ ys) =
      ⊎_elim (λ (t : lt y a ≡ true).
      ap (filter (ties lt x)) (cond-true _ _ _ t) ∙ ap (λ (l : List X). cond (ties lt x y) (y ∷ l) l) (put_before_stable x a ys)
      ∙ swap_conds (ties lt x y) (ties lt x a) y a (filter (ties lt x) ys) (λ p q. both_ways _ (o.chain y x a (tie_parts x y p).1 (tie_parts x a q).0) t))
      (λ (f : lt y a ≡ false). ap (filter (ties lt x)) (cond-false _ _ _ f))
      (cases_Bool (lt y a))

  pub none_before_put : (b a : X) (ys : List X) → lt a b ≡ false → NoneBefore lt b ys → NoneBefore lt b (insert_before lt a ys)
  none_before_put b a [] h n = (h, n)
  none_before_put b a (y ∷ ys) h n =
      ⊎_elim (λ (t : lt y a ≡ true). subst (NoneBefore lt b) (sym (cond-true _ _ _ t)) (n.0, none_before_put b a ys h n.1))
      (λ (f : lt y a ≡ false). subst (NoneBefore lt b) (sym (cond-false _ _ _ f)) (h, n))
      (cases_Bool (lt y a))

  pub none_chain : (a y : X) (ys : List X) → lt y a ≡ false → NoneBefore lt y ys → NoneBefore lt a ys
  none_chain a y [] h n = n
  none_chain a y (w ∷ ws) h n = (o.chain w y a n.0 h, none_chain a y ws h n.1)

  put_before_rises : (a : X) (ys : List X) → IsInOrder lt ys → IsInOrder lt (insert_before lt a ys)
  put_before_rises a [] h = (tt, tt)
  put_before_rises a (y ∷ ys) h =
      ⊎_elim (λ (t : lt y a ≡ true). subst (IsInOrder lt) (sym (cond-true _ _ _ t)) (none_before_put y a ys (o.one_way y a t) h.0, put_before_rises a ys h.1))
      (λ (f : lt y a ≡ false). subst (IsInOrder lt) (sym (cond-false _ _ _ f)) ((f, none_chain a y ys f h.0), h))
      (cases_Bool (lt y a))

  pub ordered_stable : (x : X) (xs : List X) → filter (ties lt x) (sorted_by lt xs) ≡ filter (ties lt x) xs
  ordered_stable x [] = refl
  ordered_stable x (y ∷ ys) = put_before_stable x y (sorted_by lt ys) ∙ ap (λ (l : List X). cond (ties lt x y) (y ∷ l) l) (ordered_stable x ys)

  pub ordered_rises : (xs : List X) → IsInOrder lt (sorted_by lt xs)
  ordered_rises [] = tt
  ordered_rises (x ∷ xs) = put_before_rises x (sorted_by lt xs) (ordered_rises xs)

  none_from : (x : X) (xs : List X) → ((i : ℕ) → i < length xs → lt (get_or xs i x) x ≡ false) → NoneBefore lt x xs
  none_from x [] h = tt
  none_from x (y ∷ ys) h = (h 0 (omega arith), none_from x ys (λ i l. h (suc i) (omega arith)))

  pub rises_from_sorted : (xs : List X) → IsSortedBy lt xs → IsInOrder lt xs
  rises_from_sorted [] h = tt
  rises_from_sorted (x ∷ xs) h =
      let tail : IsSortedBy lt xs = λ k d z p. let e : suc k + 1 ≡ suc (k + 1) = omega arith in subst (λ (n : ℕ). lt (get_or (x ∷ xs) n d) (get_or xs k d) ≡ false) e (h (suc k) d (omega arith) (omega arith)) in
      (none_from x xs (λ i l. sorted_far lt o (x ∷ xs) h 0 (suc i) x (omega arith) (omega arith)), rises_from_sorted xs tail)

  -- what a stable sort leaves
  pub ordered_is : (xs ys : List X) → IsSortedBy lt ys → IsStableBy lt xs ys → ys ≡ sorted_by lt xs
  ordered_is xs ys up s = unique ys (sorted_by lt xs) (rises_from_sorted ys up) (ordered_rises xs) (λ x. s x ∙ sym (ordered_stable x xs))

  -- a list that is in order already
  pub ordered_same : (xs : List X) → IsInOrder lt xs → sorted_by lt xs ≡ xs
  ordered_same xs h = unique (sorted_by lt xs) xs (ordered_rises xs) h (λ x. ordered_stable x xs)

-- ---- a map, and a part

put_before-map : {X Y : Type 0} (f : X → Y) (lt : Y → Y → Bool) (x : X) (xs : List X) → map f (insert_before (λ a b. lt (f a) (f b)) x xs) ≡ insert_before lt (f x) (map f xs)
put_before-map f lt x [] = refl
put_before-map f lt x (y ∷ ys) = elim (lt (f y) (f x)) as (λ b. map f (cond b (y ∷ insert_before (λ a b. lt (f a) (f b)) x ys) (x ∷ y ∷ ys)) ≡ cond b (f y ∷ insert_before lt (f x) (map f ys)) (f x ∷ f y ∷ map f ys)) [
  | true ↦ ap (λ l. f y ∷ l) (put_before-map f lt x ys)
  | false ↦ refl
]

-- a list in the order of what a map gives
pub ordered-map : {X Y : Type 0} (f : X → Y) (lt : Y → Y → Bool) (xs : List X) → map f (sorted_by (λ a b. lt (f a) (f b)) xs) ≡ sorted_by lt (map f xs)
ordered-map f lt [] = refl
ordered-map f lt (x ∷ xs) = put_before-map f lt x (sorted_by (λ a b. lt (f a) (f b)) xs) ∙ ap (insert_before lt (f x)) (ordered-map f lt xs)

-- where none stands before another, each list is in order
none_before_all : {X : Type 0} (x : X) (xs : List X) → NoneBefore (λ a b. false) x xs
none_before_all x [] = tt
none_before_all x (y ∷ ys) = (refl, none_before_all x ys)

pub in_order_all : {X : Type 0} (xs : List X) → IsInOrder (λ a b. false) xs
in_order_all [] = tt
in_order_all (x ∷ xs) = (none_before_all x xs, in_order_all xs)

-- ---- what order keeps

swap_or : (b c d : Bool) → (b || (c || d)) ≡ (c || (b || d))
swap_or true true d = refl
swap_or true false d = refl
swap_or false true d = refl
swap_or false false d = refl

list_any-put_before : {X : Type 0} (lt : X → X → Bool) (p : X → Bool) (x : X) (ys : List X) → list_any p (insert_before lt x ys) ≡ (p x || list_any p ys)
list_any-put_before lt p x [] = refl
list_any-put_before lt p x (y ∷ ys) = elim (lt y x) as (λ b. list_any p (cond b (y ∷ insert_before lt x ys) (x ∷ y ∷ ys)) ≡ (p x || (p y || list_any p ys))) [
  | true ↦ ap (λ b. p y || b) (list_any-put_before lt p x ys) ∙ swap_or (p y) (p x) (list_any p ys)
  | false ↦ refl
]

-- what is in it
pub list_any-ordered : {X : Type 0} (lt : X → X → Bool) (p : X → Bool) (xs : List X) → list_any p (sorted_by lt xs) ≡ list_any p xs
list_any-ordered lt p [] = refl
list_any-ordered lt p (x ∷ xs) = list_any-put_before lt p x (sorted_by lt xs) ∙ ap (λ b. p x || b) (list_any-ordered lt p xs)

filter-put_before : {X : Type 0} (lt : X → X → Bool) (p : X → Bool) → ((x y : X) → p x ≡ true → p y ≡ true → lt x y ≡ false) → (x : X) (ys : List X) → filter p (insert_before lt x ys) ≡ filter p (x ∷ ys)
filter-put_before lt p tied x [] = refl
filter-put_before lt p tied x (y ∷ ys) =
    ⊎_elim (λ (t : lt y x ≡ true).
    ap (filter p) (cond-true _ _ _ t) ∙ ap (λ l. cond (p y) (y ∷ l) l) (filter-put_before lt p tied x ys)
    ∙ swap_conds (p y) (p x) y x (filter p ys) (λ a b. both_ways _ (tied y x a b) t))
    (λ (f : lt y x ≡ false). ap (filter p) (cond-false _ _ _ f))
    (cases_Bool (lt y x))

-- those that pass a test that parts nothing
pub filter-ordered : {X : Type 0} (lt : X → X → Bool) (p : X → Bool) → ((x y : X) → p x ≡ true → p y ≡ true → lt x y ≡ false) → (xs : List X) → filter p (sorted_by lt xs) ≡ filter p xs
filter-ordered lt p tied [] = refl
filter-ordered lt p tied (x ∷ xs) = filter-put_before lt p tied x (sorted_by lt xs) ∙ ap (λ l. cond (p x) (x ∷ l) l) (filter-ordered lt p tied xs)
