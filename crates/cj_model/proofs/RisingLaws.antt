-- Rising lists: what putting in, leaving out and changing items keep, and where an item is put.
use Rattle.std.proofs.Common.{◌≡◌, ◌⊎◌, inl, inr, ℕ, ◌+◌, ◌<◌, ◌≤◌, Bool, true, false, cond, zero, suc, List, [], ◌∷◌, ◌++◌, length, get_or, set, take, drop, map, refl, ap, sym, ◌∙◌, subst, Ordering, Less, Equal, Greater, is_eq, arith, add-one}
use Rattle.std.specs.Prelude.{All, Contains, IfSome, filter, fold, find}
use Rattle.std.specs.declared.option.Option.{Option}
use Rattle.std.specs.declared.option.Option.TheVariants.{None, Some}
use Rattle.std.specs.Ordering.{match_ordering, ordering_reverse}
use Rattle.std.proofs.lemmas.Bool.{cond_both, cond-false}
use Rattle.std.proofs.lemmas.Cmp.{alike_right}
use Rattle.std.proofs.lemmas.List.{drop_more, set_split}
use Rattle.std.proofs.lemmas.List.Elements.{All-contains, All-contains_itself, All-nil, All-cons, All-head, All-tail, All-weaker, All-filter, All-get_or}
use Rattle.cj_model.proofs.Common.{IsTotalOrder, Rises, put_by}

-- a case on an ordering, with what it is
pub by_order : {G : Type 0} (o : Ordering) → (o ≡ Less → G) → (o ≡ Equal → G) → (o ≡ Greater → G) → G
by_order Less f g h = f refl
by_order Equal f g h = g refl
by_order Greater f g h = h refl

-- what is found, if there is anything, is one of the items
pub found_All : {A : Type 0} (P : A → Type 0) (p : A → Bool) (xs : List A) → All P xs → IfSome (find p xs) P
found_All P p [] a = tt
found_All P p (x ∷ xs) a = cond_both (p x) (Some x) (find p xs) (λ o. IfSome o P) (λ _. All-head P x xs a) (λ _. found_All P p xs (All-tail P x xs a))

-- an item at the front, and one behind it
Contains-first : {A : Type 0} (x : A) (xs : List A) → Contains (x ∷ xs) x
Contains-first x xs = (0, omega arith, refl)

Contains-later : {A : Type 0} (y : A) (xs : List A) (x : A) → Contains xs x → Contains (y ∷ xs) x
Contains-later y xs x h = (suc h.0, omega (arith, h.1), h.2)

-- a test that was false already
again : {X : Type 0} (b c : Bool) (x y z : X) → b ≡ c → cond b x z ≡ cond b x (cond c y z)
again true c x y z h = refl
again false c x y z h = sym (cond-false c y z (sym h))

-- two tests of which one holds at most
in_turn : {X : Type 0} (b c : Bool) (x y z : X) → (b ≡ true → c ≡ true → ⊥) → cond b x (cond c y z) ≡ cond c y (cond b x z)
in_turn true true x y z h = absurd (h refl refl)
in_turn true false x y z h = refl
in_turn false true x y z h = refl
in_turn false false x y z h = refl

-- what tests as equal is equal
pub equal_from : (o : Ordering) → is_eq o ≡ true → o ≡ Equal
equal_from Less h = cc h
equal_from Equal h = refl
equal_from Greater h = cc h

module _ {A : Type 0} (R : A → A → Ordering) where
  -- ---- putting an item in

  -- what holds of all items and of the new one
  pub all_put : (P : A → Type 0) (xs : List A) (x : A) → All P xs → P x → All P (put_by R xs x)
  all_put P [] x a p = All-cons P x [] p a
  all_put P (y ∷ ys) x a p = elim (R x y) as (λ o. All P (match_ordering o (x ∷ y ∷ ys) (x ∷ ys) (y ∷ put_by R ys x))) [
    | Less ↦ All-cons P x (y ∷ ys) p a
    | Equal ↦ All-cons P x ys p (All-tail P y ys a)
    | Greater ↦ All-cons P y (put_by R ys x) (All-head P y ys a) (all_put P ys x (All-tail P y ys a) p)
  ]

  -- the new item is there
  pub Contains-put : (xs : List A) (x : A) → Contains (put_by R xs x) x
  Contains-put [] x = Contains-first x []
  Contains-put (y ∷ ys) x = elim (R x y) as (λ o. Contains (match_ordering o (x ∷ y ∷ ys) (x ∷ ys) (y ∷ put_by R ys x)) x) [
    | Less ↦ Contains-first x (y ∷ ys)
    | Equal ↦ Contains-first x ys
    | Greater ↦ Contains-later y (put_by R ys x) x (Contains-put ys x)
  ]

  -- nothing else is new
  pub Contains-put_cases : (xs : List A) (x y : A) → Contains (put_by R xs x) y → (y ≡ x) ⊎ Contains xs y
  Contains-put_cases xs x y h = All-contains (λ z. (z ≡ x) ⊎ Contains xs z) (put_by R xs x) y (all_put (λ z. (z ≡ x) ⊎ Contains xs z) xs x (All-weaker (Contains xs) (λ z. (z ≡ x) ⊎ Contains xs z) (λ z p. inr p) xs (All-contains_itself xs)) (inl refl)) h

  -- at most one more
  pub length-put : (xs : List A) (x : A) → length (put_by R xs x) ≤ length xs + 1
  length-put [] x = omega arith
  length-put (y ∷ ys) x = elim (R x y) as (λ o. length (match_ordering o (x ∷ y ∷ ys) (x ∷ ys) (y ∷ put_by R ys x)) ≤ length (y ∷ ys) + 1) [
    | Less ↦ omega arith
    | Equal ↦ omega arith
    | Greater ↦ omega (arith, length-put ys x)
  ]

  -- what holds of all items and of all new ones
  pub all_put_each : (P : A → Type 0) (xs new : List A) → All P xs → All P new → All P (fold (put_by R) xs new)
  all_put_each P xs [] a b = a
  all_put_each P xs (x ∷ new) a b = all_put_each P (put_by R xs x) new (all_put P xs x a (All-head P x new b)) (All-tail P x new b)

  pub length-put_each : (xs new : List A) → length (fold (put_by R) xs new) ≤ length xs + length new
  length-put_each xs [] = omega arith
  length-put_each xs (x ∷ new) = omega (arith, length-put_each (put_by R xs x) new, length-put xs x)

  -- ---- finding the place from the front on

  module _ (xs : List A) (x : A) (i : ℕ) (before : put_by R xs x ≡ take i xs ++ put_by R (drop i xs) x) where
    -- instead of the one that is equal
    pub put_over : (d : A) → i < length xs → R x (get_or xs i d) ≡ Equal → put_by R xs x ≡ set xs i x
    put_over d l e =
        let step : put_by R (drop i xs) x ≡ x ∷ drop (i + 1) xs =
        ap (λ ys. put_by R ys x) (drop_more xs i d l)
        ∙ ap (λ o. match_ordering o (x ∷ get_or xs i d ∷ drop (i + 1) xs) (x ∷ drop (i + 1) xs) (get_or xs i d ∷ put_by R (drop (i + 1) xs) x)) e in
        before ∙ ap (λ ys. take i xs ++ ys) step ∙ ap (λ n. take i xs ++ x ∷ drop n xs) (add-one i) ∙ sym (set_split xs i x l)

  -- ---- what stays rising

  -- a part that is left
  pub rises_filter : (p : A → Bool) (xs : List A) → Rises R xs → Rises R (filter p xs)
  rises_filter p [] r = tt
  rises_filter p (x ∷ xs) r = elim (p x) as (λ b. Rises R (cond b (x ∷ filter p xs) (filter p xs))) [
    | true ↦ (All-filter p (λ y. R x y ≡ Less) xs r.0, rises_filter p xs r.1)
    | false ↦ rises_filter p xs r.1
  ]

  -- items that are changed, where the order of any two stays
  pub rises_map : (P : A → Type 0) (f : A → A) → ((x y : A) → P x → P y → R (f x) (f y) ≡ R x y) → (xs : List A) → All P xs → Rises R xs → Rises R (map f xs)
  rises_map P f same [] a r = tt
  rises_map P f same (x ∷ xs) a r =
      (above xs (All-tail P x xs a) r.0, rises_map P f same xs (All-tail P x xs a) r.1) where
        above : (ys : List A) → All P ys → All (λ y. R x y ≡ Less) ys → All (λ y. R (f x) y ≡ Less) (map f ys)
        above [] b l = All-nil (λ y. R (f x) y ≡ Less)
        above (y ∷ ys) b l =
            All-cons (λ y. R (f x) y ≡ Less) (f y) (map f ys)
            (same x y (All-head P x xs a) (All-head P y ys b) ∙ All-head (λ y. R x y ≡ Less) y ys l)
            (above ys (All-tail P y ys b) (All-tail (λ y. R x y ≡ Less) y ys l))

  module _ (total : IsTotalOrder R) where
    -- what stands above a greater one, or above an equal one
    above_less : (x y : A) (ys : List A) → R x y ≡ Less → All (λ z. R y z ≡ Less) ys → All (λ z. R x z ≡ Less) ys
    above_less x y ys l a = All-weaker (λ z. R y z ≡ Less) (λ z. R x z ≡ Less) (λ z h. total.trans x y z l h) ys a

    above_tied : (x y : A) (ys : List A) → R x y ≡ Equal → All (λ z. R y z ≡ Less) ys → All (λ z. R x z ≡ Less) ys
    above_tied x y ys e a = All-weaker (λ z. R y z ≡ Less) (λ z. R x z ≡ Less) (λ z h. total.congr x y z e ∙ h) ys a

    -- an item in its place
    pub rises_put : (xs : List A) (x : A) → Rises R xs → Rises R (put_by R xs x)
    rises_put [] x r = (All-nil (λ y. R x y ≡ Less), tt)
    rises_put (y ∷ ys) x r = by_order (R x y)
        (λ l. subst (λ o. Rises R (match_ordering o (x ∷ y ∷ ys) (x ∷ ys) (y ∷ put_by R ys x))) (sym l)
        (All-cons (λ z. R x z ≡ Less) y ys l (above_less x y ys l r.0), r))
        (λ e. subst (λ o. Rises R (match_ordering o (x ∷ y ∷ ys) (x ∷ ys) (y ∷ put_by R ys x))) (sym e)
        (above_tied x y ys e r.0, r.1))
        (λ g. let below : R y x ≡ Less = total.antisymm y x ∙ ap ordering_reverse g in
        subst (λ o. Rises R (match_ordering o (x ∷ y ∷ ys) (x ∷ ys) (y ∷ put_by R ys x))) (sym g)
        (all_put (λ z. R y z ≡ Less) ys x r.0 below, rises_put ys x r.1))

    pub rises_put_each : (xs new : List A) → Rises R xs → Rises R (fold (put_by R) xs new)
    rises_put_each xs [] r = r
    rises_put_each xs (x ∷ new) r = rises_put_each (put_by R xs x) new (rises_put xs x r)

    -- what is equal to an item of the list takes its place
    pub put_equal : (xs : List A) (i : ℕ) (x d : A) → Rises R xs → i < length xs → R x (get_or xs i d) ≡ Equal → put_by R xs x ≡ set xs i x
    put_equal [] i x d r l e = absurd (omega arith)
    put_equal (y ∷ ys) zero x d r l e = ap (λ o. match_ordering o (x ∷ y ∷ ys) (x ∷ ys) (y ∷ put_by R ys x)) e
    put_equal (y ∷ ys) (suc i) x d r l e =
        let within : i < length ys = omega arith in
        let above : R y (get_or ys i d) ≡ Less = All-get_or (λ z. R y z ≡ Less) ys i d within r.0 in
        let greater : R x y ≡ Greater = total.congr x (get_or ys i d) y e ∙ total.antisymm (get_or ys i d) y ∙ ap ordering_reverse above in
        ap (λ o. match_ordering o (x ∷ y ∷ ys) (x ∷ ys) (y ∷ put_by R ys x)) greater
        ∙ ap (λ zs. y ∷ zs) (put_equal ys i x d r.1 within e)

    -- ---- look-ups

    -- nothing equal to what all stand above
    pub found_above : (q : A) (xs : List A) → All (λ y. R q y ≡ Less) xs → find (λ y. is_eq (R q y)) xs ≡ None
    found_above q [] a = refl
    found_above q (y ∷ ys) a =
        cond-false _ _ _ (ap is_eq (All-head (λ z. R q z ≡ Less) y ys a)) ∙ found_above q ys (All-tail (λ z. R q z ≡ Less) y ys a)

    -- after an item is put in, a look-up finds it at its place, and else what it found
    pub found_put : (q : A) (xs : List A) (x : A) → find (λ y. is_eq (R q y)) (put_by R xs x) ≡ cond (is_eq (R q x)) (Some x) (find (λ y. is_eq (R q y)) xs)
    found_put q [] x = refl
    found_put q (y ∷ ys) x =
        let found : Ordering → Option A = λ o. find (λ z. is_eq (R q z)) (match_ordering o (x ∷ y ∷ ys) (x ∷ ys) (y ∷ put_by R ys x)) in
        by_order (R x y)
        (λ l. ap found l)
        (λ e. ap found e ∙ again (is_eq (R q x)) (is_eq (R q y)) (Some x) (Some y) (find (λ z. is_eq (R q z)) ys) (ap is_eq (alike_right total x y q e)))
        (λ g. ap found g
        ∙ ap (λ o. cond (is_eq (R q y)) (Some y) o) (found_put q ys x)
        ∙ in_turn (is_eq (R q y)) (is_eq (R q x)) (Some y) (Some x) (find (λ z. is_eq (R q z)) ys)
        (λ a b. let e : R x y ≡ Equal = sym (total.congr q x y (equal_from (R q x) b)) ∙ equal_from (R q y) a in let c : Equal ≡ Greater = sym e ∙ g in cc))
