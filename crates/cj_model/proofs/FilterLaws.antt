-- What a filter has to do with look-ups, items put in, changed items and other filters.
use Rattle.std.proofs.Common.{◌≡◌, Bool, true, false, ◌&&◌, cond, List, [], ◌∷◌, map, refl, ap, sym, ◌∙◌, Ordering, Less, Equal, ⊎_elim}
use Rattle.std.specs.Prelude.{All, filter, find, IfSome}
use Rattle.std.specs.declared.option.Option.TheVariants.{Some}
use Rattle.std.specs.Ordering.{match_ordering}
use Rattle.std.proofs.lemmas.Bool.{both_ways, cases_Bool, cond_both, cond-true, cond-false, false_from_ne_true}
use Rattle.cj_model.proofs.Common.{All-cons, All-filter, All-head, All-tail, IsTotalOrder, Rises, put_by}
use Rattle.cj_model.proofs.RisingLaws.{by_order}

-- what is found passes the test
pub found_passes : {A : Type 0} (q : A → Bool) (xs : List A) → IfSome (find q xs) (λ x. q x ≡ true)
found_passes q [] = tt
found_passes q (x ∷ xs) = cond_both (q x) (Some x) (find q xs) (λ o. IfSome o (λ y. q y ≡ true)) (λ e. e) (λ _. found_passes q xs)

-- items that a change leaves where they stay come out the same
pub map_same : {A : Type 0} (f : A → A) (xs : List A) → All (λ x. f x ≡ x) xs → map f xs ≡ xs
map_same f [] a = refl
map_same f (x ∷ xs) a = ap (λ y. y ∷ map f xs) (All-head (λ y. f y ≡ y) x xs a) ∙ ap (λ ys. x ∷ ys) (map_same f xs (All-tail (λ y. f y ≡ y) x xs a))

module _ {A : Type 0} (p : A → Bool) where
  -- an item that stays
  pub filter_stays : (x : A) (xs : List A) → p x ≡ true → filter p (x ∷ xs) ≡ x ∷ filter p xs
  filter_stays x xs e = cond-true (p x) (x ∷ filter p xs) (filter p xs) e

  -- an item that goes
  pub filter_goes : (x : A) (xs : List A) → p x ≡ false → filter p (x ∷ xs) ≡ filter p xs
  filter_goes x xs e = cond-false (p x) (x ∷ filter p xs) (filter p xs) e

  -- where all that a look-up may find stays, it finds the same
  pub find-filter : (q : A → Bool) → ((x : A) → q x ≡ true → p x ≡ true) → (xs : List A) → find q (filter p xs) ≡ find q xs
  find-filter q stays [] = refl
  find-filter q stays (x ∷ xs) =
      ⊎_elim
      (λ (e : p x ≡ true). ap (find q) (filter_stays x xs e) ∙ ap (λ o. cond (q x) (Some x) o) (find-filter q stays xs))
      (λ (e : p x ≡ false).
      ap (find q) (filter_goes x xs e) ∙ find-filter q stays xs
      ∙ sym (cond-false (q x) (Some x) (find q xs) (false_from_ne_true (q x) (λ t. both_ways (p x) e (stays x t)))))
      (cases_Bool (p x))

  -- a change that keeps what the test says may come before or after
  pub filter-map : (P : A → Type 0) (f : A → A) → ((x : A) → P x → p (f x) ≡ p x) → (xs : List A) → All P xs → filter p (map f xs) ≡ map f (filter p xs)
  filter-map P f same [] a = refl
  filter-map P f same (x ∷ xs) a =
      let rest = filter-map P f same xs (All-tail P x xs a) in
      let now = same x (All-head P x xs a) in
      ⊎_elim
      (λ (e : p x ≡ true). filter_stays (f x) (map f xs) (now ∙ e) ∙ ap (λ ys. f x ∷ ys) rest ∙ sym (ap (map f) (filter_stays x xs e)))
      (λ (e : p x ≡ false). filter_goes (f x) (map f xs) (now ∙ e) ∙ rest ∙ sym (ap (map f) (filter_goes x xs e)))
      (cases_Bool (p x))

  -- where all that another filter leaves out goes, that one makes no difference
  pub filter_after : (q : A → Bool) → ((x : A) → q x ≡ false → p x ≡ false) → (xs : List A) → filter p (filter q xs) ≡ filter p xs
  filter_after q goes [] = refl
  filter_after q goes (x ∷ xs) =
      ⊎_elim
      (λ (e : q x ≡ true). ap (filter p) (cond-true (q x) (x ∷ filter q xs) (filter q xs) e) ∙ ap (λ ys. cond (p x) (x ∷ ys) ys) (filter_after q goes xs))
      (λ (e : q x ≡ false). ap (filter p) (cond-false (q x) (x ∷ filter q xs) (filter q xs) e) ∙ filter_after q goes xs ∙ sym (filter_goes x xs (goes x e)))
      (cases_Bool (q x))

  -- two filters may come in either order
  pub filter_swap : (q : A → Bool) (xs : List A) → filter p (filter q xs) ≡ filter q (filter p xs)
  filter_swap q [] = refl
  filter_swap q (x ∷ xs) =
      let rest = filter_swap q xs in
      ⊎_elim
      (λ (e : p x ≡ true).
      ⊎_elim
      (λ (g : q x ≡ true).
      ap (filter p) (cond-true (q x) (x ∷ filter q xs) (filter q xs) g) ∙ filter_stays x (filter q xs) e ∙ ap (λ ys. x ∷ ys) rest
      ∙ sym (ap (filter q) (filter_stays x xs e) ∙ cond-true (q x) (x ∷ filter q (filter p xs)) (filter q (filter p xs)) g))
      (λ (g : q x ≡ false).
      ap (filter p) (cond-false (q x) (x ∷ filter q xs) (filter q xs) g) ∙ rest
      ∙ sym (ap (filter q) (filter_stays x xs e) ∙ cond-false (q x) (x ∷ filter q (filter p xs)) (filter q (filter p xs)) g))
      (cases_Bool (q x)))
      (λ (e : p x ≡ false).
      ⊎_elim
      (λ (g : q x ≡ true). ap (filter p) (cond-true (q x) (x ∷ filter q xs) (filter q xs) g) ∙ filter_goes x (filter q xs) e ∙ rest ∙ sym (ap (filter q) (filter_goes x xs e)))
      (λ (g : q x ≡ false). ap (filter p) (cond-false (q x) (x ∷ filter q xs) (filter q xs) g) ∙ rest ∙ sym (ap (filter q) (filter_goes x xs e)))
      (cases_Bool (q x)))
      (cases_Bool (p x))

  -- a filter after another is one by both tests
  pub filter_twice : (q : A → Bool) (xs : List A) → filter p (filter q xs) ≡ filter (λ x. q x && p x) xs
  filter_twice q [] = refl
  filter_twice q (x ∷ xs) =
      ⊎_elim
      (λ (e : q x ≡ true).
      ap (filter p) (cond-true (q x) (x ∷ filter q xs) (filter q xs) e) ∙ ap (λ ys. cond (p x) (x ∷ ys) ys) (filter_twice q xs)
      ∙ sym (ap (λ c. cond (c && p x) (x ∷ filter (λ y. q y && p y) xs) (filter (λ y. q y && p y) xs)) e))
      (λ (e : q x ≡ false).
      ap (filter p) (cond-false (q x) (x ∷ filter q xs) (filter q xs) e) ∙ filter_twice q xs
      ∙ sym (ap (λ c. cond (c && p x) (x ∷ filter (λ y. q y && p y) xs) (filter (λ y. q y && p y) xs)) e))
      (cases_Bool (q x))

  module _ (R : A → A → Ordering) (tied : (x y : A) → R x y ≡ Equal → p x ≡ p y) where
    -- an item that goes may be put in before
    pub filter-put_goes : (x : A) → p x ≡ false → (xs : List A) → filter p (put_by R xs x) ≡ filter p xs
    filter-put_goes x e [] = filter_goes x [] e
    filter-put_goes x e (y ∷ ys) =
        let put : Ordering → List A = λ o. filter p (match_ordering o (x ∷ y ∷ ys) (x ∷ ys) (y ∷ put_by R ys x)) in
        by_order (R x y)
        (λ l. ap put l ∙ filter_goes x (y ∷ ys) e)
        (λ t. ap put t ∙ filter_goes x ys e ∙ sym (filter_goes y ys (sym (tied x y t) ∙ e)))
        (λ g. ap put g ∙ ap (λ zs. cond (p y) (y ∷ zs) zs) (filter-put_goes x e ys))

    -- what stands below all others is put first
    put_first : (x : A) (xs : List A) → All (λ y. R x y ≡ Less) xs → put_by R xs x ≡ x ∷ xs
    put_first x [] a = refl
    put_first x (y ∷ ys) a = ap (λ o. match_ordering o (x ∷ y ∷ ys) (x ∷ ys) (y ∷ put_by R ys x)) (All-head (λ z. R x z ≡ Less) y ys a)

    module _ (total : IsTotalOrder R) where
      -- what stands below the first stands below all
      above_all : (x y : A) (ys : List A) → R x y ≡ Less → All (λ z. R y z ≡ Less) ys → All (λ z. R x z ≡ Less) (y ∷ ys)
      above_all x y ys l a = All-cons (λ z. R x z ≡ Less) y ys l (λ k d lt. total.trans x y _ l (a k d lt))

      -- an item that stays may be put in before or after
      pub filter-put_stays : (x : A) → p x ≡ true → (xs : List A) → Rises R xs → filter p (put_by R xs x) ≡ put_by R (filter p xs) x
      filter-put_stays x e [] r = filter_stays x [] e
      filter-put_stays x e (y ∷ ys) r =
          let put : Ordering → List A = λ o. filter p (match_ordering o (x ∷ y ∷ ys) (x ∷ ys) (y ∷ put_by R ys x)) in
          let onto : Ordering → List A = λ o. match_ordering o (x ∷ y ∷ filter p ys) (x ∷ filter p ys) (y ∷ put_by R (filter p ys) x) in
          by_order (R x y)
          (λ l.
          ap put l ∙ filter_stays x (y ∷ ys) e
          ∙ sym (put_first x (filter p (y ∷ ys)) (All-filter p (λ z. R x z ≡ Less) (y ∷ ys) (above_all x y ys l r.0))))
          (λ t.
          ap put t ∙ filter_stays x ys e ∙ sym (ap onto t)
          ∙ sym (ap (λ zs. put_by R zs x) (filter_stays y ys (sym (tied x y t) ∙ e))))
          (λ g.
          let rest = filter-put_stays x e ys r.1 in
          ⊎_elim
          (λ (s : p y ≡ true).
          ap put g ∙ filter_stays y (put_by R ys x) s ∙ ap (λ zs. y ∷ zs) rest ∙ sym (ap onto g)
          ∙ sym (ap (λ zs. put_by R zs x) (filter_stays y ys s)))
          (λ (s : p y ≡ false).
          ap put g ∙ filter_goes y (put_by R ys x) s ∙ rest
          ∙ sym (ap (λ zs. put_by R zs x) (filter_goes y ys s)))
          (cases_Bool (p y)))
