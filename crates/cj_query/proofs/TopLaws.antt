-- The first of many rows in order: those that are cut off, or that a bar keeps out, are not among them.
use Rattle.std.proofs.Common.{◌≡◌, ℕ, zero, suc, ◌+◌, ◌<◌, ◌≤◌, Bool, true, false, cond, List, [], ◌∷◌, ◌++◌, length, map, take, drop, ◌-◌, refl, ap, sym, ◌∙◌, subst, arith, ⊎_elim, append_assoc}
use Rattle.std.specs.Prelude.{All, nat_le, option_map, slice_get}
use Rattle.std.specs.List.{filter}
use Rattle.std.specs.declared.option.Option.{Option}
use Rattle.std.specs.declared.option.Option.TheVariants.{None, Some}
use Rattle.std.proofs.lemmas.List.{take-append-le, take-append-drop, take_all, length-take-le, length-map}
use Rattle.cj_query.proofs.Common.{All-cons, All-head, All-nil, All-tail, at_most, cases_Bool, cond-false, cond-true, filter-append, insert_before, IsStrictWeakOrder, not-true, sorted_by, ties}
use Rattle.cj_query.specs.Ranked.{Bars, is_barred}
use Rattle.cj_query.proofs.OrderLaws.{IsInOrder, NoneBefore, none_before_put, none_chain, not_before_itself, ordered_rises, ordered_stable, unique}

the_one : {X : Type 0} (x b : X) → ◌≡◌ {A = Option X} (Some x) (Some b) → x ≡ b
the_one x b e = ap (λ o. elim o [ None ↦ x | Some y ↦ y ]) e

not_le : (m n : ℕ) → nat_le m n ≡ false → n < m
not_le m n h = grind arith

pub is_le : (m n : ℕ) → nat_le m n ≡ true → m ≤ n
is_le m n h = grind arith

module _ {X : Type 0} (lt : X → X → Bool) (o : IsStrictWeakOrder lt) where
  all_behind : (x bar : X) (ys : List X) → lt x bar ≡ false → All (λ y. lt bar y ≡ false) ys → All (λ y. lt x y ≡ false) ys
  all_behind x bar [] f a = All-nil (λ y. lt x y ≡ false)
  all_behind x bar (y ∷ ys) f a = All-cons (λ y. lt x y ≡ false) y ys (o.chain x bar y f (All-head (λ y. lt bar y ≡ false) y ys a)) (all_behind x bar ys f (All-tail (λ y. lt bar y ≡ false) y ys a))

  none_taken : (n : ℕ) (x : X) (xs : List X) → NoneBefore lt x xs → NoneBefore lt x (take n xs)
  none_taken zero x xs h = tt
  none_taken (suc n) x [] h = tt
  none_taken (suc n) x (y ∷ xs) h = (h.0, none_taken n x xs h.1)

  -- zs is ws with x in it, behind at least n others, and nothing behind x stands before it
  pub record HasBehind (x : X) (n : ℕ) (zs ws : List X) : Type 0 where
    pub front : List X
    pub back : List X
    pub with : zs ≡ front ++ x ∷ back
    pub without : ws ≡ front ++ back
    pub none : NoneBefore lt x back
    pub far : n ≤ length front

  -- in front of what it is not behind
  put_first : (a : X) (ys : List X) → NoneBefore lt a ys → insert_before lt a ys ≡ a ∷ ys
  put_first a [] h = refl
  put_first a (y ∷ ys) h = cond-false _ _ _ h.0

  one_more_in_front : (x c : X) (n m : ℕ) (zs ws : List X) → m ≤ suc n → HasBehind x n zs ws → HasBehind x m (c ∷ zs) (c ∷ ws)
  one_more_in_front x c n m zs ws l h = record {
    front = c ∷ h.front;
    back = h.back;
    with = ap (λ l. c ∷ l) h.with;
    without = ap (λ l. c ∷ l) h.without;
    none = h.none;
    far = let f : n ≤ length h.front = h.far in omega (arith, l, f);
  }

  -- one more is put in its place: behind x, or in front of it
  put_both : (x a : X) (front back : List X) → NoneBefore lt x back → HasBehind x (length front + cond (lt x a) 0 1) (insert_before lt a (front ++ x ∷ back)) (insert_before lt a (front ++ back))
  put_both x a [] back h = ⊎_elim
      (λ (t : lt x a ≡ true). subst (λ b. HasBehind x (0 + cond b 0 1) (cond b (x ∷ insert_before lt a back) (a ∷ x ∷ back)) (insert_before lt a back)) (sym t)
      (record { front = []; back = insert_before lt a back; with = refl; without = refl; none = none_before_put lt o x a back (o.one_way x a t) h; far = omega arith }))
      (λ (f : lt x a ≡ false). subst (λ b. HasBehind x (0 + cond b 0 1) (cond b (x ∷ insert_before lt a back) (a ∷ x ∷ back)) (insert_before lt a back)) (sym f)
      (record { front = a ∷ []; back = back; with = refl; without = put_first a back (none_chain lt o a x back f h); none = h; far = omega arith }))
      (cases_Bool (lt x a))
  put_both x a (c ∷ front) back h =
      let n = length front + cond (lt x a) 0 1 in
      let few : cond (lt x a) 0 1 ≤ 1 = elim (lt x a) as (λ b. cond b 0 1 ≤ 1) [ true ↦ omega arith | false ↦ omega arith ] in
      elim (lt c a) as (λ b. HasBehind x (suc (length front) + cond (lt x a) 0 1) (cond b (c ∷ insert_before lt a (front ++ x ∷ back)) (a ∷ c ∷ front ++ x ∷ back)) (cond b (c ∷ insert_before lt a (front ++ back)) (a ∷ c ∷ front ++ back))) [
        | true ↦ one_more_in_front x c n (suc (length front) + cond (lt x a) 0 1) _ _ (omega arith) (put_both x a front back h)
        | false ↦ record { front = a ∷ c ∷ front; back = back; with = refl; without = refl; none = h; far = omega (arith, few) }
      ]

  put_one : (x a : X) (n m : ℕ) (zs ws : List X) → m ≤ n + cond (lt x a) 0 1 → HasBehind x n zs ws → HasBehind x m (insert_before lt a zs) (insert_before lt a ws)
  put_one x a n m zs ws l h =
      let p = put_both x a h.front h.back h.none in
      let far : n ≤ length h.front = h.far in
      let more : length h.front + cond (lt x a) 0 1 ≤ length p.front = p.far in
      record {
        front = p.front;
        back = p.back;
        with = ap (insert_before lt a) h.with ∙ p.with;
        without = ap (insert_before lt a) h.without ∙ p.without;
        none = p.none;
        far = omega (arith, l, far, more);
      }

  put_itself : (x : X) (ys : List X) → IsInOrder lt ys → HasBehind x 0 (insert_before lt x ys) ys
  put_itself x [] h = record { front = []; back = []; with = refl; without = refl; none = tt; far = omega arith }
  put_itself x (y ∷ ys) h = ⊎_elim
      (λ (t : lt y x ≡ true). subst (λ zs. HasBehind x 0 zs (y ∷ ys)) (sym (cond-true _ _ _ t)) (one_more_in_front x y 0 0 _ _ (omega arith) (put_itself x ys h.1)))
      (λ (f : lt y x ≡ false). subst (λ zs. HasBehind x 0 zs (y ∷ ys)) (sym (cond-false _ _ _ f))
      (record { front = []; back = y ∷ ys; with = refl; without = refl; none = (f, none_chain lt o x y ys f h.0); far = omega arith }))
      (cases_Bool (lt y x))

  anywhere : (x : X) (mid rest : List X) → HasBehind x 0 (sorted_by lt (mid ++ x ∷ rest)) (sorted_by lt (mid ++ rest))
  anywhere x [] rest = put_itself x (sorted_by lt rest) (ordered_rises lt o rest)
  anywhere x (a ∷ mid) rest = put_one x a 0 0 _ _ (omega arith) (anywhere x mid rest)

  behind : (x : X) (front mid rest : List X) → All (λ y. lt x y ≡ false) front → HasBehind x (length front) (sorted_by lt (front ++ (mid ++ x ∷ rest))) (sorted_by lt (front ++ (mid ++ rest)))
  behind x [] mid rest a = anywhere x mid rest
  behind x (y ∷ front) mid rest a =
      let f : lt x y ≡ false = All-head (λ y. lt x y ≡ false) y front a in
      let one : ◌≡◌ {A = ℕ} (cond (lt x y) 0 1) 1 = cond-false _ _ _ f in
      put_one x y (length front) (suc (length front)) _ _ (omega (arith, one)) (behind x front mid rest (All-tail (λ y. lt x y ≡ false) y front a))

  -- what is not before mid many mid are wanted is not wanted
  kept_out : (n : ℕ) (x : X) (front mid rest : List X) → n ≤ length front → All (λ y. lt x y ≡ false) front → take n (sorted_by lt (front ++ (mid ++ x ∷ rest))) ≡ take n (sorted_by lt (front ++ (mid ++ rest)))
  kept_out n x front mid rest l a =
      let h = behind x front mid rest a in
      let far : length front ≤ length h.front = h.far in
      ap (take n) h.with ∙ take-append-le n h.front (x ∷ h.back) (omega (arith, l, far)) ∙ sym (take-append-le n h.front h.back (omega (arith, l, far))) ∙ ap (take n) (sym h.without)

  barred : (n : ℕ) (xs : List X) (bar x : X) (rest : List X) → lt x bar ≡ false → n ≤ length xs → All (λ y. lt bar y ≡ false) (take n xs) → take n (sorted_by lt (xs ++ x ∷ rest)) ≡ take n (sorted_by lt (xs ++ rest))
  barred n xs bar x rest f l a =
      let parts : take n xs ++ drop n xs ≡ xs = take-append-drop n xs in
      ap (λ l. take n (sorted_by lt (l ++ x ∷ rest))) (sym parts)
      ∙ ap (λ l. take n (sorted_by lt l)) (append_assoc (take n xs) (drop n xs) (x ∷ rest))
      ∙ kept_out n x (take n xs) (drop n xs) rest (let e : length (take n xs) ≡ n = length-take-le n xs l in omega (arith, e)) (all_behind x bar (take n xs) f a)
      ∙ ap (λ l. take n (sorted_by lt l)) (sym (append_assoc (take n xs) (drop n xs) rest))
      ∙ ap (λ l. take n (sorted_by lt (l ++ rest))) parts

  -- a row that the bar keeps out is not wanted
  pub bar_keeps_out : (limit : Option ℕ) (xs : List X) (bar : Option X) (x : X) (rest : List X) → Bars lt limit xs bar → is_barred lt bar x ≡ true → at_most limit (sorted_by lt (xs ++ x ∷ rest)) ≡ at_most limit (sorted_by lt (xs ++ rest))
  bar_keeps_out limit xs None x rest h b = cc b
  bar_keeps_out None xs (Some bar) x rest h b = cc h
  bar_keeps_out (Some n) xs (Some bar) x rest h b = barred n xs bar x rest (not-true _ b) h.0 h.1

  -- ---- rows that are cut off

  -- what is in order already may be put in order before
  sorted_before : (xs rest : List X) → sorted_by lt (sorted_by lt xs ++ rest) ≡ sorted_by lt (xs ++ rest)
  sorted_before xs rest = unique lt o (sorted_by lt (sorted_by lt xs ++ rest)) (sorted_by lt (xs ++ rest)) (ordered_rises lt o (sorted_by lt xs ++ rest)) (ordered_rises lt o (xs ++ rest)) (λ x.
      ordered_stable lt o x (sorted_by lt xs ++ rest)
      ∙ filter-append (ties lt x) (sorted_by lt xs) rest
      ∙ ap (λ l. l ++ filter (ties lt x) rest) (ordered_stable lt o x xs)
      ∙ sym (filter-append (ties lt x) xs rest)
      ∙ sym (ordered_stable lt o x (xs ++ rest)))

  none_in : (c d : X) (front ds : List X) → NoneBefore lt c (front ++ d ∷ ds) → lt d c ≡ false
  none_in c d [] ds h = h.0
  none_in c d (e ∷ front) ds h = none_in c d front ds h.1

  none_without : (c d : X) (front ds : List X) → NoneBefore lt c (front ++ d ∷ ds) → NoneBefore lt c (front ++ ds)
  none_without c d [] ds h = h.1
  none_without c d (e ∷ front) ds h = (h.0, none_without c d front ds h.1)

  behind_all : (d : X) (front ds : List X) → IsInOrder lt (front ++ d ∷ ds) → All (λ y. lt d y ≡ false) front
  behind_all d [] ds h = All-nil (λ y. lt d y ≡ false)
  behind_all d (c ∷ front) ds h = All-cons (λ y. lt d y ≡ false) c front (none_in c d front ds h.0) (behind_all d front ds h.1)

  in_order_without : (d : X) (front ds : List X) → IsInOrder lt (front ++ d ∷ ds) → IsInOrder lt (front ++ ds)
  in_order_without d [] ds h = h.1
  in_order_without d (c ∷ front) ds h = (none_without c d front ds h.0, in_order_without d front ds h.1)

  cut_off : (n : ℕ) (front ds rest : List X) → n ≤ length front → IsInOrder lt (front ++ ds) → take n (sorted_by lt (front ++ (ds ++ rest))) ≡ take n (sorted_by lt (front ++ rest))
  cut_off n front [] rest l h = refl
  cut_off n front (d ∷ ds) rest l h =
      kept_out n d front [] (ds ++ rest) l (behind_all d front ds h)
      ∙ cut_off n front ds rest l (in_order_without d front ds h)

  take_sorted : (n : ℕ) (s rest : List X) → IsInOrder lt s → take n (sorted_by lt (take n s ++ rest)) ≡ take n (sorted_by lt (s ++ rest))
  take_sorted n s rest h = ⊎_elim
      (λ (t : nat_le n (length s) ≡ true).
      let l : n ≤ length s = is_le n (length s) t in
      let parts : take n s ++ drop n s ≡ s = take-append-drop n s in
      sym (ap (λ l. take n (sorted_by lt (l ++ rest))) (sym parts)
      ∙ ap (λ l. take n (sorted_by lt l)) (append_assoc (take n s) (drop n s) rest)
      ∙ cut_off n (take n s) (drop n s) rest (let e : length (take n s) ≡ n = length-take-le n s l in omega (arith, e)) (subst (IsInOrder lt) (sym parts) h)))
      (λ (f : nat_le n (length s) ≡ false).
      let l : length s < n = not_le n (length s) f in
      ap (λ l. take n (sorted_by lt (l ++ rest))) (take_all n s (omega (arith, l))))
      (cases_Bool (nat_le n (length s)))

  -- rows may be cut before others come
  pub cut_before : (limit : Option ℕ) (xs rest : List X) → at_most limit (sorted_by lt (at_most limit (sorted_by lt xs) ++ rest)) ≡ at_most limit (sorted_by lt (xs ++ rest))
  cut_before None xs rest = sorted_before xs rest
  cut_before (Some n) xs rest = take_sorted n (sorted_by lt xs) rest (ordered_rises lt o xs) ∙ ap (take n) (sorted_before xs rest)

  -- ---- the bar after a cut

  none_got : (c b : X) (xs : List X) (i : ℕ) → NoneBefore lt c xs → slice_get xs i ≡ Some b → lt b c ≡ false
  none_got c b [] i h e = cc e
  none_got c b (x ∷ xs) zero h e = ap (λ (y : X). lt y c) (sym (the_one x b e)) ∙ h.0
  none_got c b (x ∷ xs) (suc i) h e = none_got c b xs i h.1 e

  last_behind : (b : X) (xs : List X) (i : ℕ) → slice_get xs i ≡ Some b → length xs ≤ suc i → IsInOrder lt xs → All (λ y. lt b y ≡ false) xs
  last_behind b [] i e l h = All-nil (λ y. lt b y ≡ false)
  last_behind b (x ∷ []) zero e l h = All-cons (λ y. lt b y ≡ false) x [] (ap (λ (y : X). lt y x) (sym (the_one x b e)) ∙ not_before_itself lt o x) (All-nil (λ y. lt b y ≡ false))
  last_behind b (x ∷ y ∷ xs) zero e l h = absurd (omega (arith, l))
  last_behind b (x ∷ xs) (suc i) e l h = All-cons (λ y. lt b y ≡ false) x xs (none_got x b xs i h.0 e) (last_behind b xs i e (omega (arith, l)) h.1)

  bars_last : (n : ℕ) (rows : List X) (bar : Option X) → slice_get rows (length rows - 1) ≡ bar → length rows ≡ n → IsInOrder lt rows → Bars lt (Some n) rows bar
  bars_last n rows None e l h = tt
  bars_last n rows (Some b) e l h = (
    omega (arith, l),
    subst (All (λ y. lt b y ≡ false)) (sym (take_all n rows (omega (arith, l)))) (last_behind b rows (length rows - 1) e (omega arith) h),
  )

  in_order_taken : (n : ℕ) (xs : List X) → IsInOrder lt xs → IsInOrder lt (take n xs)
  in_order_taken zero xs h = tt
  in_order_taken (suc n) [] h = tt
  in_order_taken (suc n) (x ∷ xs) h = (none_taken n x xs h.0, in_order_taken n xs h.1)

  length-put : (x : X) (ys : List X) → length (insert_before lt x ys) ≡ suc (length ys)
  length-put x [] = refl
  length-put x (y ∷ ys) = elim (lt y x) as (λ b. length (cond b (y ∷ insert_before lt x ys) (x ∷ y ∷ ys)) ≡ suc (suc (length ys))) [
    | true ↦ ap suc (length-put x ys)
    | false ↦ refl
  ]

  length-sorted : (xs : List X) → length (sorted_by lt xs) ≡ length xs
  length-sorted [] = refl
  length-sorted (x ∷ xs) = length-put x (sorted_by lt xs) ∙ ap suc (length-sorted xs)

  -- the last of the rows that a cut leaves
  pub bars_after : (n : ℕ) (xs rows : List X) (bar : Option X) → rows ≡ take n (sorted_by lt xs) → n ≤ length xs → slice_get rows (length rows - 1) ≡ bar → Bars lt (Some n) rows bar
  bars_after n xs rows bar is l e =
      let len : length (sorted_by lt xs) ≡ length xs = length-sorted xs in
      let taken : length (take n (sorted_by lt xs)) ≡ n = length-take-le n (sorted_by lt xs) (omega (arith, l, len)) in
      bars_last n rows bar e (ap length is ∙ taken) (subst (IsInOrder lt) (sym is) (in_order_taken n (sorted_by lt xs) (ordered_rises lt o xs)))

got-map : {A B : Type 0} (f : A → B) (xs : List A) (i : ℕ) → slice_get (map f xs) i ≡ option_map f (slice_get xs i)
got-map f [] i = refl
got-map f (x ∷ xs) zero = refl
got-map f (x ∷ xs) (suc i) = got-map f xs i

-- the last of rows that are seen so
pub last_seen : {A B : Type 0} (f : A → B) (xs : List A) (last : Option A) → last ≡ slice_get xs (length xs - 1) → slice_get (map f xs) (length (map f xs) - 1) ≡ option_map f last
last_seen f xs last is = ap (λ n. slice_get (map f xs) (n - 1)) (length-map xs f) ∙ got-map f xs (length xs - 1) ∙ ap (option_map f) (sym is)
