-- Lists of items with rising numbers: where an item stands, and what a change there makes of the list.
use Rattle.std.proofs.Common.{◌≡◌, ◌≢◌, ℕ, zero, suc, ◌<◌, ◌≤◌, ◌==◌, ◌||◌, not, Bool, true, false, cond, List, [], ◌∷◌, ◌++◌, length, map, get_or, set, slice_get, Option, None, Some, is_some, Result, Ok, Err, MatchResult, All, refl, ap, sym, ◌∙◌, subst, arith, ⊎_elim}
use Rattle.std.specs.Prelude.{filter}
use Rattle.std.specs.List.{list_any, remove}
use Rattle.std.specs.List.Sorted.{IsSearchInRange, IsBinarySearchResult, IsNonDecreasingBy}
use Rattle.std.specs.Ordering.{nat_cmp, ordering_index}
use Rattle.std.specs.Cmp.{nat_cmp_is}
use Rattle.std.specs.declared.cmp.Ordering.TheVariants.{Less}
use Rattle.std.proofs.lemmas.Bool.{cases_lt, eqb-true, eqb-false, eq-eqb, ne_eqb}
use Rattle.cj_model.proofs.Common.{Rises, nat_tests}
use Rattle.std.proofs.lemmas.Cmp.{ranked}
use Rattle.std.proofs.lemmas.Option.{slice_get_cases, slice_get-get_or, slice_get_within, get_or_from_slice_get}
use Rattle.std.proofs.lemmas.List.Elements.{All-nil, All-cons, All-head, All-tail, All-weaker, All-push}
use Rattle.cj_model.proofs.RisingLaws.{rises_filter, rises_map}
use Rattle.cj_transactions.specs.Lists.{by_number, numbered, without, IsIndexOf}

module _ {A : Type 0} (number : A → ℕ) where
  -- the items of no such number
  abbrev Lacks : ℕ → List A → Type 0
  Lacks n xs = All (λ x. number x ≢ n) xs

  -- a change of the item of a number
  abbrev changed_at : (A → A) → ℕ → List A → List A
  changed_at f n xs = map (λ x. cond (number x == n) (f x) x) xs

  -- ---- rising numbers

  rises_lt : (xs : List A) → Rises (by_number number) xs → (i j : ℕ) (d : A) → i < j → j < length xs → number (get_or xs i d) < number (get_or xs j d)
  rises_lt [] r i j d lt in_range = absurd (omega arith)
  rises_lt (y ∷ xs) r zero zero d lt in_range = absurd (omega arith)
  rises_lt (y ∷ xs) r zero (suc j) d lt in_range = ranked (number y) (number (get_or xs j d)) Less (sym (r.0 j d (omega arith)))
  rises_lt (y ∷ xs) r (suc i) zero d lt in_range = absurd (omega arith)
  rises_lt (y ∷ xs) r (suc i) (suc j) d lt in_range = rises_lt xs r.1 i j d (omega arith) (omega arith)

  rises_le : (xs : List A) → Rises (by_number number) xs → (i j : ℕ) (d : A) → i ≤ j → j < length xs → number (get_or xs i d) ≤ number (get_or xs j d)
  rises_le xs r i j d le in_range =
      ⊎_elim (λ (lt : i < j). let below = rises_lt xs r i j d lt in_range in omega arith)
      (λ (ge : j ≤ i). let same : i ≡ j = omega arith in let e = ap (λ n. number (get_or xs n d)) same in omega arith) (cases_lt i j)

  -- an item added with a greater number
  pub rises_push : (xs : List A) (y : A) → All (λ x. number x < number y) xs → Rises (by_number number) xs → Rises (by_number number) (xs ++ y ∷ [])
  rises_push [] y all r = (All-nil (λ x. by_number number y x ≡ Less), tt)
  rises_push (z ∷ xs) y all r = (
    All-push (λ x. by_number number z x ≡ Less) xs y r.0 (sym (nat_cmp_is (number z) (number y) Less (All-head (λ x. number x < number y) z xs all))),
    rises_push xs y (All-tail (λ x. number x < number y) z xs all) r.1,
  )

  -- those behind an item have other numbers
  others : (y : A) (xs : List A) (n : ℕ) → number y ≡ n → All (λ x. by_number number y x ≡ Less) xs → Lacks n xs
  others y xs n is all =
      All-weaker (λ x. by_number number y x ≡ Less) (λ x. number x ≢ n) (λ x less. let lt : number y < number x = ranked (number y) (number x) Less (sym less) in omega arith) xs all

  -- ---- what is found

  -- none is found where no item has the number
  pub found_none : (xs : List A) (n : ℕ) → Lacks n xs → numbered number xs n ≡ None
  found_none [] n all = refl
  found_none (y ∷ xs) n all = rw (ne_eqb (number y) n (All-head (λ x. number x ≢ n) y xs all)) (found_none xs n (All-tail (λ x. number x ≢ n) y xs all))

  -- and the other way round
  pub absent : (xs : List A) (n : ℕ) → numbered number xs n ≡ None → Lacks n xs
  absent [] n none = λ k d lt. absurd (omega arith)
  absent (y ∷ xs) n none = one (number y == n) refl none (absent xs n)
    where
      one : (b : Bool) → (number y == n) ≡ b → cond b (Some y) (numbered number xs n) ≡ None → (numbered number xs n ≡ None → Lacks n xs) → Lacks n (y ∷ xs)
      one true e is rest = absurd (cc is)
      one false e is rest = All-cons (λ x. number x ≢ n) y xs (eqb-false _ _ e) (rest is)

  -- what is found has the number
  pub found_number : (xs : List A) (n : ℕ) (x : A) → numbered number xs n ≡ Some x → number x ≡ n
  found_number [] n x is = absurd (cc is)
  found_number (y ∷ xs) n x is = one (number y == n) refl is (found_number xs n x)
    where
      one : (b : Bool) → (number y == n) ≡ b → cond b (Some y) (numbered number xs n) ≡ Some x → (numbered number xs n ≡ Some x → number x ≡ n) → number x ≡ n
      one true e found rest = let same : y ≡ x = cc found in subst (λ (w : A). number w ≡ n) same (eqb-true _ _ e)
      one false e found rest = rest found

  -- where numbers rise, each item is found by its own
  found_itself : (xs : List A) → Rises (by_number number) xs → (i : ℕ) (x : A) → slice_get xs i ≡ Some x → numbered number xs (number x) ≡ Some x
  found_itself [] r i x is = absurd (cc is)
  found_itself (y ∷ xs) r zero x is = let same : y ≡ x = cc is in rw (ap number same, eq-eqb (number x) (number x) refl) (ap (λ z. Some z) same)
  found_itself (y ∷ xs) r (suc i) x is =
      let lt : i < length xs = slice_get_within xs i x is in
      let read : get_or xs i x ≡ x = get_or_from_slice_get xs i x x is in
      let below : number y < number (get_or xs i x) = ranked (number y) (number (get_or xs i x)) Less (sym (r.0 i x lt)) in
      let e = ap number read in
      rw (ne_eqb (number y) (number x) (omega arith)) (found_itself xs r.1 i x is)

  -- ---- a binary search by number

  module _ (xs : List A) (r : Rises (by_number number) xs) (n : ℕ) where
    -- the comparisons with a number rise along the list
    comparisons_rise : IsNonDecreasingBy (λ x. ordering_index (nat_cmp (number x) n)) xs
    comparisons_rise i j d le in_range = let rise = rises_le xs r i j d le in_range in grind (arith, nat_tests)

    -- it finds the item, if it is there
    pub searched : (q : Result ℕ ℕ) → IsSearchInRange q (length xs) → IsBinarySearchResult (λ x. nat_cmp (number x) n) xs q
        → MatchResult q (IsIndexOf number xs n) (λ i. numbered number xs n ≡ None)
    searched (Ok i) in_range equal =
        ⊎_elim
        (λ (q : (x : A) × (i < length xs) × (slice_get xs i ≡ Some x) × (get_or xs i x ≡ x)).
        let is : number (get_or xs i q.0) ≡ n = ranked _ n _ (sym (equal q.0)) in
        let same : number q.0 ≡ n = ap number (sym q.3) ∙ is in
        record { within = in_range; found = subst (λ m. numbered number xs m ≡ Some q.0) same (found_itself xs r i q.0 q.2) ∙ sym q.2 })
        (λ (q : (length xs ≤ i) × (slice_get xs i ≡ None)). absurd (omega arith))
        (slice_get_cases xs i).1
    searched (Err i) in_range parted =
        found_none xs n
        (λ k d lt.
        ⊎_elim (λ (low : k < i). let below = ranked (number (get_or xs k d)) n _ (sym ((parted comparisons_rise).0 k d (omega arith) low)) in omega arith)
        (λ (high : i ≤ k). let above = ranked (number (get_or xs k d)) n _ (sym ((parted comparisons_rise).1 k d high lt)) in omega arith) (cases_lt k i))

  -- ---- a change or a removal at a place

  changed_none : (f : A → A) (xs : List A) (n : ℕ) → Lacks n xs → changed_at f n xs ≡ xs
  changed_none f [] n all = refl
  changed_none f (y ∷ xs) n all = rw (ne_eqb (number y) n (All-head (λ x. number x ≢ n) y xs all), changed_none f xs n (All-tail (λ x. number x ≢ n) y xs all)) refl

  without_none : (xs : List A) (n : ℕ) → Lacks n xs → without number n xs ≡ xs
  without_none [] n all = refl
  without_none (y ∷ xs) n all = rw (ne_eqb (number y) n (All-head (λ x. number x ≢ n) y xs all), without_none xs n (All-tail (λ x. number x ≢ n) y xs all)) refl

  set_at : (f : A → A) (xs : List A) (n i : ℕ) (x : A) → Rises (by_number number) xs → slice_get xs i ≡ Some x → number x ≡ n → set xs i (f x) ≡ changed_at f n xs
  set_at f [] n i x r is same = absurd (cc is)
  set_at f (y ∷ xs) n zero x r is same =
      let it : y ≡ x = cc is in
      let e : number y ≡ n = ap number it ∙ same in
      rw (eq-eqb (number y) n e, changed_none f xs n (others y xs n e r.0), it) refl
  set_at f (y ∷ xs) n (suc i) x r is same =
      let lt : i < length xs = slice_get_within xs i x is in
      let read : get_or xs i x ≡ x = get_or_from_slice_get xs i x x is in
      let below : number y < number (get_or xs i x) = ranked (number y) (number (get_or xs i x)) Less (sym (r.0 i x lt)) in
      let e : number (get_or xs i x) ≡ n = ap number read ∙ same in
      rw (ne_eqb (number y) n (omega arith)) (ap (λ l. y ∷ l) (set_at f xs n i x r.1 is same))

  removed_at : (xs : List A) (n i : ℕ) (x : A) → Rises (by_number number) xs → slice_get xs i ≡ Some x → number x ≡ n → remove xs i ≡ without number n xs
  removed_at [] n i x r is same = absurd (cc is)
  removed_at (y ∷ xs) n zero x r is same =
      let it : y ≡ x = cc is in
      let e : number y ≡ n = ap number it ∙ same in
      rw (eq-eqb (number y) n e) (sym (without_none xs n (others y xs n e r.0)))
  removed_at (y ∷ xs) n (suc i) x r is same =
      let lt : i < length xs = slice_get_within xs i x is in
      let read : get_or xs i x ≡ x = get_or_from_slice_get xs i x x is in
      let below : number y < number (get_or xs i x) = ranked (number y) (number (get_or xs i x)) Less (sym (r.0 i x lt)) in
      let e : number (get_or xs i x) ≡ n = ap number read ∙ same in
      rw (ne_eqb (number y) n (omega arith)) (ap (λ l. y ∷ l) (removed_at xs n i x r.1 is same))

  -- rising numbers still rise
  rises_changed : (f : A → A) → ((x : A) → number (f x) ≡ number x) → (xs : List A) (n : ℕ) → Rises (by_number number) xs → Rises (by_number number) (changed_at f n xs)
  rises_changed f keeps xs n r =
      rises_map (by_number number) (λ x. Unit {0}) (λ x. cond (number x == n) (f x) x) (λ x y _ _. rw (same x (number x == n), same y (number y == n)) refl) xs (λ k d lt. tt) r
    where
      same : (x : A) (b : Bool) → number (cond b (f x) x) ≡ number x
      same x true = keeps x
      same x false = refl

  module _ (xs : List A) (r : Rises (by_number number) xs) (n place : ℕ) (at : IsIndexOf number xs n place) where
    -- the item at the place
    pub there : (x : A) → x ≡ get_or xs place x → slice_get xs place ≡ Some x
    there x read = slice_get-get_or xs place x at.within ∙ ap (λ y. Some y) (sym read)

    -- it is changed
    pub changed : (x : A) → x ≡ get_or xs place x → (f : A → A) → set xs place (f x) ≡ changed_at f n xs
    changed x read f = set_at f xs n place x r (there x read) (found_number xs n x (at.found ∙ there x read))

    pub changed_rises : (x : A) → x ≡ get_or xs place x → (f : A → A) → ((y : A) → number (f y) ≡ number y) → Rises (by_number number) (set xs place (f x))
    changed_rises x read f keeps = subst (Rises (by_number number)) (sym (changed x read f)) (rises_changed f keeps xs n r)

    -- and removed
    pub removed : (x : A) → x ≡ get_or xs place x → remove xs place ≡ without number n xs
    removed x read = removed_at xs n place x r (there x read) (found_number xs n x (at.found ∙ there x read))

    pub removed_rises : (x : A) → x ≡ get_or xs place x → Rises (by_number number) (remove xs place)
    removed_rises x read = subst (Rises (by_number number)) (sym (removed x read)) (rises_filter (by_number number) (λ y. not (number y == n)) xs r)

  -- a change or a removal of what isn't there
  pub unchanged : (f : A → A) (xs : List A) (n : ℕ) → numbered number xs n ≡ None → xs ≡ changed_at f n xs
  unchanged f xs n none = sym (changed_none f xs n (absent xs n none))

  pub unremoved : (xs : List A) (n : ℕ) → numbered number xs n ≡ None → xs ≡ without number n xs
  unremoved xs n none = sym (without_none xs n (absent xs n none))

  -- ---- the numbers alone

  -- an item is found exactly where the number is one of theirs
  pub found_among : (xs : List A) (n : ℕ) → list_any (λ m. m == n) (map number xs) ≡ is_some (numbered number xs n)
  found_among [] n = refl
  found_among (y ∷ xs) n = one (number y == n) (found_among xs n)
    where
      one : (b : Bool) → list_any (λ m. m == n) (map number xs) ≡ is_some (numbered number xs n) → (b || list_any (λ m. m == n) (map number xs)) ≡ is_some (cond b (Some y) (numbered number xs n))
      one true rest = refl
      one false rest = rest

  pub found_by_test : (xs : List A) (n : ℕ) → list_any (λ x. number x == n) xs ≡ is_some (numbered number xs n)
  found_by_test [] n = refl
  found_by_test (y ∷ xs) n = one (number y == n) (found_by_test xs n)
    where
      one : (b : Bool) → list_any (λ x. number x == n) xs ≡ is_some (numbered number xs n) → (b || list_any (λ x. number x == n) xs) ≡ is_some (cond b (Some y) (numbered number xs n))
      one true rest = refl
      one false rest = rest

  -- a change leaves them
  pub numbers_changed : (f : A → A) → ((x : A) → number (f x) ≡ number x) → (xs : List A) (n : ℕ) → map number (changed_at f n xs) ≡ map number xs
  numbers_changed f keeps [] n = refl
  numbers_changed f keeps (y ∷ xs) n = rw (same (number y == n), numbers_changed f keeps xs n) refl
    where
      same : (b : Bool) → number (cond b (f y) y) ≡ number y
      same true = keeps y
      same false = refl

  -- a removal takes out its own
  pub numbers_without : (xs : List A) (n : ℕ) → map number (without number n xs) ≡ filter (λ m. not (m == n)) (map number xs)
  numbers_without [] n = refl
  numbers_without (y ∷ xs) n = one (number y == n) (numbers_without xs n)
    where
      one : (b : Bool) → map number (without number n xs) ≡ filter (λ m. not (m == n)) (map number xs)
          → map number (cond (not b) (y ∷ without number n xs) (without number n xs)) ≡ cond (not b) (number y ∷ filter (λ m. not (m == n)) (map number xs)) (filter (λ m. not (m == n)) (map number xs))
      one true rest = rest
      one false rest = ap (λ l. number y ∷ l) rest

  -- ---- what holds of each

  -- of what is found
  pub found_holds : (P : A → Type 0) (xs : List A) (n : ℕ) (x : A) → All P xs → numbered number xs n ≡ Some x → P x
  found_holds P [] n x all is = absurd (cc is)
  found_holds P (y ∷ xs) n x all is = one (number y == n) is (found_holds P xs n x (All-tail P y xs all))
    where
      one : (b : Bool) → cond b (Some y) (numbered number xs n) ≡ Some x → (numbered number xs n ≡ Some x → P x) → P x
      one true found rest = let same : y ≡ x = cc found in subst P same (All-head P y xs all)
      one false found rest = rest found

  -- of an item whose number is one of theirs
  pub member_holds : (P : A → Type 0) (xs : List A) (n : ℕ) → All P xs → is_some (numbered number xs n) ≡ true → (x : A) × (numbered number xs n ≡ Some x) × (number x ≡ n) × P x
  member_holds P xs n all here = one (numbered number xs n) refl here
    where
      one : (o : Option A) → numbered number xs n ≡ o → is_some o ≡ true → (x : A) × (numbered number xs n ≡ Some x) × (number x ≡ n) × P x
      one None is on = absurd (cc on)
      one (Some x) is on = (x, is, found_number xs n x is, found_holds P xs n x all is)

  -- after a change
  pub all_changed : (P Q : A → Type 0) (f : A → A) (xs : List A) (n : ℕ) → ((x : A) → number x ≡ n → P x → Q (f x)) → ((x : A) → number x ≢ n → P x → Q x) → All P xs → All Q (changed_at f n xs)
  all_changed P Q f [] n here there all = All-nil Q
  all_changed P Q f (y ∷ xs) n here there all =
      All-cons Q _ (changed_at f n xs) (one (number y == n) refl (All-head P y xs all)) (all_changed P Q f xs n here there (All-tail P y xs all))
    where
      one : (b : Bool) → (number y == n) ≡ b → P y → Q (cond b (f y) y)
      one true e p = here y (eqb-true _ _ e) p
      one false e p = there y (eqb-false _ _ e) p

  -- and after a removal
  pub all_without : (P Q : A → Type 0) (xs : List A) (n : ℕ) → ((x : A) → number x ≢ n → P x → Q x) → All P xs → All Q (without number n xs)
  all_without P Q [] n there all = All-nil Q
  all_without P Q (y ∷ xs) n there all = one (number y == n) refl (all_without P Q xs n there (All-tail P y xs all))
    where
      one : (b : Bool) → (number y == n) ≡ b → All Q (without number n xs) → All Q (cond (not b) (y ∷ without number n xs) (without number n xs))
      one true e rest = rest
      one false e rest = All-cons Q y (without number n xs) (there y (eqb-false _ _ e) (All-head P y xs all)) rest

  -- another number is there as before
  pub any_without : (xs : List A) (n k : ℕ) → k ≢ n → list_any (λ x. number x == k) xs ≡ true → list_any (λ x. number x == k) (without number n xs) ≡ true
  any_without [] n k ne on = on
  any_without (y ∷ xs) n k ne on = one (number y == n) refl on (any_without xs n k ne)
    where
      one : (b : Bool) → (number y == n) ≡ b → (number y == k || list_any (λ x. number x == k) xs) ≡ true
          → (list_any (λ x. number x == k) xs ≡ true → list_any (λ x. number x == k) (without number n xs) ≡ true)
          → list_any (λ x. number x == k) (cond (not b) (y ∷ without number n xs) (without number n xs)) ≡ true
      one true e was rest = let is : number y ≡ n = eqb-true _ _ e in let off : (number y == k) ≡ false = ne_eqb _ _ (omega arith) in rest (rw off at was)
      one false e was rest = two (number y == k) was
        where
          two : (c : Bool) → (c || list_any (λ x. number x == k) xs) ≡ true → (c || list_any (λ x. number x == k) (without number n xs)) ≡ true
          two true was' = refl
          two false was' = rest was'

  pub any_changed : (f : A → A) → ((x : A) → number (f x) ≡ number x) → (xs : List A) (n k : ℕ) → list_any (λ x. number x == k) (changed_at f n xs) ≡ list_any (λ x. number x == k) xs
  any_changed f keeps [] n k = refl
  any_changed f keeps (y ∷ xs) n k = rw (same (number y == n), any_changed f keeps xs n k) refl
    where
      same : (b : Bool) → number (cond b (f y) y) ≡ number y
      same true = keeps y
      same false = refl
