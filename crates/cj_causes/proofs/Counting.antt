-- How often the items of a list pass a test, where the list goes on.
use Rattle.std.proofs.Common.{◌≡◌, ℕ, zero, suc, ◌+◌, ◌≤◌, Bool, true, cond, List, [], ◌∷◌, ◌++◌, length, slice_get, count_by, Some, ap, sym, ◌∙◌, arith}
use mathlib.Core.List.{IsPrefix}
use Rattle.std.proofs.lemmas.List.Sums.{sum_by-append, sum_by-cons}

module _ {A : Type 0} (p : A → Bool) where
  pub count-cons : (x : A) (xs : List A) → count_by p (x ∷ xs) ≡ cond (p x) 1 0 + count_by p xs
  count-cons x xs = sum_by-cons (λ y. cond (p y) 1 0) x xs

  pub count-append : (xs ys : List A) → count_by p (xs ++ ys) ≡ count_by p xs + count_by p ys
  count-append xs ys = sum_by-append (λ x. cond (p x) 1 0) xs ys

  counts_one : (x : A) → p x ≡ true → cond {A = ℕ} (p x) 1 0 ≡ 1
  counts_one x on = ap (λ b. cond {A = ℕ} b 1 0) on

  -- one that passes is counted
  some_passes : (xs : List A) (k : ℕ) (x : A) → slice_get xs k ≡ Some x → p x ≡ true → 1 ≤ count_by p xs
  some_passes [] k x is on = absurd (cc is)
  some_passes (y ∷ xs) zero x is on = let same : y ≡ x = cc is in let one = counts_one y (ap p same ∙ on) in omega (arith, count-cons y xs, one)
  some_passes (y ∷ xs) (suc k) x is on = let later = some_passes xs k x is on in omega (arith, count-cons y xs, later)

  -- one that passes behind a list's beginning is counted besides
  passes_behind : (xs ys : List A) (k : ℕ) (x : A) → length xs ≤ k → slice_get (xs ++ ys) k ≡ Some x → p x ≡ true → count_by p xs + 1 ≤ count_by p (xs ++ ys)
  passes_behind [] ys k x past is on = let some = some_passes ys k x is on in omega (arith, some)
  passes_behind (y ∷ xs) ys zero x past is on = absurd (omega (arith, past))
  passes_behind (y ∷ xs) ys (suc k) x past is on =
      let later = passes_behind xs ys k x (omega (arith, past)) is on in omega (arith, count-cons y xs, count-cons y (xs ++ ys), later)

  pub one_behind : (xs ys : List A) (k : ℕ) (x : A) → IsPrefix xs ys → length xs ≤ k → slice_get ys k ≡ Some x → p x ≡ true → count_by p xs + 1 ≤ count_by p ys
  one_behind xs ys k x longer past is on =
      let whole = ap (count_by p) longer.1 in
      let more = passes_behind xs longer.0 k x past (ap (λ (zs : List A). slice_get zs k) longer.1 ∙ is) on in
      omega (arith, whole, more)

  -- a list has no fewer than its beginning
  pub fewer_before : (xs ys : List A) → IsPrefix xs ys → count_by p xs ≤ count_by p ys
  fewer_before xs ys longer = let whole = ap (count_by p) (sym longer.1) ∙ count-append xs longer.0 in omega (arith, whole)
