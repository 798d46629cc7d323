-- A walk over a list that looks for the only element that passes.
use Rattle.std.proofs.Common.{◌≡◌, ℕ, zero, suc, ◌+◌, ◌<◌, Bool, true, false, cond, not, List, [], ◌∷◌, length, take, get_or, ap, sym, ◌∙◌, subst, arith}
use Rattle.std.specs.Prelude.{nat_lt, count_by, position, is_some, IfSome}
use Rattle.std.specs.List.{position_or_len}
use Rattle.std.proofs.lemmas.Bool.{cond-true, lt-ltb}
use Rattle.std.proofs.lemmas.List.Sums.{sum_by-cons, count_by_more_yes, count_by_more_no}
use Rattle.cj_expr.proofs.Common.{None, Option, Some}

-- how many were found
abbrev pub how_many : Option ℕ → ℕ
how_many None = 0
how_many (Some n) = 1

-- what is found among the first i elements
pub record Found {X : Type 0} (p : X → Bool) (xs : List X) (i : ℕ) (found : Option ℕ) : Type 0 where
  pub count : count_by p (take i xs) ≡ how_many found
  pub place : IfSome found (λ n. position p xs ≡ Some n)

module _ {X : Type 0} (p : X → Bool) where
  first_place : (xs : List X) (i : ℕ) (d : X) → i < length xs → count_by p (take i xs) ≡ 0 → p (get_or xs i d) ≡ true → position_or_len p xs ≡ i
  first_place [] i d lt none t = absurd (omega (arith, lt))
  first_place (x ∷ xs) zero d lt none t = ap (λ (b : Bool). cond (not b) (1 + position_or_len p xs) 0) t
  first_place (x ∷ xs) (suc i) d lt none t =
      let split : cond (p x) 1 0 + count_by p (take i xs) ≡ 0 = sym (sum_by-cons (λ y. cond (p y) 1 0) x (take i xs)) ∙ none in
      elim (p x) as (λ b. cond b 1 0 + count_by p (take i xs) ≡ 0 → cond (not b) (1 + position_or_len p xs) 0 ≡ suc i) [
        | true ↦ λ e. absurd (omega (arith, e))
        | false ↦ λ e. ap (λ n. 1 + n) (first_place xs i d (omega (arith, lt)) (omega (arith, e)) t) ∙ omega arith
      ] split

  -- the first that passes
  pub found_first : (xs : List X) (i : ℕ) (x : X) (found : Option ℕ) → i < length xs → x ≡ get_or xs i x → true ≡ p x → false ≡ is_some found → Found p xs i found → Found p xs (i + 1) (Some i)
  found_first xs i x (Some n) lt is t none f = cc none
  found_first xs i x None lt is t none f =
      let u : p (get_or xs i x) ≡ true = subst (λ y. p y ≡ true) is (sym t) in
      record {
        count = count_by_more_yes p xs i x lt u ∙ ap (λ n. n + 1) f.count;
        place = ap (λ n. cond (nat_lt n (length xs)) (Some n) None) (first_place xs i x lt f.count u) ∙ cond-true _ _ _ (lt-ltb i (length xs) lt);
      }

  -- one that does not pass
  pub found_same : (xs : List X) (i : ℕ) (x : X) (found : Option ℕ) → i < length xs → x ≡ get_or xs i x → false ≡ p x → Found p xs i found → Found p xs (i + 1) found
  found_same xs i x found lt is t f = record {
    count = count_by_more_no p xs i x lt (subst (λ y. p y ≡ false) is (sym t)) ∙ f.count;
    place = f.place;
  }
