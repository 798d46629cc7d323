-- Picks worked out.
use Rattle.std.proofs.Common.{◌≡◌, ℕ, zero, suc, ◌==◌, ◌<◌, true, false, List, [], ◌∷◌, replicate, refl, ap, arith, lit<}
use Rattle.std.proofs.lemmas.Bool.{both_ways}
use Rattle.std.proofs.lemmas.Nat.Bits.{bit_at_above}
use Rattle.cj_model.specs.declared.policy.Policy.{Policy}
use Rattle.cj_model.specs.declared.policy.Policy.TheVariants.{RoundRobin, Weighted, LeastPending}
use Rattle.cj_model.specs.Cluster.Masks.{in_mask}
use Rattle.cj_model.specs.Cluster.Balancing.{BalanceState, Picks, at_rest, is_ahead, picked}

-- backend 0 has the weight 2, and each other one 1
abbrev weights : List ℕ
weights = 2 ∷ replicate 15 1

-- from this state, with backends 0 and 1 as candidates each time, the policy picks these backends one after the other
abbrev ArePicked : Policy → BalanceState → List ℕ → Type 0
ArePicked policy s [] = Unit {0}
ArePicked policy s (b ∷ bs) = Picks policy weights s 3 b (picked policy s b) × ArePicked policy (picked policy s b) bs

-- the candidates of mask 3
of_two : (P : ℕ → Type 0) → P 0 → P 1 → (k : ℕ) → in_mask 3 k ≡ true → P k
of_two P a b zero h = a
of_two P a b (suc zero) h = b
of_two P a b (suc (suc k)) h =
    let none : in_mask 3 (suc (suc k)) ≡ false = ap (λ n. n == 1) (bit_at_above 3 2 (suc (suc k)) (lit< tt) (omega arith)) in
    absurd (both_ways (in_mask 3 (suc (suc k))) none h)

zero_picked : (policy : Policy) (s : BalanceState) → is_ahead policy weights s 0 0 ≡ false → is_ahead policy weights s 1 0 ≡ false → Picks policy weights s 3 0 (picked policy s 0)
zero_picked policy s itself other = record {
  first = record {
    candidate = refl;
    none_ahead = of_two (λ k. is_ahead policy weights s k 0 ≡ false) itself other;
    lower = λ k lt here. absurd (omega arith);
  };
  stands = refl;
}

one_picked : (policy : Policy) (s : BalanceState) → is_ahead policy weights s 0 1 ≡ false → is_ahead policy weights s 1 1 ≡ false → is_ahead policy weights s 1 0 ≡ true → Picks policy weights s 3 1 (picked policy s 1)
one_picked policy s other itself ahead = record {
  first = record {
    candidate = refl;
    none_ahead = of_two (λ k. is_ahead policy weights s k 1 ≡ false) other itself;
    lower = below_one (λ k. is_ahead policy weights s 1 k ≡ true) ahead;
  };
  stands = refl;
}
  where
    below_one : (P : ℕ → Type 0) → P 0 → (k : ℕ) → k < 1 → in_mask 3 k ≡ true → P k
    below_one P a zero lt here = a
    below_one P a (suc k) lt here = absurd (omega arith)

by_weight : ArePicked Weighted at_rest (0 ∷ 1 ∷ 0 ∷ 0 ∷ 1 ∷ 0 ∷ [])
by_weight =
    let low = zero_picked Weighted in
    let high = one_picked Weighted in
    (low _ refl refl, (high _ refl refl refl, (low _ refl refl, (low _ refl refl, (high _ refl refl refl, (low _ refl refl, tt))))))

round_again : ArePicked RoundRobin at_rest (0 ∷ 1 ∷ 0 ∷ [])
round_again = (zero_picked RoundRobin _ refl refl, (one_picked RoundRobin _ refl refl refl, (zero_picked RoundRobin _ refl refl, tt)))

-- with no read pending, and none begun between the picks
lowest_on_a_tie : ArePicked LeastPending at_rest (0 ∷ 0 ∷ [])
lowest_on_a_tie = (zero_picked LeastPending _ refl refl, (zero_picked LeastPending _ refl refl, tt))
