-- The first of the candidates, one number after the other.
use Rattle.std.proofs.Common.{◌≡◌, ℕ, ◌+◌, ◌-◌, ◌^◌, ◌/◌, ◌%◌, ◌==◌, ◌<◌, ◌≤◌, Bool, true, false, List, ap, sym, ◌∙◌, ⊎_elim, arith, below_more}
use Rattle.std.specs.declared.option.Option.{Option}
use Rattle.std.specs.declared.option.Option.TheVariants.{None, Some}
use Rattle.std.specs.Int.{bit_at}
use Rattle.std.proofs.lemmas.Bool.{cases_Bool, cases_lt, both_ways}
use Rattle.std.proofs.lemmas.Nat.{shr-shr}
use Rattle.std.proofs.lemmas.Nat.Bits.{bit_at_above, bit_at-zero}
use Rattle.cj_model.specs.declared.policy.Policy.{Policy}
use Rattle.cj_model.specs.Cluster.Masks.{in_mask}
use Rattle.cj_model.specs.Cluster.Balancing.{BalanceState, IsFirst, is_ahead}
use Rattle.cj_model.proofs.BalanceLaws.{ahead_one_way, ahead_chain, candidates_below}
use Rattle.cj_model.proofs.Masks.{no_bit}
use Rattle.cj_balance.specs.Kept.{AreWeights, FirstBelow, IsFirstBelow}

-- where number i is a candidate and ahead of the first of those below it, it is ahead of all of them
ahead_of_all : (policy : Policy) (weights : List ℕ) (s : BalanceState) (candidates i b : ℕ) → AreWeights weights → i ≤ 16 → IsFirstBelow (is_ahead policy weights s) candidates i b → is_ahead policy weights s i b ≡ true → (k : ℕ) → k < i → in_mask candidates k ≡ true → is_ahead policy weights s i k ≡ true
ahead_of_all policy weights s candidates i b ok le f h k lt here =
    ⊎_elim
    (λ (yes : is_ahead policy weights s i k ≡ true). yes)
    (λ (no : is_ahead policy weights s i k ≡ false).
    let w = ok k (omega arith) in
    absurd (both_ways (is_ahead policy weights s i b) (ahead_chain policy weights s i k b w.0 no (f.none_ahead k lt here)) h))
    (cases_Bool (is_ahead policy weights s i k))

-- no backend is ahead of itself
not_ahead_of_itself : (policy : Policy) (weights : List ℕ) (s : BalanceState) (i : ℕ) → is_ahead policy weights s i i ≡ false
not_ahead_of_itself policy weights s i =
    ⊎_elim
    (λ (yes : is_ahead policy weights s i i ≡ true). ahead_one_way policy weights s i i yes)
    (λ (no : is_ahead policy weights s i i ≡ false). no)
    (cases_Bool (is_ahead policy weights s i i))

-- and it is then the first up to itself
pub first_taken : (policy : Policy) (weights : List ℕ) (s : BalanceState) (candidates i b : ℕ) → AreWeights weights → i < 16 → in_mask candidates i ≡ true → IsFirstBelow (is_ahead policy weights s) candidates i b → is_ahead policy weights s i b ≡ true → IsFirstBelow (is_ahead policy weights s) candidates (i + 1) i
first_taken policy weights s candidates i b ok lt here f h =
    let all = ahead_of_all policy weights s candidates i b ok (omega arith) f h in
    record {
      below = omega arith;
      candidate = here;
      none_ahead = below_more (λ k. in_mask candidates k ≡ true → is_ahead policy weights s k i ≡ false) i (λ k l y. ahead_one_way policy weights s i k (all k l y)) (λ _. not_ahead_of_itself policy weights s i);
      lower = all;
    }

-- a mask that is 0 once shifted by i has no bit from i on
none_behind : (candidates i k : ℕ) → candidates / 2 ^ i ≡ 0 → i ≤ k → in_mask candidates k ≡ false
none_behind candidates i k none le =
    ap (λ n. n == 1)
    (ap (bit_at candidates) (omega (arith, le))
    ∙ (ap (λ n. n % 2) (sym (shr-shr candidates i (k - i)))
    ∙ (ap (λ n. bit_at n (k - i)) none
    ∙ bit_at-zero (k - i))))

-- where the mask has none from i on, the first of those below i is the first of those below 16
pub first_of_few : (ahead : ℕ → ℕ → Bool) (candidates i : ℕ) (first : Option ℕ) → candidates / 2 ^ i ≡ 0 → i ≤ 16 → FirstBelow ahead candidates i first → FirstBelow ahead candidates 16 first
first_of_few ahead candidates i None few le none = λ k lt.
    ⊎_elim
    (λ (l : k < i). none k l)
    (λ (g : i ≤ k). none_behind candidates i k few g)
    (cases_lt k i)
first_of_few ahead candidates i (Some b) few le f = record {
  below = let below = f.below in omega (arith, le, below);
  candidate = f.candidate;
  none_ahead = λ k lt here.
      ⊎_elim
      (λ (l : k < i). f.none_ahead k l here)
      (λ (g : i ≤ k). absurd (both_ways (in_mask candidates k) (none_behind candidates i k few g) here))
      (cases_lt k i);
  lower = f.lower;
}

-- the first of those below 16 is the first of all
pub first_of_all : (ahead : ℕ → ℕ → Bool) (candidates b : ℕ) → candidates < 2 ^ 16 → IsFirstBelow ahead candidates 16 b → IsFirst ahead candidates b
first_of_all ahead candidates b fits f = record {
  candidate = f.candidate;
  none_ahead = λ k here. f.none_ahead k (candidates_below candidates k fits here) here;
  lower = f.lower;
}

-- a mask with none below 16 is 0
pub no_candidates : (candidates : ℕ) → candidates < 2 ^ 16 → ((k : ℕ) → k < 16 → in_mask candidates k ≡ false) → candidates ≡ 0
no_candidates candidates fits none =
    no_bit candidates (omega arith)
    (λ k.
    ⊎_elim
    (λ (lt : k < 16). none k lt)
    (λ (le : 16 ≤ k). ap (λ n. n == 1) (bit_at_above candidates 16 k fits le))
    (cases_lt k 16))
