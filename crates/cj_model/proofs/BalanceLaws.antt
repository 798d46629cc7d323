-- Laws of balancing: a pick is the only one, and each policy's comparison is an order.
use Rattle.std.proofs.Common.{◌≡◌, ℕ, ◌+◌, ◌-◌, ◌*◌, ◌^◌, ◌==◌, ◌<◌, ◌≤◌, Bool, true, false, List, nat_lt, slice_index, None, Some, ap, sym, ◌∙◌, ⊎_elim, arith}
use Rattle.std.proofs.Math.Nat.{mul-le-mul_right, mul-lt-mul_of_pos_right}
use Rattle.std.proofs.lemmas.Bool.{cases_lt, both_ways, ltb-false, ltb-true, le-ltb}
use Rattle.std.proofs.lemmas.Bool.Decides.{nat_tests}
use Rattle.std.proofs.lemmas.Nat.Bits.{bit_at_above}
use Rattle.cj_model.specs.declared.policy.Policy.{Policy}
use Rattle.cj_model.specs.declared.policy.Policy.TheVariants.{RoundRobin, Weighted, LeastPending}
use Rattle.cj_model.specs.declared.limits.TheConstants.{BACKEND_LIMIT}
use Rattle.cj_model.specs.Cluster.Masks.{in_mask}
use Rattle.cj_model.specs.Cluster.Balancing.{BalanceState, IsFirst, Picks, is_ahead, picked, steps_from, steps_to}

-- of two first candidates neither has the lower number
none_lower : (ahead : ℕ → ℕ → Bool) (candidates b c : ℕ) → IsFirst ahead candidates b → IsFirst ahead candidates c → b < c → ⊥
none_lower ahead candidates b c p q lt = both_ways (ahead c b) (p.none_ahead c q.candidate) (q.lower b lt p.candidate)

-- there is one first candidate at most
pub first_is_one : (ahead : ℕ → ℕ → Bool) (candidates b c : ℕ) → IsFirst ahead candidates b → IsFirst ahead candidates c → b ≡ c
first_is_one ahead candidates b c p q =
    let low : b < c → ⊥ = none_lower ahead candidates b c p q in
    let high : c < b → ⊥ = none_lower ahead candidates c b q p in
    omega arith

-- two picks from one state are equal, and lead to one state
pub picks_one : (policy : Policy) (weights : List ℕ) (s : BalanceState) (candidates b c : ℕ) (y z : BalanceState) → Picks policy weights s candidates b y → Picks policy weights s candidates c z → (b ≡ c) × (y ≡ z)
picks_one policy weights s candidates b c y z p q =
    let e : b ≡ c = first_is_one (is_ahead policy weights s) candidates b c p.first q.first in
    (e, p.stands ∙ ap (λ n. picked policy s n) e ∙ sym q.stands)

-- ---- what the round robin picks

-- from a backend to a higher one it is their difference, and to another one `BACKEND_LIMIT` more
steps_up : (l b : ℕ) → l < b → steps_from l b ≡ b - l
steps_up l b lt = grind (arith, nat_tests)

steps_round : (l b : ℕ) → b ≤ l → steps_from l b ≡ BACKEND_LIMIT + b - l
steps_round l b le = grind (arith, nat_tests)

steps_in_turn : (l b k : ℕ) → l < BACKEND_LIMIT → b < BACKEND_LIMIT → k < BACKEND_LIMIT → steps_from l b ≤ steps_from l k → (l < k → (l < b) × (b ≤ k)) × (b ≤ l → b ≤ k)
steps_in_turn l b k small p q le = (
  λ above.
      let e = steps_up l k above in
      ⊎_elim
      (λ (lt : l < b). let d = steps_up l b lt in (lt, omega arith))
      (λ (low : b ≤ l). let d = steps_round l b low in absurd (omega arith))
      (cases_lt l b),
  λ low.
      let d = steps_round l b low in
      ⊎_elim
      (λ (above : l < k). omega arith)
      (λ (under : k ≤ l). let e = steps_round l k under in omega arith)
      (cases_lt l k),
)

-- candidates below `BACKEND_LIMIT` have no other number
pub candidates_below : (candidates k : ℕ) → candidates < 2 ^ BACKEND_LIMIT → in_mask candidates k ≡ true → k < BACKEND_LIMIT
candidates_below candidates k fits here =
    ⊎_elim
    (λ (lt : k < BACKEND_LIMIT). lt)
    (λ (le : BACKEND_LIMIT ≤ k). let none : in_mask candidates k ≡ false = ap (λ n. n == 1) (bit_at_above candidates BACKEND_LIMIT k fits le) in absurd (both_ways (in_mask candidates k) none here))
    (cases_lt k BACKEND_LIMIT)

-- the round robin goes on after the last picked: where a candidate is above that one, it picks the lowest such one, and else the lowest of all
pub next_in_turn : (weights : List ℕ) (s after : BalanceState) (candidates l b k : ℕ) → s.last ≡ Some l → l < BACKEND_LIMIT → candidates < 2 ^ BACKEND_LIMIT → Picks RoundRobin weights s candidates b after → in_mask candidates k ≡ true → (l < k → (l < b) × (b ≤ k)) × (b ≤ l → b ≤ k)
next_in_turn weights s after candidates l b k e small fits p here =
    let le : steps_to s.last b ≤ steps_to s.last k = ltb-false (steps_to s.last k) (steps_to s.last b) (p.first.none_ahead k here) in
    steps_in_turn l b k small (candidates_below candidates b fits p.first.candidate) (candidates_below candidates k fits here) (rw e at le)

-- and at first it picks the lowest of all
pub lowest_at_first : (weights : List ℕ) (s after : BalanceState) (candidates b k : ℕ) → s.last ≡ None → Picks RoundRobin weights s candidates b after → in_mask candidates k ≡ true → b ≤ k
lowest_at_first weights s after candidates b k e p here =
    let le : steps_to s.last b ≤ steps_to s.last k = ltb-false (steps_to s.last k) (steps_to s.last b) (p.first.none_ahead k here) in
    rw e at le

-- ---- the order of numbers, and of fractions

less_one_way : (x y : ℕ) → nat_lt x y ≡ true → nat_lt y x ≡ false
less_one_way x y h = let lt = ltb-true x y h in le-ltb y x (omega arith)

less_chain : (x y z : ℕ) → nat_lt x y ≡ false → nat_lt y z ≡ false → nat_lt x z ≡ false
less_chain x y z p q = let a = ltb-false x y p in let b = ltb-false y z q in le-ltb x z (omega arith)

-- a fraction with no numerator below that of the second, which has none below that of the third
fractions_chain : (a b c u v w : ℕ) → 0 < v → b * u ≤ a * v → c * v ≤ b * w → c * u ≤ a * w
fractions_chain a b c u v w pos p q =
    ⊎_elim
    (λ (lt : a * w < c * u).
    let more : a * w * v < c * u * v = mul-lt-mul_of_pos_right lt pos in
    let first : b * u * w ≤ a * v * w = mul-le-mul_right w p in
    let second : c * v * u ≤ b * w * u = mul-le-mul_right u q in
    absurd (omega arith))
    (λ (le : c * u ≤ a * w). le)
    (cases_lt (a * w) (c * u))

fraction_less_chain : (a b c u v w : ℕ) → 0 < v → nat_lt (a * v) (b * u) ≡ false → nat_lt (b * w) (c * v) ≡ false → nat_lt (a * w) (c * u) ≡ false
fraction_less_chain a b c u v w pos p q =
    le-ltb (a * w) (c * u) (fractions_chain a b c u v w pos (ltb-false (a * v) (b * u) p) (ltb-false (b * w) (c * v) q))

-- ---- the order of claims

-- of two backends one at most is ahead
pub ahead_one_way : (policy : Policy) (weights : List ℕ) (s : BalanceState) (a b : ℕ) → is_ahead policy weights s a b ≡ true → is_ahead policy weights s b a ≡ false
ahead_one_way RoundRobin weights s a b h = less_one_way (steps_to s.last a) (steps_to s.last b) h
ahead_one_way Weighted weights s a b h = less_one_way (slice_index s.used a * slice_index weights b) (slice_index s.used b * slice_index weights a) h
ahead_one_way LeastPending weights s a b h = less_one_way (slice_index s.pending a) (slice_index s.pending b) h

-- a backend that isn't ahead of another, which has a weight and isn't ahead of a third, isn't ahead of the third
pub ahead_chain : (policy : Policy) (weights : List ℕ) (s : BalanceState) (a b c : ℕ) → 0 < slice_index weights b → is_ahead policy weights s a b ≡ false → is_ahead policy weights s b c ≡ false → is_ahead policy weights s a c ≡ false
ahead_chain RoundRobin weights s a b c pos p q = less_chain (steps_to s.last a) (steps_to s.last b) (steps_to s.last c) p q
ahead_chain Weighted weights s a b c pos p q =
    fraction_less_chain (slice_index s.used a) (slice_index s.used b) (slice_index s.used c) (slice_index weights a) (slice_index weights b) (slice_index weights c) pos p q
ahead_chain LeastPending weights s a b c pos p q = less_chain (slice_index s.pending a) (slice_index s.pending b) (slice_index s.pending c) p q
