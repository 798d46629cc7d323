-- What masks of 32 bits have.
use Rattle.std.proofs.Common.{◌≡◌, ◌↔◌, ℕ, ◌-◌, ◌*◌, ◌^◌, ◌%◌, ◌<◌, ◌≤◌, ◌==◌, true, nat_lt, ap, sym, ◌∙◌, arith, ⊎_elim}
use Rattle.std.specs.Int.{bit_at}
use Rattle.std.proofs.lemmas.Bool.{cases_lt, cases_eq, eq-eqb, eqb-true, lt-ltb, le-ltb}
use Rattle.std.proofs.lemmas.Nat.Bits.{bit_at-lt, bit_at_ones, bit_at_ones_above, same_from_bits}
use Rattle.cj_model.specs.declared.limits.TheConstants.{BACKEND_LIMIT}
use Rattle.cj_model.specs.Cluster.Masks.{in_mask}
use Rattle.cj_model.proofs.MaskBits.{has-shifted, shifted_one}

-- the ones below a place
pub has_first : (n c : ℕ) → n ≤ BACKEND_LIMIT → in_mask (1 * 2 ^ n % 4294967296 - 1) c ≡ nat_lt c n
has_first n c le =
    let lt : n < 32 = omega arith in
    ap (λ m. in_mask (m - 1) c) (shifted_one n lt)
    ∙ ⊎_elim
    (λ (below : c < n). ap (λ x. x == 1) (bit_at_ones n c below) ∙ sym (lt-ltb c n below))
    (λ (above : n ≤ c). ap (λ x. x == 1) (bit_at_ones_above n c above) ∙ sym (le-ltb c n above))
    (cases_lt c n)

-- a bit is known by whether it is 1
same_bit : (x y : ℕ) → x < 2 → y < 2 → (x == 1) ≡ (y == 1) → x ≡ y
same_bit x y p q e = ⊎_elim
    (λ (one : y ≡ 1). eqb-true x 1 (e ∙ eq-eqb y 1 one) ∙ sym one)
    (λ (no : y ≡ 1 → ⊥). ⊎_elim
    (λ (one : x ≡ 1). absurd (no (eqb-true y 1 (sym e ∙ eq-eqb x 1 one))))
    (λ (nor : x ≡ 1 → ⊥). omega arith)
    (cases_eq x 1))
    (cases_eq y 1)

-- masks that have the same backends are one
pub same_mask : (m n : ℕ) → ((c : ℕ) → in_mask m c ≡ in_mask n c) → m ≡ n
same_mask m n h = same_from_bits m n (λ i. same_bit (bit_at m i) (bit_at n i) (bit_at-lt m i) (bit_at-lt n i) (h i))

-- the mask of one backend
pub lone_bit : (m b : ℕ) → b < 32 → ((m == 1 * 2 ^ b % 4294967296) ≡ true) ↔ ((c : ℕ) → in_mask m c ≡ (c == b))
lone_bit m b lt = (
  λ e c. ap (λ k. in_mask k c) (eqb-true m (1 * 2 ^ b % 4294967296) e) ∙ has-shifted b c lt,
  λ h. eq-eqb m (1 * 2 ^ b % 4294967296) (same_mask m (1 * 2 ^ b % 4294967296) (λ c. h c ∙ sym (has-shifted b c lt))),
)
