-- What a mask of 32 bits has after the operations of a processor.
use Rattle.std.proofs.Common.{◌≡◌, ℕ, zero, suc, w32, ◌-◌, ◌*◌, ◌^◌, ◌%◌, ◌<◌, ◌≤◌, ◌==◌, ◌&&◌, ◌||◌, not, false, refl, ap, sym, ◌∙◌, arith, ⊎_elim, bit_and, bit_or, min, max}
use Rattle.std.specs.Int.{bit_at}
use Rattle.std.proofs.lemmas.Bool.{cases_eq, cases_lt, eq-eqb, ne_eqb}
use Rattle.std.proofs.lemmas.Nat.Bits.{bit_at_and, bit_at_or, bit_at_not, bit_at-lt, bit_at_above, bit_at-pow_same, bit_at-pow_other}
use Rattle.std.proofs.lemmas.Nat.{or_lt, pow_below}
use Rattle.std.proofs.Math.Nat.{mod-eq_of_lt}
use Rattle.cj_model.specs.Cluster.Masks.{in_mask}

-- what holds of each two bits
of_bits : (P : ℕ → ℕ → Type 0) → P 0 0 → P 0 1 → P 1 0 → P 1 1 → (x y : ℕ) → x < 2 → y < 2 → P x y
of_bits P none right left both zero zero p q = none
of_bits P none right left both zero (suc zero) p q = right
of_bits P none right left both (suc zero) zero p q = left
of_bits P none right left both (suc zero) (suc zero) p q = both
of_bits P none right left both (suc (suc x)) y p q = absurd (omega arith)
of_bits P none right left both zero (suc (suc y)) p q = absurd (omega arith)
of_bits P none right left both (suc zero) (suc (suc y)) p q = absurd (omega arith)

-- both masks have what their conjunction has
pub has-and : (m n b : ℕ) → in_mask (bit_and m n) b ≡ (in_mask m b && in_mask n b)
has-and m n b =
    ap (λ x. x == 1) (bit_at_and m n b)
    ∙ of_bits (λ x y. (min x y == 1) ≡ ((x == 1) && (y == 1))) refl refl refl refl (bit_at m b) (bit_at n b) (bit_at-lt m b) (bit_at-lt n b)

-- one of the masks has what their union has
pub has-or : (m n b : ℕ) → in_mask (bit_or m n) b ≡ (in_mask m b || in_mask n b)
has-or m n b =
    ap (λ x. x == 1) (bit_at_or m n b)
    ∙ of_bits (λ x y. (max x y == 1) ≡ ((x == 1) || (y == 1))) refl refl refl refl (bit_at m b) (bit_at n b) (bit_at-lt m b) (bit_at-lt n b)

-- a mask of 32 bits has no backend from 32 on
pub has_above : (m b : ℕ) → m < 2 ^ 32 → 32 ≤ b → in_mask m b ≡ false
has_above m b lt le = ap (λ x. x == 1) (bit_at_above m 32 b lt le)

-- the complement has the other backends below 32
pub has-not : (m b : ℕ) → m < 2 ^ 32 → b < 32 → in_mask (4294967295 - m) b ≡ not (in_mask m b)
has-not m b lt below = ap (λ x. x == 1) (bit_at_not w32 m b lt below) ∙ of_minus (bit_at m b) (bit_at-lt m b)
  where
    of_minus : (x : ℕ) → x < 2 → (1 - x == 1) ≡ not (x == 1)
    of_minus zero p = refl
    of_minus (suc zero) p = refl
    of_minus (suc (suc x)) p = absurd (omega arith)

-- what is left of a mask without another
has-and_not : (m n b : ℕ) → m < 2 ^ 32 → n < 2 ^ 32 → in_mask (bit_and m (4294967295 - n)) b ≡ (in_mask m b && not (in_mask n b))
has-and_not m n b fits lt =
    has-and m (4294967295 - n) b
    ∙ ⊎_elim
    (λ (below : b < 32). ap (λ x. in_mask m b && x) (has-not n b lt below))
    (λ (above : 32 ≤ b). let none : in_mask m b ≡ false = has_above m b fits above in rw none refl)
    (cases_lt b 32)

-- what is left of a mask without two others
pub has_without : (m f s b : ℕ) → m < 2 ^ 32 → f < 2 ^ 32 → s < 2 ^ 32 → in_mask (bit_and m (4294967295 - bit_or f s)) b ≡ (in_mask m b && not (in_mask f b || in_mask s b))
has_without m f s b fits p q = has-and_not m (bit_or f s) b fits (or_lt 32 f s p q) ∙ ap (λ x. in_mask m b && not x) (has-or f s b)

-- a shifted 1 stays below 32 bits
pub shifted_one : (n : ℕ) → n < 32 → 1 * 2 ^ n % 4294967296 ≡ 2 ^ n
shifted_one n lt = let p = pow_below n 32 lt in let e : 1 * 2 ^ n ≡ 2 ^ n = omega arith in rw e (mod-eq_of_lt p)

-- the mask of one backend
pub has-shifted : (b k : ℕ) → b < 32 → in_mask (1 * 2 ^ b % 4294967296) k ≡ (k == b)
has-shifted b k lt =
    ap (λ x. in_mask x k) (shifted_one b lt)
    ∙ ⊎_elim
    (λ (e : k ≡ b). rw e (ap (λ x. x == 1) (bit_at-pow_same b) ∙ sym (eq-eqb b b refl)))
    (λ (ne : k ≡ b → ⊥). ap (λ x. x == 1) (bit_at-pow_other b k ne) ∙ sym (ne_eqb k b ne))
    (cases_eq k b)

-- a mask with one backend cleared
pub has_cleared : (m b k : ℕ) → m < 2 ^ 32 → b < 32 → in_mask (bit_and m (4294967295 - 1 * 2 ^ b % 4294967296)) k ≡ (in_mask m k && not (k == b))
has_cleared m b k fits lt = has-and_not m (1 * 2 ^ b % 4294967296) k fits (omega arith) ∙ ap (λ x. in_mask m k && not x) (has-shifted b k lt)

-- a mask with one backend set
pub has_set : (m b k : ℕ) → b < 32 → in_mask (bit_or m (1 * 2 ^ b % 4294967296)) k ≡ (in_mask m k || k == b)
has_set m b k lt = has-or m (1 * 2 ^ b % 4294967296) k ∙ ap (λ x. in_mask m k || x) (has-shifted b k lt)
