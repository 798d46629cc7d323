-- Masks of backends.
use Rattle.std.proofs.Common.{◌≡◌, ◌≢◌, ℕ, ◌==◌, ◌<◌, ◌^◌, true, false, ap, ◌∙◌, arith, w32, ⊎_elim}
use Rattle.std.specs.Int.{bit_at, trailing_zeros}
use Rattle.std.specs.Prelude.{bit_or}
use Rattle.std.proofs.lemmas.Bool.{cases_eq, both_ways}
use Rattle.std.proofs.lemmas.Nat.Bits.{bit_at-zero, bit_at_or, bit_at-pow_same, bit_at-pow_other, bit_at-lt, bit_at-trailing_zeros}
use Rattle.cj_model.specs.Cluster.Masks.{in_mask, with_backend}

-- the empty mask has no backend
pub has-zero : (b : ℕ) → in_mask 0 b ≡ false
has-zero b = ap (λ n. n == 1) (bit_at-zero b)

-- a mask has the backend that it was given
pub has-with_same : (m b : ℕ) → in_mask (with_backend m b) b ≡ true
has-with_same m b =
    let e : bit_at (bit_or m (2 ^ b)) b ≡ 1 = bit_at_or m (2 ^ b) b ∙ (let l = bit_at-lt m b in let k = bit_at-pow_same b in omega arith) in
    ap (λ n. n == 1) e

-- and of each other one what it had
pub has-with_other : (m b i : ℕ) → i ≢ b → in_mask (with_backend m b) i ≡ in_mask m i
has-with_other m b i ne =
    let e : bit_at (bit_or m (2 ^ b)) i ≡ bit_at m i = bit_at_or m (2 ^ b) i ∙ (let k = bit_at-pow_other b i ne in omega arith) in
    ap (λ n. n == 1) e

-- a mask of 32 bits that is not 0 has a backend
pub some_bit : (m : ℕ) → m ≢ 0 → m < 2 ^ 32 → (b : ℕ) × (b < 32) × (in_mask m b ≡ true)
some_bit m ne lt =
    let t = bit_at-trailing_zeros w32 m (omega arith) lt in
    (trailing_zeros w32 m, t.0, ap (λ n. n == 1) t.1)

-- and one that has none is 0
pub no_bit : (m : ℕ) → m < 2 ^ 32 → ((b : ℕ) → in_mask m b ≡ false) → m ≡ 0
no_bit m lt none =
    ⊎_elim (λ (e : m ≡ 0). e) (λ (ne : m ≡ 0 → ⊥). let t = some_bit m ne lt in absurd (both_ways (in_mask m t.0) (none t.0) t.2)) (cases_eq m 0)
