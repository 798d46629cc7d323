use Rattle.std.proofs.Common.{◌≡◌, ◌<◌, ◌≤◌, ◌-◌, ◌*◌, ◌%◌, ◌^◌, ◌&&◌, not, ℕ, false, bit_and, ap, sym, ◌∙◌, arith, ⊎_elim, refl}
use Rattle.cj_state.proofs.Cited.{and_le_l, both_ways, cases_lt, eq-eqb, has_cleared, in_mask}
use Rattle.cj_state.proofs.cells.without_bit.Goals as goal

pub returns-clause-less : goal.returns-clause-less
returns-clause-less c =
    let m : ℕ = c.args.mask in
    let b : ℕ = c.args.b in
    let less : ℕ = bit_and m (4294967295 - 1 * 2 ^ b % 4294967296) in
    let le : less ≤ m = and_le_l m (4294967295 - 1 * 2 ^ b % 4294967296) in
    let gone : in_mask less b ≡ false = has_cleared m b b c.ranges.mask.fits c.requires.within ∙ (ap (λ t. in_mask m b && not t) (eq-eqb b b refl) ∙ rw c.requires.has refl) in
    ⊎_elim (λ (lt : less < m). lt)
    (λ (ge : m ≤ less). let e : less ≡ m = omega arith in absurd (both_ways (in_mask m b) (sym (ap (λ n. in_mask n b) e) ∙ gone) c.requires.has)) (cases_lt less m)

pub returns-clause-bits : goal.returns-clause-bits
returns-clause-bits c k = has_cleared c.args.mask c.args.b k c.ranges.mask.fits c.requires.within
