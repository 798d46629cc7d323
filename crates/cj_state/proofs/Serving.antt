-- Who serves a query, and masks that cover one another.
use Rattle.std.proofs.Common.{◌≡◌, ℕ, ◌-◌, ◌<◌, ◌^◌, ◌==◌, ◌&&◌, ◌||◌, not, Bool, true, false, bit_and, refl, ap, sym, ◌∙◌, arith, ⊎_elim}
use Rattle.std.specs.Int.Bits.{or_zero_r}
use Rattle.std.proofs.Math.Bool.{or-false}
use Rattle.cj_state.proofs.Common.{and_cases, and_le_l, and_parts, both_ways, Core, eq-eqb, eqb-true, hosts_all, in_mask, is_enabled, IsTrue, not-false, Select, ◌↔◌}
use Rattle.cj_cluster.specs.Moves.Moves.{IsServingMask}
use Rattle.cj_model.proofs.Masks.{has-zero, no_bit}
use Rattle.cj_model.proofs.MaskBits.{has_without}
use Rattle.cj_book.specs.Books.{BookState, placement_at, is_candidate}
use Rattle.cj_state.specs.Effects.{Covers}

-- what is left of a mask without another
has-and_not : (m k b : ℕ) → m < 2 ^ 32 → k < 2 ^ 32 → in_mask (bit_and m (4294967295 - k)) b ≡ (in_mask m b && not (in_mask k b))
has-and_not m k b fits lt =
    ap (λ x. in_mask (bit_and m (4294967295 - x)) b) (sym (or_zero_r k))
    ∙ (has_without m k 0 b fits lt (omega arith) ∙ ap (λ x. in_mask m b && not x) (ap (λ x. in_mask k b || x) (has-zero b) ∙ or-false (in_mask k b)))

-- the candidates of the book are the backends that serve the query
pub candidates_serve : (c : Core) (book : BookState) (select : Select) (mask : ℕ) → c.placement ≡ placement_at book → c.history ≡ book.history
    → ((b : ℕ) → in_mask mask b ≡ is_candidate book select.tables b) → IsServingMask c select mask
candidates_serve c book select mask placed same is b =
    let q : in_mask mask b ≡ (is_enabled c.history b && hosts_all c.placement b select.tables) = rw (placed, same) (is b) in
    (λ serves. q ∙ rw (serves.0, serves.1) refl, λ on. and_parts _ _ (sym q ∙ on))

-- what is left of a mask without another is nothing exactly where that covers it
pub covers_is : (mask other : ℕ) → mask < 2 ^ 32 → other < 2 ^ 32 → IsTrue (bit_and other (4294967295 - mask) == 0) ↔ Covers mask other
covers_is mask other fits fits' = (
  λ t b there.
      let none : bit_and other (4294967295 - mask) ≡ 0 = eqb-true _ _ t in
      let off : (in_mask other b && not (in_mask mask b)) ≡ false = sym (has-and_not other mask b fits' fits) ∙ (ap (λ m. in_mask m b) none ∙ has-zero b) in
      ⊎_elim (λ (q : in_mask other b ≡ false). absurd (both_ways (in_mask other b) q there)) (λ (q : not (in_mask mask b) ≡ false). not-false (in_mask mask b) q) (and_cases (in_mask other b) (not (in_mask mask b)) off),
  λ all.
      eq-eqb _ _
      (no_bit (bit_and other (4294967295 - mask)) (let le = and_le_l other (4294967295 - mask) in omega arith)
      (λ b. has-and_not other mask b fits' fits ∙ one (in_mask other b) (in_mask mask b) (all b))),
)
  where
    one : (p q : Bool) → (p ≡ true → q ≡ true) → (p && not q) ≡ false
    one true true h = refl
    one true false h = absurd (cc (h refl))
    one false q h = refl
