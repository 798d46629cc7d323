-- What holds of each view stays when one is set or added.
use Rattle.std.proofs.Common.{◌≡◌, ◌≢◌, ◌⊎◌, ℕ, zero, suc, List, [], ◌∷◌, ◌++◌, length, set, refl, sym, ap, subst, inl, inr, ⊎_elim, arith}
use mathlib.Core.Option.{some, some-injective, some-ne-none}
use lib.ListN.{get_elem?}
use Rattle.atomic_table.proofs.Lists.{at_set}
use Rattle.cj_board.specs.declared.view.SeatView.{SeatView}
use Rattle.cj_board.specs.Points.{AtEachSeat}

pub each_set : (F G : ℕ → SeatView → Type 0) (vs : List SeatView) (i : ℕ) (w : SeatView) → AtEachSeat vs F → ((j : ℕ) (v : SeatView) → j ≢ i → F j v → G j v) → G i w → AtEachSeat (set vs i w) G
each_set F G vs i w all others mine j u e =
    ⊎_elim
    (λ (x : (j ≡ i) × (w ≡ u)). subst (λ (y : ℕ × SeatView). G y.0 y.1) (λ k. (sym x.0 k, x.1 k)) mine)
    (λ (x : (j ≢ i) × (get_elem? vs j ≡ some u)). others j u x.0 (all j u x.1))
    (at_set vs i j w u e)

at_end : (vs : List SeatView) (w u : SeatView) (j : ℕ) → get_elem? (vs ++ w ∷ []) j ≡ some u → (get_elem? vs j ≡ some u) ⊎ ((j ≡ length vs) × (w ≡ u))
at_end [] w u zero e = inr (refl, some-injective w u e)
at_end [] w u (suc j) e = absurd (some-ne-none u (sym e))
at_end (x ∷ xs) w u zero e = inl e
at_end (x ∷ xs) w u (suc j) e = ⊎_elim (λ t. inl t) (λ (t : (j ≡ length xs) × (w ≡ u)). inr (ap suc t.0, t.1)) (at_end xs w u j e)

before_end : (vs : List SeatView) (u : SeatView) (j : ℕ) → get_elem? vs j ≡ some u → j ≢ length vs
before_end [] u j e = absurd (some-ne-none u (sym e))
before_end (x ∷ xs) u zero e = λ h. omega arith
before_end (x ∷ xs) u (suc j) e = let n = before_end xs u j e in λ h. n (omega arith)

-- a view is after_append at the end, which has a number of its own
pub each_more : (F G : ℕ → SeatView → Type 0) (vs : List SeatView) (w : SeatView) → AtEachSeat vs F → ((j : ℕ) (v : SeatView) → j ≢ length vs → F j v → G j v) → G (length vs) w → AtEachSeat (vs ++ w ∷ []) G
each_more F G vs w all others mine j u e =
    ⊎_elim
    (λ (x : get_elem? vs j ≡ some u). others j u (before_end vs u j x) (all j u x))
    (λ (x : (j ≡ length vs) × (w ≡ u)). subst (λ (y : ℕ × SeatView). G y.0 y.1) (λ k. (sym x.0 k, x.1 k)) mine)
    (at_end vs w u j e)
