-- Who has reported, from one backend to the next.
use Rattle.std.proofs.Common.{refl, ◌≡◌, ◌⊎◌, ⊎_elim, ℕ, ◌+◌, ◌<◌, ◌≤◌, ◌&&◌, not, Bool, true, false, sym, ◌∙◌, subst, arith}
use Rattle.std.proofs.lemmas.Bool.{cases_lt}
use Rattle.cj_model.specs.Cluster.Masks.{in_mask}
use Rattle.cj_tally.specs.declared.tally.Tally.{Tally}
use Rattle.cj_tally.specs.Tallies.{HasReported, HaveReportedBelow, KeepsReports}

-- one backend more was asked
pub reported_next : (mask b : ℕ) (t s : Tally) → HaveReportedBelow b mask t → KeepsReports t s → (in_mask mask b ≡ true → HasReported s b) → HaveReportedBelow (b + 1) mask s
reported_next mask b t s before keeps own k few on =
    ⊎_elim (λ (below : k < b). keeps k (before k below on))
    (λ (above : b ≤ k). (let same : b ≡ k = omega (arith, few, above) in subst (λ (n : ℕ). HasReported s n) same (own (subst (λ (n : ℕ). in_mask mask n ≡ true) (sym same) on))))
    (cases_lt k b)

-- those of the mask that have no job were asked first, and then those that have one
pub reported_beside : (count enabled posted here : ℕ) (t s : Tally) → ((b : ℕ) → in_mask here b ≡ (in_mask enabled b && not (in_mask posted b))) → HaveReportedBelow count here t → HaveReportedBelow count posted s → KeepsReports t s → HaveReportedBelow count enabled s
reported_beside count enabled posted here t s is first then keeps b few on = by (in_mask posted b) refl
  where
    by : (p : Bool) → in_mask posted b ≡ p → HasReported s b
    by true there = then b few there
    by false not_there = keeps b (first b few (is b ∙ rw (on, not_there) refl))
