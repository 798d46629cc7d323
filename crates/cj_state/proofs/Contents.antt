-- What a backend answers that is asked for all that it holds.
use Rattle.std.proofs.Common.{◌≡◌, ℕ, Bool, true, false, cond, Result, Ok, Err, Some, None, refl, ap, sym, ◌∙◌}
use Rattle.cj_state.proofs.Common.{CellError, CellState, failed_contents, false_from_ne_true, HasCellCause, next, SpendsArmingIf}
use Rattle.cj_replica.specs.declared.replica.CellError.TheVariants as cell_errors

-- whose fault was counted
pub contents_fault : {T : Type 0} (b : ℕ) (r : Result T CellError) (before now : ℕ) → HasCellCause before now r
    → (failed : Bool) × (failed_contents b r ≡ cond failed (Some b) None) × (now ≡ cond failed (next before) before)
contents_fault b (Ok x) before now cause = (false, refl, cause.uncounted (λ is. cc is))
contents_fault b (Err cell_errors.Failed) before now cause = (true, refl, cause.counted refl)
contents_fault b (Err cell_errors.Starved) before now cause = (false, refl, cause.uncounted (λ is. cc is))

-- a cell whose backend did not fail is as before
pub contents_same : {T : Type 0} (b : ℕ) (r : Result T CellError) (x y : CellState) → failed_contents b r ≡ None → HasCellCause x.faults y.faults r → SpendsArmingIf true (r ≡ Err cell_errors.Failed) x.arming y.arming
    → y ≡ record x { faults = y.faults; arming = y.arming } → y ≡ x
contents_same {T} b r x y none cause arming same =
    let never : r ≡ Err cell_errors.Failed → ⊥ = λ failed. cc (sym (ap (failed_contents b) failed) ∙ none) in
    let faults : y.faults ≡ x.faults = cause.uncounted never in
    let unarmed : x.arming.armed ≡ false = false_from_ne_true x.arming.armed (λ on. never (arming.fails refl on)) in
    let armed : y.arming ≡ x.arming = arming.after ∙ ap (λ (a : Bool). record x.arming { armed = a }) (sym unarmed) in
    same ∙ (rw (faults, armed) refl)
