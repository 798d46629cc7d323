-- What the backends of a mask were asked for.
use Rattle.std.proofs.Common.{◌≡◌, ◌∙◌, refl, sym, ap, subst, ℕ, ◌+◌, ◌<◌, true, List, [], ◌∷◌, ◌++◌, length, map, Option, Some, Ok, arith}
use Rattle.std.specs.Prelude.{IfSome, slice_get, option_map}
use Rattle.std.proofs.lemmas.List.{map-append}
use Rattle.std.proofs.lemmas.Option.{slice_get-map, slice_get_read}
use Rattle.std.proofs.Math.Seq.{get_or-append_seam}
use Rattle.cj_backend.specs.Backends.{Arming, HasBackendCause, SpendsArming}
use Rattle.cj_workload.proofs.Common.{EachHolds, in_mask, length-append, length-map, rows_in, Slot, Value}

module _ {B : Type 0} (told : B → Option (List Slot)) (before rest items : List B) (x : B) (all : before ++ (x ∷ rest) ≡ items) where
  -- the next backend stands behind those that were asked
  told_there : slice_get (map told items) (length before) ≡ Some (told x)
  told_there =
      let long : length (before ++ (x ∷ rest)) ≡ length before + length (x ∷ rest) = length-append before (x ∷ rest) in
      let here : slice_get (before ++ (x ∷ rest)) (length before) ≡ Some x =
      slice_get_read (before ++ (x ∷ rest)) (length (before ++ (x ∷ rest))) (length before) x refl (omega (arith, long)) (sym (get_or-append_seam before x rest x)) in
      slice_get-map told items (length before) ∙ ap (λ (l : List B). option_map told (slice_get l (length before))) (sym all) ∙ ap (option_map told) here

  pub place_within : length before < length items
  place_within = let long = length-append before (x ∷ rest) in let same : length (before ++ (x ∷ rest)) ≡ length items = ap length all in omega (arith, long, same)

  -- where it is of the mask, its answer has the rows that each of the mask holds
  pub asked_rows : (mask : ℕ) (rows : Option (List (List Value))) (db : List Slot) → EachHolds mask (map told items) rows → in_mask mask (length before) ≡ true → IfSome (told x) (λ held. db ≡ held) → rows_in db ≡ rows
  asked_rows mask rows db holds on answer =
      let long : length (map told items) ≡ length items = length-map items told in
      let within = place_within in
      let held = holds (length before) (omega (arith, long, within)) on in
      let is : told x ≡ Some held.0 = let e = told_there in let f = held.1 in cc in
      let same : db ≡ held.0 = subst (λ (o : Option (List Slot)). IfSome o (λ h. db ≡ h)) is answer in
      ap rows_in same ∙ held.2

-- ---- backends that are given back

-- one more is given back, of which the same is seen
pub same_pushed : {B : Type 0} (seen : B → ℕ) (asked before : List B) (x y : B) → map seen asked ≡ map seen before → seen y ≡ seen x → map seen (asked ++ y ∷ []) ≡ map seen (before ++ x ∷ [])
same_pushed seen asked before x y same one =
    map-append seen asked (y ∷ []) ∙ (ap (λ (l : List ℕ). l ++ seen y ∷ []) same ∙ (ap (λ (n : ℕ). map seen before ++ n ∷ []) one ∙ sym (map-append seen before (x ∷ []))))

-- a call that is answered counts no fault
pub none_counted : {T : Type 0} (before now : ℕ) (x : T) → HasBackendCause before now (Ok x) → now ≡ before
none_counted before now x cause = cause.uncounted (λ e. cc e)

-- and arms nothing
pub none_armed : {T : Type 0} (before now : Arming) (x : T) → SpendsArming before now (Ok x) → now.times ≡ before.times
none_armed before now x spends = ap (λ (a : Arming). a.times) spends.after
