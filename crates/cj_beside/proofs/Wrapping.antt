-- What lists of wrapped backends tell, by what the backends tell.
use Rattle.std.proofs.Common.{◌≡◌, ◌∙◌, Bool, true, false, List, ap, map, refl, sym}
use Rattle.std.specs.Prelude.{◌&&◌}
use Rattle.std.proofs.lemmas.Simd.{map-map}
use Rattle.std.specs.declared.option.Option.{Option}
use Rattle.cj_model.specs.declared.database.Slot.{Slot}
use Rattle.cj_beside.specs.Besides.{told_beside}

-- a part of each backend of a list is the same part where each is wrapped
pub of_wrapped : {A B C : Type 0} (inner : A → B) (part : B → C) (made : List A) (given : List B) → map inner made ≡ given → map (λ a. part (inner a)) made ≡ map part given
of_wrapped inner part made given same = sym (map-map part inner made) ∙ ap (map part) same

-- where a backend and the store both tell, what is told beside the store is what the backend tells
pub told_by_both : {B : Type 0} (tells store : Bool) (told : B → Option (List Slot)) (backends : List B) → (tells && store) ≡ true → map (λ b. told_beside store (told b)) backends ≡ map told backends
told_by_both tells true told backends both = refl
told_by_both true false told backends both = absurd (cc)
told_by_both false false told backends both = absurd (cc)
