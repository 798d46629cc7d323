-- A walk over a list that puts together what each element gives.
use Rattle.std.proofs.Common.{◌≡◌, ℕ, ◌+◌, ◌<◌, List, [], ◌∷◌, ◌++◌, map, length, take, get_or, ap, sym, ◌∙◌}
use Rattle.std.specs.Prelude.{flat_map}
use Rattle.std.proofs.lemmas.List.{take_more, map-append, flat_map_more}

-- one more element
pub flat_map_next : {A X Y : Type 0} (h : A → X) (f : X → List Y) (xs : List A) (i : ℕ) (x : A) → i < length xs → x ≡ get_or xs i x → flat_map f (map h (take i xs)) ++ f (h x) ≡ flat_map f (map h (take (i + 1) xs))
flat_map_next h f xs i x lt is =
    flat_map_more f [] (map h (take i xs)) (h x)
    ∙ ap (flat_map f) (sym (map-append h (take i xs) (x ∷ [])))
    ∙ ap (λ l. flat_map f (map h l)) (ap (λ y. take i xs ++ y ∷ []) is ∙ sym (take_more xs i x lt))
