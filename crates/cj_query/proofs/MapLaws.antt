-- Lists of which each element is turned into another.
use Rattle.std.proofs.Common.{◌≡◌, ℕ, Bool, ◌||◌, List, [], ◌∷◌, map, refl, ap, sym, ◌∙◌}
use Rattle.std.specs.declared.option.Option.{Option}
use Rattle.std.specs.declared.option.Option.TheVariants.{None, Some}
use Rattle.cj_query.proofs.Common.{at_most, list_any, take-map}

pub map_itself : {X : Type 0} (xs : List X) → map (λ x. x) xs ≡ xs
map_itself [] = refl
map_itself (x ∷ xs) = ap (λ l. x ∷ l) (map_itself xs)

pub map_alike : {X Y : Type 0} (f g : X → Y) → ((x : X) → f x ≡ g x) → (xs : List X) → map f xs ≡ map g xs
map_alike f g h [] = refl
map_alike f g h (x ∷ xs) = ap (λ y. y ∷ map f xs) (h x) ∙ ap (λ l. g x ∷ l) (map_alike f g h xs)

pub any_alike : {X : Type 0} (p q : X → Bool) → ((x : X) → p x ≡ q x) → (xs : List X) → list_any p xs ≡ list_any q xs
any_alike p q h [] = refl
any_alike p q h (x ∷ xs) = ap (λ b. b || list_any p xs) (h x) ∙ ap (λ b. q x || b) (any_alike p q h xs)

pub cut-map : {X Y : Type 0} (f : X → Y) (limit : Option ℕ) (xs : List X) → map f (at_most limit xs) ≡ at_most limit (map f xs)
cut-map f None xs = refl
cut-map f (Some n) xs = sym (take-map f n xs)
