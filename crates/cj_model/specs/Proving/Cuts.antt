-- Lists that are one after another in one list.
use Rattle.std.specs.Prelude.{◌≡◌, ℕ, List, [], ◌∷◌, length, map, take, drop}
use Rattle.std.specs.List.{flat_map}

-- the lists of these lengths
abbrev pub cut : {T : Type 0} → List ℕ → List T → List (List T)
cut [] items = []
cut (n ∷ lengths) items = take n items ∷ cut lengths (drop n items)

-- the items are those of lists of these lengths
pub record AreCut {T : Type 0} (lengths : List ℕ) (items : List T) : Type 0 where
  pub lists : List (List T)
  pub lengths_are : lengths ≡ map length lists
  pub items_are : items ≡ flat_map (λ list. list) lists
