-- Names, each once: by the first and the rest, as a slice gives them.
use Rattle.std.proofs.Common.{◌≡◌, refl, ℕ, ◌-◌, ◌≤◌, Bool, true, false, not, ◌&&◌, List, [], ◌∷◌, length, get_or, take, drop, arith}
use Rattle.std.proofs.lemmas.List.{take_all}
use Rattle.std.specs.List.{list_any}
use Rattle.std.specs.Str.{bytes_eq}
use Rattle.cj_model.specs.Database.Tables.{is_distinct}

-- what a slice gives as the rest after its first
abbrev after_first : List (List ℕ) → List (List ℕ)
after_first names = take (length names - 1) (drop 1 names)

-- names stand once each where the first is not among the rest, and the rest stand once each
first_and_rest : (names : List (List ℕ)) (first : List ℕ) → 1 ≤ length names → first ≡ get_or names 0 first
    → is_distinct names ≡ (not (list_any (bytes_eq first) (after_first names)) && is_distinct (after_first names))
first_and_rest [] first some e = absurd (omega arith)
first_and_rest (n ∷ names) first some e =
    let rest : take (length (n ∷ names) - 1) names ≡ names = take_all _ names (omega arith) in
    rw (rest, e) refl

-- where the first stands again, the names are not each once
pub name_repeats : (names : List (List ℕ)) (first : List ℕ) (found : Bool) → 1 ≤ length names → first ≡ get_or names 0 first → found ≡ list_any (bytes_eq first) (after_first names) → found ≡ true
    → false ≡ is_distinct names
name_repeats names first found some e f g = let h = first_and_rest names first some e in rw (h, ← f, g) refl

-- where it doesn't, the rest decides
pub name_stands_alone : (names : List (List ℕ)) (first : List ℕ) (found : Bool) → 1 ≤ length names → first ≡ get_or names 0 first → found ≡ list_any (bytes_eq first) (after_first names) → found ≡ false
    → is_distinct names ≡ is_distinct (after_first names)
name_stands_alone names first found some e f g = let h = first_and_rest names first some e in rw (h, ← f, g) refl
