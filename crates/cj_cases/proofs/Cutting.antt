-- Texts cut at a byte.
use Rattle.std.proofs.Common.{◌≡◌, ◌∙◌, refl, sym, ap, ℕ, ◌+◌, ◌==◌, true, false, List, [], ◌∷◌, ◌++◌, length, Option}
use Rattle.std.proofs.Common.{None, Some, append_assoc, cond}
use Rattle.cj_cases.specs.Lines.{before, behind, longer_by, parts_between, parts_behind}

-- how much is left, at least a part where there is anything
abbrev pub left_length : Option (List ℕ) → ℕ
left_length None = 0
left_length (Some bytes) = length bytes + 1

-- the first part, and those behind it
pub parts_cut : (c : ℕ) (text : List ℕ) → parts_between c text ≡ before c text ∷ parts_behind c (behind c text)
parts_cut c [] = refl
parts_cut c (b ∷ text) =
    elim (b == c) as (λ v. cond v ([] ∷ parts_between c text) (longer_by b (parts_between c text))
    ≡ cond v [] (b ∷ before c text) ∷ parts_behind c (cond v (Some text) (behind c text)))
    [ true ↦ refl | false ↦ ap (longer_by b) (parts_cut c text) ]

-- the part at the front of what is left is cut off
pub part_more : (c : ℕ) (text here : List ℕ) (rest : Option (List ℕ)) (parts : List (List ℕ)) → rest ≡ Some here
    → parts_between c text ≡ parts ++ parts_behind c rest
    → parts_between c text ≡ (parts ++ before c here ∷ []) ++ parts_behind c (behind c here)
part_more c text here rest parts is so =
    so ∙ ap (λ r. parts ++ parts_behind c r) is ∙ ap (λ (p : List (List ℕ)). parts ++ p) (parts_cut c here)
    ∙ sym (append_assoc parts (before c here ∷ []) (parts_behind c (behind c here)))
