-- A code for trees of NOT, AND and OR, by which a proof tells them apart: prefix notation, from which a stack builds
-- them again.
use Rattle.std.specs.Prelude.{◌≡◌, ◌⊎◌, ℕ, zero, suc, List, [], ◌∷◌, ◌++◌, refl}
use Rattle.std.proofs.Common.{inl, inr, ap, ◌∙◌, sym, append_assoc}
use Rattle.std.proofs.lemmas.List.{append-nil}
use Rattle.std.specs.Coded.{Coded, code_by, coded⊎, coded_list, coded_ℕ}

-- a tree whose leaves are of L
pub data Tree (L : Type 0) : Type 0 where
  Leaf : L → Tree L
  Not : Tree L → Tree L
  And : Tree L → Tree L → Tree L
  Or : Tree L → Tree L → Tree L

-- a leaf, or the number of what joins: 0 for Not, 1 for And, 2 for Or
abbrev pub Sign : Type 0 → Type 0
Sign L = L ⊎ ℕ

abbrev pub signs : {L : Type 0} → Tree L → List (Sign L)
signs (Leaf l) = inl l ∷ []
signs (Not x) = inr 0 ∷ signs x
signs (And x y) = inr 1 ∷ (signs x ++ signs y)
signs (Or x y) = inr 2 ∷ (signs x ++ signs y)

abbrev pub deny : {L : Type 0} → List (Tree L) → List (Tree L)
deny [] = []
deny (x ∷ s) = Not x ∷ s

abbrev pub join : {L : Type 0} → (Tree L → Tree L → Tree L) → List (Tree L) → List (Tree L)
join by [] = []
join by (x ∷ []) = x ∷ []
join by (x ∷ y ∷ s) = by x y ∷ s

abbrev pub stack : {L : Type 0} → List (Sign L) → List (Tree L)
stack [] = []
stack (inl l ∷ ss) = Leaf l ∷ stack ss
stack (inr zero ∷ ss) = deny (stack ss)
stack (inr (suc zero) ∷ ss) = join And (stack ss)
stack (inr (suc (suc n)) ∷ ss) = join Or (stack ss)

-- the tree on top, or this leaf where there is none
abbrev pub first : {L : Type 0} → L → List (Tree L) → Tree L
first l [] = Leaf l
first l (x ∷ s) = x

pub stack_signs : {L : Type 0} (x : Tree L) (ss : List (Sign L)) → stack (signs x ++ ss) ≡ x ∷ stack ss
stack_signs (Leaf l) ss = refl
stack_signs (Not x) ss = ap deny (stack_signs x ss)
stack_signs {L = L} (And x y) ss =
    ap (λ (t : List (Sign L)). join And (stack t)) (append_assoc (signs x) (signs y) ss)
    ∙ ap (join And) (stack_signs x (signs y ++ ss) ∙ ap (λ (s : List (Tree L)). x ∷ s) (stack_signs y ss))
stack_signs {L = L} (Or x y) ss =
    ap (λ (t : List (Sign L)). join Or (stack t)) (append_assoc (signs x) (signs y) ss)
    ∙ ap (join Or) (stack_signs x (signs y ++ ss) ∙ ap (λ (s : List (Tree L)). x ∷ s) (stack_signs y ss))

abbrev pub of_signs : {L : Type 0} → L → List (Sign L) → Tree L
of_signs l ss = first l (stack ss)

pub of_signs-signs : {L : Type 0} (l : L) (x : Tree L) → of_signs l (signs x) ≡ x
of_signs-signs l x = ap (of_signs l) (sym (append-nil (signs x))) ∙ ap (first l) (stack_signs x [])

-- by a code for the leaves, of which there is one
abbrev pub coded_tree : {L : Type 0} → L → Coded L → Coded (Tree L)
coded_tree {L = L} l leaves = code_by (List (Sign L)) (coded_list (coded⊎ leaves coded_ℕ)) signs (of_signs l) (of_signs-signs l)
