-- Nodes with children, whose pairs are divided among them.
use Rattle.std.specs.Prelude.{List, map}
use Rattle.std.specs.List.{AllByRecursion}
use Rattle.std.specs.declared.cmp.Ordering.{Ordering}
use Rattle.cj_ptree.specs.declared.child.Child.{Child}
use Rattle.cj_ptree.specs.Links.{OwnsNode, target}
use Rattle.cj_ptree.specs.Parts.{IsDivided, all_pairs}

module _ {K V N : Type 0} (pairs : N → List (K × V)) where
  -- the child as a part
  abbrev pub part_of : Child K N → K × List (K × V)
  part_of child = (child.bound, pairs (target child.node))

  -- the pairs below the children
  abbrev pub branch_pairs : List (Child K N) → List (K × V)
  branch_pairs children = all_pairs (map part_of children)

  module _ (IsBuilt : N → Type 0) (R : K → K → Ordering) where
    -- each child is built, and their bounds divide the pairs
    pub record IsBranch (children : List (Child K N)) : Type 0 where
      pub built : AllByRecursion (λ c. IsBuilt (target c.node)) children
      pub divided : IsDivided R (map part_of children)

-- the branch alone has all nodes below it
abbrev pub OwnsBranch : {K N : Type 0} → (N → Type 0) → List (Child K N) → Type 0
OwnsBranch P children = AllByRecursion (λ c. OwnsNode P c.node) children
