-- Trees of three levels.
use Rattle.std.specs.Prelude.{List}
use Rattle.std.specs.declared.cmp.Ordering.{Ordering}
use Rattle.cj_ptree.specs.declared.branch.Branch.{Branch}
use Rattle.cj_ptree.specs.declared.leaf.Leaf.{Leaf}
use Rattle.cj_ptree.specs.Branches.{IsBranch, branch_pairs}
use Rattle.cj_ptree.specs.Pairs.{PairsRise}

module _ {K V : Type 0} where
  -- the pairs of a leaf
  abbrev pub leaf_pairs : Leaf K V → List (K × V)
  leaf_pairs leaf = leaf.pairs.items

  -- the pairs below a twig, which is a list of leaves
  abbrev pub twig_pairs : Branch K (Leaf K V) → List (K × V)
  twig_pairs twig = branch_pairs leaf_pairs twig.children.items

  -- the pairs below a root, which is a list of twigs
  abbrev pub root_pairs : Branch K (Branch K (Leaf K V)) → List (K × V)
  root_pairs root = branch_pairs twig_pairs root.children.items

  module _ (R : K → K → Ordering) where
    abbrev pub IsLeaf : Leaf K V → Type 0
    IsLeaf leaf = PairsRise R leaf.pairs.items

    abbrev pub IsTwig : Branch K (Leaf K V) → Type 0
    IsTwig twig = IsBranch leaf_pairs IsLeaf R twig.children.items

    abbrev pub IsRoot : Branch K (Branch K (Leaf K V)) → Type 0
    IsRoot root = IsBranch twig_pairs IsTwig R root.children.items
