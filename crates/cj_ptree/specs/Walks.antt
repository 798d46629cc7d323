-- The pairs that a walk from either end has not passed yet.
use Rattle.std.specs.Prelude.{ℕ, ◌+◌, suc, List, ◌++◌, length}
use Rattle.std.specs.List.{sum_by}
use Rattle.cj_ptree.specs.declared.branch.Branch.{Branch}
use Rattle.cj_ptree.specs.declared.child.Child.{Child}
use Rattle.cj_ptree.specs.declared.leaf.Leaf.{Leaf}
use Rattle.cj_ptree.specs.declared.walk.Rest.{Rest}
use Rattle.cj_ptree.specs.Branches.{branch_pairs}
use Rattle.cj_ptree.specs.Links.{target}
use Rattle.cj_ptree.specs.Trees.{leaf_pairs, twig_pairs}

module _ {K V : Type 0} where
  -- the pairs that are left
  abbrev pub pairs_left : Rest K V → List (K × V)
  pairs_left rest =
      rest.front.now ++ (branch_pairs leaf_pairs rest.leaves.now ++ (branch_pairs twig_pairs rest.twigs.now ++ (branch_pairs leaf_pairs rest.back_leaves.now ++ rest.back.now)))

  -- how many leaves a twig has, and the twig itself
  abbrev pub leaves_below : Child K (Branch K (Leaf K V)) → ℕ
  leaves_below child = suc (length (target child.node).children.items)

  -- how many leaves and twigs are left between the first leaf and the last
  abbrev pub nodes_left : Rest K V → ℕ
  nodes_left rest =
      length rest.leaves.now + (sum_by leaves_below rest.twigs.now + length rest.back_leaves.now)
