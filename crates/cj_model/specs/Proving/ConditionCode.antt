-- A code for conditions, by which a proof tells them apart.
use Rattle.std.specs.Prelude.{◌≡◌, refl}
use Rattle.std.proofs.Common.{ap, ap₂}
use Rattle.std.specs.Coded.{Coded, code_by, coded×}
use Rattle.cj_model.specs.declared.term.Cmp.{Cmp}
use Rattle.cj_model.specs.declared.term.Cmp.TheVariants as cmp
use Rattle.cj_model.specs.declared.term.Term.{Term}
use Rattle.cj_model.specs.declared.term.Term.TheVariants as term
use Rattle.cj_model.specs.contracts.term.Cmp as cmp_type
use Rattle.cj_model.specs.contracts.term.Term as term_type
use Rattle.cj_model.specs.Database.Conditions.{Condition, Test, Not, And, Or}
use Rattle.cj_model.specs.Proving.TreeCode as tree
use Rattle.cj_model.specs.Proving.TreeCode.{Tree, coded_tree}

-- a comparison
abbrev pub ConditionComparison : Type 0
ConditionComparison = Cmp × (Term × Term)

abbrev pub tree_of_condition : Condition → Tree ConditionComparison
tree_of_condition (Test c l r) = tree.Leaf (c, (l, r))
tree_of_condition (Not x) = tree.Not (tree_of_condition x)
tree_of_condition (And x y) = tree.And (tree_of_condition x) (tree_of_condition y)
tree_of_condition (Or x y) = tree.Or (tree_of_condition x) (tree_of_condition y)

abbrev pub condition_of_tree : Tree ConditionComparison → Condition
condition_of_tree (tree.Leaf t) = Test t.0 t.1.0 t.1.1
condition_of_tree (tree.Not x) = Not (condition_of_tree x)
condition_of_tree (tree.And x y) = And (condition_of_tree x) (condition_of_tree y)
condition_of_tree (tree.Or x y) = Or (condition_of_tree x) (condition_of_tree y)

pub condition_of_tree-tree_of_condition : (c : Condition) → condition_of_tree (tree_of_condition c) ≡ c
condition_of_tree-tree_of_condition (Test c l r) = refl
condition_of_tree-tree_of_condition (Not x) = ap Not (condition_of_tree-tree_of_condition x)
condition_of_tree-tree_of_condition (And x y) = ap₂ And (condition_of_tree-tree_of_condition x) (condition_of_tree-tree_of_condition y)
condition_of_tree-tree_of_condition (Or x y) = ap₂ Or (condition_of_tree-tree_of_condition x) (condition_of_tree-tree_of_condition y)

abbrev pub coded_condition_comparison : Coded ConditionComparison
coded_condition_comparison = coded× cmp_type.the_row.coded (coded× term_type.the_row.coded term_type.the_row.coded)

abbrev pub coded_condition : Coded Condition
coded_condition = code_by (Tree ConditionComparison) (coded_tree (cmp.Eq, (term.Now, term.Now)) coded_condition_comparison) tree_of_condition condition_of_tree condition_of_tree-tree_of_condition
