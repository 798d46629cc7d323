-- A code for predicates, by which a proof tells them apart.
use Rattle.std.specs.Prelude.{◌≡◌, ◌⊎◌, ℕ, refl, pos}
use Rattle.std.proofs.Common.{inl, inr, ap, ap₂}
use Rattle.std.specs.Coded.{Coded, code_by, coded×, coded⊎, coded_ℕ}
use Rattle.cj_model.specs.declared.value.Value.{Value}
use Rattle.cj_model.specs.declared.value.Value.TheVariants.{Int}
use Rattle.cj_model.specs.declared.term.Cmp.{Cmp}
use Rattle.cj_model.specs.declared.term.Cmp.TheVariants as cmp
use Rattle.cj_model.specs.contracts.term.Cmp as cmp_type
use Rattle.cj_model.specs.contracts.value.Value as value_type
use Rattle.cj_model.specs.Database.Predicates.{Operand, Constant, Cell, Predicate, Compare, Not, And, Or}
use Rattle.cj_model.specs.Proving.TreeCode as tree
use Rattle.cj_model.specs.Proving.TreeCode.{Tree, coded_tree}

-- ---- operands

abbrev pub sign_of : Operand → Value ⊎ ℕ
sign_of (Constant v) = inl v
sign_of (Cell n) = inr n

abbrev pub of_sign : Value ⊎ ℕ → Operand
of_sign (inl v) = Constant v
of_sign (inr n) = Cell n

pub of_sign-sign_of : (o : Operand) → of_sign (sign_of o) ≡ o
of_sign-sign_of (Constant v) = refl
of_sign-sign_of (Cell n) = refl

abbrev pub coded_operand : Coded Operand
coded_operand = code_by (Value ⊎ ℕ) (coded⊎ value_type.the_row.coded coded_ℕ) sign_of of_sign of_sign-sign_of

-- ---- predicates

-- a comparison
abbrev pub PredicateComparison : Type 0
PredicateComparison = Cmp × (Operand × Operand)

abbrev pub tree_of_predicate : Predicate → Tree PredicateComparison
tree_of_predicate (Compare c l r) = tree.Leaf (c, (l, r))
tree_of_predicate (Not p) = tree.Not (tree_of_predicate p)
tree_of_predicate (And p q) = tree.And (tree_of_predicate p) (tree_of_predicate q)
tree_of_predicate (Or p q) = tree.Or (tree_of_predicate p) (tree_of_predicate q)

abbrev pub predicate_of_tree : Tree PredicateComparison → Predicate
predicate_of_tree (tree.Leaf t) = Compare t.0 t.1.0 t.1.1
predicate_of_tree (tree.Not p) = Not (predicate_of_tree p)
predicate_of_tree (tree.And p q) = And (predicate_of_tree p) (predicate_of_tree q)
predicate_of_tree (tree.Or p q) = Or (predicate_of_tree p) (predicate_of_tree q)

pub predicate_of_tree-tree_of_predicate : (p : Predicate) → predicate_of_tree (tree_of_predicate p) ≡ p
predicate_of_tree-tree_of_predicate (Compare c l r) = refl
predicate_of_tree-tree_of_predicate (Not p) = ap Not (predicate_of_tree-tree_of_predicate p)
predicate_of_tree-tree_of_predicate (And p q) = ap₂ And (predicate_of_tree-tree_of_predicate p) (predicate_of_tree-tree_of_predicate q)
predicate_of_tree-tree_of_predicate (Or p q) = ap₂ Or (predicate_of_tree-tree_of_predicate p) (predicate_of_tree-tree_of_predicate q)

abbrev pub coded_predicate_comparison : Coded PredicateComparison
coded_predicate_comparison = coded× cmp_type.the_row.coded (coded× coded_operand coded_operand)

abbrev pub coded_predicate : Coded Predicate
coded_predicate =
    code_by (Tree PredicateComparison) (coded_tree (cmp.Eq, (Constant (Int (pos 0)), Constant (Int (pos 0)))) coded_predicate_comparison) tree_of_predicate predicate_of_tree predicate_of_tree-tree_of_predicate
