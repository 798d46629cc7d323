-- The bound conditions and expressions of the code, as the definitions of the vocabulary have them.
use Rattle.std.specs.Prelude.{unwrap_or, pos}
use Rattle.std.specs.declared.option.Option.{Option}
use Rattle.cj_model.specs.declared.value.Value.{Value}
use Rattle.cj_model.specs.declared.value.Value.TheVariants.{Int}
use Rattle.cj_model.specs.Database.Predicates as by_place
use Rattle.cj_expr.specs.declared.operand.Operand.{Operand}
use Rattle.cj_expr.specs.declared.operand.Operand.TheVariants.{Constant, Cell}
use Rattle.cj_expr.specs.declared.formula.Formula.{Formula}
use Rattle.cj_expr.specs.declared.formula.Formula.TheVariants.{Just, Sum, Difference}
use Rattle.cj_expr.specs.declared.predicate.PredicateNode.{PredicateNode}
use Rattle.cj_expr.specs.declared.predicate.PredicateNode.TheVariants as node

-- an operand of the code as the vocabulary has it
abbrev pub operand : Operand → by_place.Operand
operand (Constant v) = by_place.Constant v
operand (Cell n) = by_place.Cell n

-- the value, or 0 where there is none
abbrev pub or_nothing : Option Value → Value
or_nothing o = unwrap_or o (Int (pos 0))

-- an expression of the code as the vocabulary has it
abbrev pub formula : Formula → by_place.Formula
formula (Just o) = by_place.Just (operand o)
formula (Sum l r) = by_place.Sum (operand l) (operand r)
formula (Difference l r) = by_place.Difference (operand l) (operand r)

-- a condition's node of the code as the vocabulary has it
abbrev pub predicate_of_node : PredicateNode → by_place.Predicate
predicate_of_node (node.Compare cmp l r) = by_place.Compare cmp (operand l) (operand r)
predicate_of_node (node.Not' p inner) = by_place.Not (predicate_of_node inner)
predicate_of_node (node.And' p left q right) = by_place.And (predicate_of_node left) (predicate_of_node right)
predicate_of_node (node.Or' p left q right) = by_place.Or (predicate_of_node left) (predicate_of_node right)
