-- The tree of a condition that is in memory.
use Rattle.cj_model.specs.declared.condition.CondNode.{CondNode}
use Rattle.cj_model.specs.declared.condition.CondNode.TheVariants as node
use Rattle.cj_model.specs.Database.Conditions.{Condition, Test, Not, And, Or}

abbrev pub condition_of_node : CondNode → Condition
condition_of_node (node.Test cmp left right) = Test cmp left right
condition_of_node (node.Not' p inner) = Not (condition_of_node inner)
condition_of_node (node.And' p left q right) = And (condition_of_node left) (condition_of_node right)
condition_of_node (node.Or' p left q right) = Or (condition_of_node left) (condition_of_node right)
