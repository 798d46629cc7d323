-- What a list ends as whose items are lent, and a condition whose tree is lent.
use Rattle.std.specs.Prelude.{List, length}
use Rattle.std.specs.List.{refill}
use Rattle.std.specs.Borrow.{Fml, RattleType, MutBor, Array, Lends}
use Rattle.cj_model.specs.declared.condition.CondNode.{CondNode}
use Rattle.cj_model.specs.contracts.condition.Cond as cond
use Rattle.cj_model.specs.contracts.condition.CondNode as node
use Rattle.cj_model.specs.contracts.list.ListOf as list
use Rattle.cj_model.specs.Database.Conditions.{Condition}
use Rattle.cj_model.specs.Proving.ConditionNodes.{condition_of_node}

-- the list has the items that the slice shows last, of which there are as many
abbrev pub LendsItems : (T : RattleType) → MutBor (List T.Denot) → MutBor (List T.Denot) → Fml
LendsItems T items slice = Lends (list.the_row T) (Array T 0) items slice (refill (length items.now) items.now)

-- the condition has the tree that is left
abbrev pub LendsRoot : MutBor Condition → MutBor CondNode → Fml
LendsRoot condition root = Lends cond.the_row node.the_row condition root condition_of_node
