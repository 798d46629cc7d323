use Rattle.std.proofs.Common.{◌≤◌}
use Rattle.cj_model.specs.declared.condition.CondNode.{size-CondNode}
use Rattle.cj_model.proofs.condition.CondNode.+drop.Given as goal

-- what is left is no deeper than the tree
abbrev pub invariant-loop-self : goal.invariant-loop-self
invariant-loop-self l = size-CondNode l.self ≤ size-CondNode l.initial.self
