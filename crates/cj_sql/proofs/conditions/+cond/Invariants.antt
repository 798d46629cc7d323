use Rattle.std.proofs.Common.{◌≡◌, ℕ, ◌+◌, ◌-◌, ◌*◌}
use Rattle.cj_model.specs.Proving.ConditionNodes.{condition_of_node}
use Rattle.cj_sql.specs.declared.conditions.Connective.{Connective}
use Rattle.cj_sql.specs.declared.conditions.Connective.TheVariants as connective
use Rattle.cj_sql.specs.Proving.ConditionReader as spec
use Rattle.cj_sql.specs.Proving.ConditionReader.{input_at}
use Rattle.cj_sql.proofs.conditions.+cond.Given as goal

-- how loosely a connective binds
abbrev looseness : Connective → ℕ
looseness connective.And = 0
looseness connective.Or = 1

abbrev pub decreases-prim : goal.decreases-prim
decreases-prim l = 6 * l.depth

abbrev pub decreases-side : goal.decreases-side
decreases-side l = 6 * l.depth + 2 * looseness l.by + 1

abbrev pub decreases-connected : goal.decreases-connected
decreases-connected l = 6 * l.depth + 2 * looseness l.by + 2

abbrev pub decreases-parens : goal.decreases-parens
decreases-parens l = 6 * l.depth + 5

-- what is left to read after the condition so far
abbrev pub invariant-connected-loop-turn : goal.invariant-connected-loop-turn
invariant-connected-loop-turn l =
    spec.connected l.by (spec.side (spec.prim l.depth) l.by) (input_at l.fn.tokens l.fn.tests) ≡
    spec.more_connected l.by (spec.side (spec.prim l.depth) l.by) (l.turns - l._turn) (condition_of_node l.left.value) (input_at l.tokens l.tests)
