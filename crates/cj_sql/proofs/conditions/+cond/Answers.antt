use Rattle.std.proofs.Common.{rules, arith}
use Rattle.std.proofs.lemmas.Grind.{common_steps}
use Rattle.cj_model.specs.Proving.ConditionNodes.{condition_of_node}
use Rattle.cj_sql.specs.Proving.ConditionReader.{input_at, more_connected, side, prim}
use Rattle.cj_sql.proofs.Turns.{one_more, no_more, deeper}
use Rattle.cj_sql.proofs.conditions.+cond.Goals as goal

pub connected-returns-then-not-eat_word : goal.connected-returns-then-not-eat_word
unfolding more_connected
connected-returns-then-not-eat_word t c =
    let e = one_more (λ n. more_connected c.args.by (side (prim c.args.depth) c.args.by) n (condition_of_node c.loop-turn.left.value) (input_at c.loop-turn.tokens c.loop-turn.tests)) _ c.loop-turn._turn c.loop-turn-test.true c.loop-turn.invariant in
    first_of (search rules, grind (arith, common_steps))

pub connected-returns-in_err-right : goal.connected-returns-in_err-right
unfolding more_connected
connected-returns-in_err-right t c =
    let e = one_more (λ n. more_connected c.args.by (side (prim c.args.depth) c.args.by) n (condition_of_node c.loop-turn.left.value) (input_at c.loop-turn.tokens c.loop-turn.tests)) _ c.loop-turn._turn c.loop-turn-test.true c.loop-turn.invariant in
    first_of (search rules, grind (arith, common_steps))

pub connected-loop-turn-preserved : goal.connected-loop-turn-preserved
unfolding more_connected
connected-loop-turn-preserved t c =
    let e = one_more (λ n. more_connected c.args.by (side (prim c.args.depth) c.args.by) n (condition_of_node c.loop-turn.left.value) (input_at c.loop-turn.tokens c.loop-turn.tests)) _ c.loop-turn._turn c.loop-turn-test.true c.loop-turn.invariant in
    first_of (search rules, grind (arith, common_steps))

pub connected-returns-then-sees_word : goal.connected-returns-then-sees_word
unfolding more_connected
connected-returns-then-sees_word t c =
    let e = no_more (λ n. more_connected c.args.by (side (prim c.args.depth) c.args.by) n (condition_of_node c.loop-turn.left.value) (input_at c.loop-turn.tokens c.loop-turn.tests)) _ c.loop-turn._turn c.loop-turn-test.false c.loop-turn.invariant in
    first_of (search rules, grind (arith, common_steps))

pub connected-returns : goal.connected-returns
unfolding more_connected
connected-returns t c =
    let e = no_more (λ n. more_connected c.args.by (side (prim c.args.depth) c.args.by) n (condition_of_node c.loop-turn.left.value) (input_at c.loop-turn.tokens c.loop-turn.tests)) _ c.loop-turn._turn c.loop-turn-test.false c.loop-turn.invariant in
    first_of (search rules, grind (arith, common_steps))

pub prim-returns-then-eat_symbol : goal.prim-returns-then-eat_symbol
unfolding prim
prim-returns-then-eat_symbol t c =
    let e = deeper (λ n. prim n (input_at c.args.tokens.now c.args.tests.now)) c.args.depth (omega arith) in
    first_of (search rules, grind (arith, common_steps))

pub prim-returns : goal.prim-returns
unfolding prim
prim-returns t c =
    let e = deeper (λ n. prim n (input_at c.args.tokens.now c.args.tests.now)) c.args.depth (omega arith) in
    first_of (search rules, grind (arith, common_steps))

pub prim-returns-in_err-inner : goal.prim-returns-in_err-inner
unfolding prim
prim-returns-in_err-inner t c =
    let e = deeper (λ n. prim n (input_at c.args.tokens.now c.args.tests.now)) c.args.depth (omega arith) in
    first_of (search rules, grind (arith, common_steps))
