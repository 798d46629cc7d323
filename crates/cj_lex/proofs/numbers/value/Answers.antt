use Rattle.cj_lex.proofs.Steps.{value_more}
use Rattle.cj_lex.proofs.numbers.value.Goals as goal

pub loop-digit-preserved : goal.loop-digit-preserved
loop-digit-preserved c = value_more c.args.digits.now c.loop-digit.digit-index c.loop-digit.n c.with_digit-n.result c.loop-digit-test.true c.loop-digit.invariant c.with_digit-n.ensures
