use Rattle.cj_expr.proofs.ReachLaws.{gt_is_ge, le_of_ge}
use Rattle.cj_expr.proofs.reach.onward.Goals as goal

pub returns-clause-above : goal.returns-clause-above
returns-clause-above c = λ key. record { at = λ w l t. le_of_ge w c.args.value.now (gt_is_ge _ t) }

pub returns-clause-at : goal.returns-clause-at
returns-clause-at c = λ key. record { at = λ w l t. le_of_ge w c.args.value.now t }
