use Rattle.std.proofs.Common.{sym, ◌∙◌}
use Rattle.cj_model.specs.declared.term.Cmp.TheVariants.{Lt, Le}
use Rattle.cj_expr.specs.Reaches.{holds_to}
use Rattle.cj_expr.proofs.ReachLaws.{lt_is_le, none_up_to}
use Rattle.cj_expr.proofs.reach.up_to.Goals as goal

pub returns-then-is_past-clause-below : goal.returns-then-is_past-clause-below
returns-then-is_past-clause-below c = none_up_to c.args.value.now c.args.key.now (holds_to Lt c.args.value.now) (sym c.is_past.ensures ∙ c.if-is_past.true) (λ w t. lt_is_le _ t)

pub returns-then-is_past-clause-at : goal.returns-then-is_past-clause-at
returns-then-is_past-clause-at c = none_up_to c.args.value.now c.args.key.now (holds_to Le c.args.value.now) (sym c.is_past.ensures ∙ c.if-is_past.true) (λ w t. t)
