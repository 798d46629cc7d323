use Rattle.std.proofs.Common.{sym, ◌∙◌}
use Rattle.cj_model.specs.declared.term.Cmp.TheVariants.{Eq}
use Rattle.cj_expr.specs.Reaches.{holds_to}
use Rattle.cj_expr.proofs.ReachLaws.{eq_is_le, equal_le, none_up_to}
use Rattle.cj_expr.proofs.reach.exactly.Goals as goal

pub returns-then-is_past : goal.returns-then-is_past
returns-then-is_past c = none_up_to c.args.value.now c.args.key.now (holds_to Eq c.args.value.now) (sym c.is_past.ensures ∙ c.if-is_past.true) (λ w t. eq_is_le _ t)

pub returns : goal.returns
returns c = record { at = λ w l t. equal_le c.args.value.now w t }
