use Rattle.std.proofs.Common.{sym, ◌∙◌}
use Rattle.std.specs.Prelude.{option_copied}
use Rattle.cj_expr.proofs.ReachLaws.{from_first, from_second}
use Rattle.cj_expr.proofs.reach.Reach.first.Goals as goal

pub returns-then-starts_first-clause-right : goal.returns-then-starts_first-clause-right
returns-then-starts_first-clause-right c = record { at = λ v h. from_first (option_copied c.args.self.start) (option_copied c.args.other.start) v (sym c.starts_first.ensures ∙ c.if-starts_first.true) h }

pub returns-else-starts_first-clause-left : goal.returns-else-starts_first-clause-left
returns-else-starts_first-clause-left c = record { at = λ v h. from_second (option_copied c.args.self.start) (option_copied c.args.other.start) v (sym c.starts_first.ensures ∙ c.if-starts_first.false) h }
