use Rattle.std.proofs.Common.{◌∙◌, sym}
use Rattle.cj_recovery.proofs.Common.{both_ways, is_plain}
use Rattle.cj_recovery.proofs.Texts.{no_act}
use Rattle.cj_recovery.proofs.act.find_act.Goals as goal

pub returns : goal.returns
returns c = no_act c.args.text.now c.args.request c.requires (λ plain same. both_ways (is_plain c.args.request) (sym c.is_plain.ensures ∙ c.if-is_plain.false) plain)

pub returns-then-is_plain : goal.returns-then-is_plain
returns-then-is_plain c = no_act c.args.text.now c.args.request c.requires (λ plain same. both_ways c.in_ok-is_canonical.field-0 c.if-branch.false (c.in_ok-is_canonical.ensures.1 same))
