use Rattle.std.proofs.Common.{rules}
use Rattle.cj_print.proofs.Texts.{some_text, number_text}
use Rattle.cj_print.proofs.literal.write_number.Goals as goal

pub unwrap-requires : goal.unwrap-requires
unwrap-requires c = some_text _ _ _ c.of.ensures (search rules) (number_text c.args.number (search (rules, c.ranges.number)))
