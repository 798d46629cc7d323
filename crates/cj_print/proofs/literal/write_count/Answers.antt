use Rattle.std.proofs.Common.{rules}
use Rattle.cj_print.proofs.Texts.{some_text, count_text}
use Rattle.cj_print.proofs.literal.write_count.Goals as goal

pub unwrap-requires : goal.unwrap-requires
unwrap-requires c = some_text _ _ _ c.of.ensures (search rules) (count_text c.args.count (search (rules, c.ranges.count)))
