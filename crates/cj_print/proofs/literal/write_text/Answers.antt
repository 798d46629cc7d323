use Rattle.std.proofs.Common.{rules}
use Rattle.cj_print.proofs.Texts.{some_text, quoted_text}
use Rattle.cj_print.proofs.literal.write_text.Goals as goal

pub unwrap-requires : goal.unwrap-requires
unwrap-requires c = some_text _ _ _ c.of.ensures (search rules) (quoted_text c.args.text.now c.as_slice.ensures.text)
