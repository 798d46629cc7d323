use Rattle.std.proofs.Common.{subst, sym}
use Rattle.cj_model.specs.Sql.Names.{IsText}
use Rattle.cj_print.proofs.Texts.{empty_text}
use Rattle.cj_print.proofs.buffer.TextBuffer.new.Goals as goal

pub invariant_of-result : goal.invariant_of-result
invariant_of-result c = subst IsText (sym c.new.ensures.items) empty_text
