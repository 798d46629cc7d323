use Rattle.std.proofs.Common.{subst, sym}
use Rattle.cj_model.specs.Sql.Names.{IsText}
use Rattle.cj_print.proofs.Texts.{ascii_text, joined_text}
use Rattle.cj_print.proofs.buffer.TextBuffer.push_ascii.Goals as goal

pub invariant_of-self-2 : goal.invariant_of-self-2
invariant_of-self-2 c =
    subst IsText (sym c.in_ok-extend_from_slice.ensures.items)
    (joined_text c.self.inside.bytes.items c.args.words.now c.self.invariant (ascii_text c.args.words.now c.requires))
