use Rattle.std.proofs.Common.{subst, sym}
use Rattle.cj_model.specs.Sql.Names.{IsText}
use Rattle.cj_print.proofs.Texts.{joined_text, name_text}
use Rattle.cj_print.proofs.buffer.TextBuffer.push_name.Goals as goal

pub invariant_of-self-2 : goal.invariant_of-self-2
invariant_of-self-2 c =
    subst IsText (sym c.in_ok-extend_from_slice.ensures.items)
    (joined_text c.self.inside.bytes.items c.as_slice.result.now c.self.invariant (subst IsText (sym c.as_slice.ensures.value) (name_text c.args.name.now c.as_slice.ensures.name)))
