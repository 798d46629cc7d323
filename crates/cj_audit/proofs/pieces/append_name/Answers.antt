use Rattle.std.proofs.Common.{subst, sym}
use Rattle.cj_model.specs.Sql.Names.{IsText}
use Rattle.cj_print.proofs.Texts.{name_text}
use Rattle.cj_audit.proofs.pieces.append_name.Goals as goal

pub append_text-requires : goal.append_text-requires
append_text-requires c = subst IsText (sym c.as_slice.ensures.value) (name_text c.args.name.now c.as_slice.ensures.name)
