use Rattle.std.proofs.Common.{subst, sym}
use Rattle.cj_model.specs.Sql.Names.{IsText}
use Rattle.cj_print.proofs.Texts.{joined_text}
use Rattle.cj_administration.proofs.show.append.Goals as goal

pub returns-clause-text : goal.returns-clause-text
returns-clause-text c was = subst IsText (sym c.in_ok-extend_from_slice.ensures.items) (joined_text c.args.text.now.items c.args.bytes.now was c.requires)
