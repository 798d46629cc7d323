use Rattle.std.proofs.Common.{subst}
use Rattle.cj_model.specs.Sql.Grammar.{ReadsAsNothing}
use Rattle.cj_recovery.proofs.Texts.{no_reading}
use Rattle.cj_recovery.proofs.act.read_act.Goals as goal

pub returns-in-Err-Syntax : goal.returns-in-Err-Syntax
returns-in-Err-Syntax c =
    let none = rw c.in-Err-Syntax.field-0-is at c.in-Err-Syntax.ensures in
    no_reading c.args.text.now (subst ReadsAsNothing c.as_slice.ensures.value none)
