use Rattle.std.proofs.Common.{◌∙◌, sym}
use Rattle.cj_commands.proofs.Common.{false≢true, HasNoSpace}
use Rattle.cj_commands.proofs.Found.{enable_behind}
use Rattle.cj_commands.proofs.arguments.enable.Goals as goal

pub returns-in_err-b-2 : goal.returns-in_err-b-2
returns-in_err-b-2 c =
    let more = λ (h : HasNoSpace c.args.rest.now). false≢true (sym c.if-is_word.false ∙ c.is_word.ensures.1 h) in
    enable_behind c.args.names.now c.args.rest.now c.in_err-b-2.field-0.0 c.from_residual-in_err-b-2.result more c.from_residual-in_err-b-2.ensures.1 c.in_err-b-2.ensures
