use Rattle.cj_commands.proofs.Found.{backup_behind}
use Rattle.cj_commands.proofs.arguments.backup.Goals as goal

pub returns-in_err-b : goal.returns-in_err-b
returns-in_err-b c = backup_behind c.args.names.now c.args.rest.now c.in_err-b.field-0.0 c.from_residual.result c.from_residual.ensures.1 c.in_err-b.ensures
