use Rattle.cj_commands.proofs.CommandLines.{read_no_backend}
use Rattle.cj_commands.proofs.reading.read_command.Goals as goal

pub returns-clause-no_backend : goal.returns-clause-no_backend
returns-clause-no_backend c = read_no_backend c.args.names.now c.args.line.now c.read.result c.read.ensures
