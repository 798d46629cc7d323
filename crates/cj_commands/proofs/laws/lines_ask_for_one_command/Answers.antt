use Rattle.cj_commands.proofs.CommandLines.{no_command, one_command}
use Rattle.cj_commands.proofs.laws.lines_ask_for_one_command.Goals as goal

pub returns-clause-one : goal.returns-clause-one
returns-clause-one c = one_command

pub returns-clause-none : goal.returns-clause-none
returns-clause-none c = no_command
