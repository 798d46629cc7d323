use Rattle.cj_completeness.proofs.WholeInputs.{command_done}
use Rattle.cj_completeness.proofs.laws.completed_commands_end_with_0.Goals as goal

pub returns : goal.returns
returns c = command_done
