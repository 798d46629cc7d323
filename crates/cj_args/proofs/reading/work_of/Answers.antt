use Rattle.std.proofs.Common.{map}
use Rattle.std.specs.Prelude.{string_bytes}
use Rattle.cj_args.proofs.Asking.{if_err, work_some}
use Rattle.cj_args.proofs.reading.work_of.Goals as goal

pub returns-in_err-command-clause-memory : goal.returns-in_err-command-clause-memory
returns-in_err-command-clause-memory c = if_err c.from_residual.result (work_some c.args.verb (map string_bytes c.args.words.now) c.in_err-command.ensures.memory)
