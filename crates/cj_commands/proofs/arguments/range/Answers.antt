use Rattle.cj_commands.proofs.Found.{no_end, no_range, one_range}
use Rattle.cj_commands.proofs.arguments.range.Goals as goal

pub returns-in_default : goal.returns-in_default
returns-in_default c = no_range c.args.rest.now (rw c.in_default.is at c.numbered.ensures)

pub returns-in-Some-number : goal.returns-in-Some-number
returns-in-Some-number c = one_range c.args.rest.now c.in-Some.last.now c.in-Some.from c.in-Some-number.to c.in-Some.ensures c.in-Some-number.ensures.0

pub returns-in-None : goal.returns-in-None
returns-in-None c = no_end c.args.rest.now c.in-Some.last.now c.in-Some.from c.in-Some.ensures c.in-None.ensures
