use Rattle.cj_script.proofs.Requests.{no_writes, no_write, one_write}
use Rattle.cj_script.proofs.arguments.write.Goals as goal

pub returns-in_default : goal.returns-in_default
returns-in_default c = no_writes c.args.rest.now (rw c.in_default.is at c.numbered.ensures)

pub returns-in-Some-2 : goal.returns-in-Some-2
returns-in-Some-2 c =
    let found = rw c.in-Some-2.is at c.in_ok-request.ensures in
    one_write c.args.rest.now c.in-Some.session c.in-Some.sql.now c.in-Some-2.request c.in-Some.ensures found.0 found.1

pub returns-in-None : goal.returns-in-None
returns-in-None c = no_write c.args.rest.now c.in-Some.session c.in-Some.sql.now c.in-Some.ensures (rw c.in-None.is at c.in_ok-request.ensures)
