use Rattle.cj_script.proofs.Requests.{no_queries, no_named, no_query, one_query}
use Rattle.cj_script.proofs.arguments.query.Goals as goal

pub returns-in_default : goal.returns-in_default
returns-in_default c = no_queries c.args.names.now c.args.rest.now (rw c.in_default.is at c.numbered.ensures)

pub returns-in_default-named : goal.returns-in_default-named
returns-in_default-named c =
    no_named c.args.names.now c.args.rest.now c.in-Some.session c.in-Some.more.now c.in-Some.ensures (rw c.in_default-named.is at c.named.ensures)

pub returns-in-Some-2 : goal.returns-in-Some-2
returns-in-Some-2 c =
    let found = rw c.in-Some-2.is at c.in_ok-select.ensures in
    one_query c.args.names.now c.args.rest.now c.in-Some.session c.in-Some.more.now c.in-Some-named.b c.in-Some-named.sql.now c.in-Some-2.select c.in-Some.ensures c.in-Some-named.ensures found.0 found.1

pub returns-in-None : goal.returns-in-None
returns-in-None c =
    no_query c.args.names.now c.args.rest.now c.in-Some.session c.in-Some.more.now c.in-Some-named.b c.in-Some-named.sql.now c.in-Some.ensures c.in-Some-named.ensures (rw c.in-None.is at c.in_ok-select.ensures)
