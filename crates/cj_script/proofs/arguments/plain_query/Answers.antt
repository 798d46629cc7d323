use Rattle.cj_model.specs.declared.request.Request.TheVariants as request
use Rattle.cj_script.proofs.Requests.{found_query}
use Rattle.cj_script.proofs.arguments.plain_query.Goals as goal

pub returns-in-Some : goal.returns-in-Some
returns-in-Some c =
    let found = rw c.in-Some.is at c.in_ok-request.ensures in
    found_query c.args.sql.now c.in-Some.request c.as_query.result found.0 found.1 c.as_query.ensures

pub returns-in-None : goal.returns-in-None
returns-in-None c =
    let none = rw c.in-None.is at c.in_ok-request.ensures in
    λ x i. none (request.Select x) i
