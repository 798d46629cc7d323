use Rattle.std.proofs.Common.{◌∙◌, sym}
use Rattle.cj_script.proofs.Requests.{plain_found, plain_not, plain_nothing}
use Rattle.cj_script.proofs.arguments.plain_request.Goals as goal

pub returns-then-is_plain : goal.returns-then-is_plain
returns-then-is_plain c = plain_found c.args.sql.now c.in-Ok.request c.in-Ok.ensures.0 c.in-Ok.ensures.1 (sym c.is_plain.ensures ∙ c.if-is_plain.true)

pub returns-else-is_plain : goal.returns-else-is_plain
returns-else-is_plain c = plain_not c.args.sql.now c.in-Ok.request c.in-Ok.ensures.1 (sym c.is_plain.ensures ∙ c.if-is_plain.false)

pub returns-in-Err-Syntax : goal.returns-in-Err-Syntax
returns-in-Err-Syntax c = plain_nothing c.args.sql.now (rw c.in-Err-Syntax.field-0-is at c.in-Err-Syntax.ensures)
