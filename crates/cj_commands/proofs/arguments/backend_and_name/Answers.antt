use Rattle.std.proofs.Common.{◌≡◌, true, rules}
use Rattle.cj_commands.proofs.Common.{is_name}
use Rattle.cj_commands.proofs.Found.{name_behind, no_name_behind}
use Rattle.cj_commands.proofs.arguments.backend_and_name.Goals as goal

pub returns-in_default-of : goal.returns-in_default-of
returns-in_default-of c =
    let cuts = rw c.in_default-Some.is-1 at c.cut.ensures in
    let other : is_name c.in_default-Some.name.now ≡ true → ⊥ = search rules in
    no_name_behind c.args.names.now c.args.rest.now c.cut.result.0.now c.in_default-Some.name.now cuts other

pub returns-in_err-b : goal.returns-in_err-b
returns-in_err-b c =
    let cuts = rw c.in_default-Some.is-1 at c.cut.ensures in
    let named : is_name c.in_default-Some.name.now ≡ true = search rules in
    name_behind c.args.names.now c.args.rest.now c.cut.result.0.now c.in_default-Some.name.now c.in_err-b.field-0.0 c.from_residual.result cuts named c.from_residual.ensures.1 c.in_err-b.ensures
