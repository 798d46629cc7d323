use Rattle.std.proofs.Common.{◌≡◌, codes, rules}
use Rattle.cj_commands.proofs.Found.{not_log, of_log}
use Rattle.cj_commands.proofs.arguments.log_range.Goals as goal

pub returns-then-eq : goal.returns-then-eq
returns-then-eq c =
    let cuts = rw c.in_default-Some.is-1 at c.cut.ensures in
    let is : c.cut.result.0.now ≡ codes "log" = search rules in
    of_log c.args.rest.now c.cut.result.0.now c.in_default-Some.numbers.now c.range.result cuts is (rw c.in_default-Some.numbers-is at c.range.ensures)

pub returns-else-eq : goal.returns-else-eq
returns-else-eq c =
    let cuts = rw c.in_default-Some.is-1 at c.cut.ensures in
    let other : c.cut.result.0.now ≡ codes "log" → ⊥ = search rules in
    not_log c.args.rest.now c.cut.result.0.now c.in_default-Some.numbers.now cuts other
