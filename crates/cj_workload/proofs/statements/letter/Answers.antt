use Rattle.std.proofs.Common.{◌≡◌, ◌∙◌, sym, true, arith}
use Rattle.std.proofs.lemmas.Bool.Decides.{nat_tests}
use Rattle.cj_model.specs.Sql.Names.{begins_name, is_name}
use Rattle.cj_workload.proofs.statements.letter.Goals as goal

pub returns-in-None : goal.returns-in-None
unfolding is_name
returns-in-None c =
    let begins : begins_name c.args.b ≡ true = grind (arith, nat_tests, c.requires) in
    cc (sym c.in-None.is ∙ rw begins at c.of.ensures)
