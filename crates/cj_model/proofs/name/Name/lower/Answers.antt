use Rattle.std.proofs.Common.{map, sym, arith}
use Rattle.std.proofs.lemmas.List.{length-map}
use Rattle.cj_model.specs.Sql.Names.{lower}
use Rattle.cj_model.proofs.Names.{long_is_no_name}
use Rattle.cj_model.proofs.name.Name.lower.Goals as goal

pub returns-then-word-gt-NAME_LIMIT : goal.returns-then-word-gt-NAME_LIMIT
returns-then-word-gt-NAME_LIMIT c =
    sym (long_is_no_name (map lower c.args.word.now) (omega (arith, length-map c.args.word.now lower, c.if-word-gt-NAME_LIMIT.true)))
