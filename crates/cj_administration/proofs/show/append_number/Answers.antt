use Rattle.std.proofs.Common.{subst, rules, ◌≡◌}
use Rattle.std.specs.Fmt.{decimal}
use Rattle.cj_model.specs.Sql.Names.{IsText}
use Rattle.cj_print.proofs.Texts.{ascii_text, count_text}
use Rattle.cj_administration.proofs.show.append_number.Goals as goal

pub append-requires : goal.append-requires
append-requires c = ascii_text c.args.words.now c.requires

pub append-requires-2 : goal.append-requires-2
append-requires-2 c =
    let is : decimal c.args.n ≡ c.as_bytes.result.now = search rules in
    subst IsText is (count_text c.args.n (search (rules, c.ranges.n)))
