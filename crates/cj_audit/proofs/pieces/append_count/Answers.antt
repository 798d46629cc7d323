use Rattle.std.proofs.Common.{subst, rules, ◌≡◌}
use Rattle.std.specs.Fmt.{decimal}
use Rattle.cj_model.specs.Sql.Names.{IsText}
use Rattle.cj_print.proofs.Texts.{count_text}
use Rattle.cj_audit.proofs.pieces.append_count.Goals as goal

pub append_text-requires : goal.append_text-requires
append_text-requires c =
    let is : decimal c.args.count ≡ c.as_bytes.result.now = search rules in
    subst IsText is (count_text c.args.count (search (rules, c.ranges.count)))
