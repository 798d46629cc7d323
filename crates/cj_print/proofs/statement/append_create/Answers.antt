use Rattle.std.proofs.Common.{codes, ◌++◌}
use Rattle.cj_print.specs.Canonical.{separated, coldef_text}
use Rattle.cj_print.proofs.Appended.{added, three}
use Rattle.cj_print.proofs.statement.append_create.Goals as goal

pub returns : goal.returns
returns c =
    added _ _ _ _ (codes "CREATE TABLE " ++ c.args.create.now.table) _ _ (three (codes "CREATE TABLE " ++ c.args.create.now.table) (codes " (") (separated coldef_text c.args.create.now.columns) (codes ")"))
    c.in_ok-append_head.ensures c.append_columns.ensures
