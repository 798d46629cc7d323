use Rattle.std.proofs.Common.{codes, refl, ◌++◌}
use Rattle.cj_print.specs.Canonical.{list_text, separated, tuple_text}
use Rattle.cj_print.proofs.Appended.{added, three}
use Rattle.cj_print.proofs.statement.append_write.Goals as goal

pub returns-in_ok-append_head-in-Insert : goal.returns-in_ok-append_head-in-Insert
returns-in_ok-append_head-in-Insert c =
    rw c.in-Insert.is
    (added _ _ _ _ (codes "INSERT INTO " ++ c.in-Insert.table) _ _ (three (codes "INSERT INTO " ++ c.in-Insert.table) (list_text c.in-Insert.columns) (codes " VALUES ") (separated tuple_text c.in-Insert.rows))
    c.in_ok-append_head-in-Insert.ensures c.append_insert.ensures)

pub returns-in_ok-append_head-in-Delete : goal.returns-in_ok-append_head-in-Delete
returns-in_ok-append_head-in-Delete c =
    rw c.in-Delete.is (added _ _ _ _ (codes "DELETE FROM " ++ c.in-Delete.table) _ _ refl c.in_ok-append_head-in-Delete.ensures c.append_where.ensures)
