use Rattle.std.proofs.Common.{◌≡◌, ◌++◌, take, drop}
use Rattle.cj_model.specs.Database.Tables.{name_cmp, put_by}
use Rattle.cj_model.proofs.table_set.gap_for.Given as goal

abbrev pub invariant-loop-i : goal.invariant-loop-i
invariant-loop-i l = put_by name_cmp l.names l.name ≡ take l.i l.names ++ put_by name_cmp (drop l.i l.names) l.name
