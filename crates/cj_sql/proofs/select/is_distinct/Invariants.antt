use Rattle.std.proofs.Common.{◌≡◌, length}
use Rattle.cj_model.specs.Database.Tables as tables
use Rattle.cj_sql.proofs.select.is_distinct.Given as goal

-- the names that are left decide
abbrev pub invariant-loop-names : goal.invariant-loop-names
invariant-loop-names l = tables.is_distinct l.fn.names ≡ tables.is_distinct l.names

-- how many names are left
abbrev pub decreases-loop-names : goal.decreases-loop-names
decreases-loop-names l = length l.names
