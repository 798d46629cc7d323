use Rattle.std.proofs.Common.{◌≡◌, length}
use Rattle.cj_model.specs.Database.Tables as tables
use Rattle.cj_dml.proofs.names.is_distinct.Given as goal

abbrev pub invariant-loop-names : goal.invariant-loop-names
invariant-loop-names l = tables.is_distinct l.names ≡ tables.is_distinct l.initial.names

abbrev pub decreases-loop-names : goal.decreases-loop-names
decreases-loop-names l = length l.names
