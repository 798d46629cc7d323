use Rattle.std.proofs.Common.{◌≡◌, ◌++◌, map}
use Rattle.cj_table.proofs.Cited.{PairsRise, Turned, deref, value_cmp}
use Rattle.cj_rowstore.specs.RowEntries as entries
use Rattle.cj_table.proofs.conversion.changes_to.Given as goal

abbrev pub invariant-loop-row : goal.invariant-loop-row
invariant-loop-row l = record {
  rises : PairsRise value_cmp l.changes;
  turned : Turned l.place (map deref l.yielded) (entries.puts l.place l.fn.new) l.changes;
  all : map deref l.yielded ++ l.row-iterator ≡ l.fn.old;
}
