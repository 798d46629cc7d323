use Rattle.std.proofs.Common.{◌≡◌, ◌++◌, false}
use Rattle.cj_model.specs.Database.Inserts.{has_key_twice}
use Rattle.cj_rowstore.specs.RowEntries as entries
use Rattle.cj_dml.proofs.insert.puts.Given as goal

abbrev pub invariant-loop-row : goal.invariant-loop-row
invariant-loop-row l = record {
  can_next : (goal.iterator-loop-row).can_next l.row-iterator;
  is_finite : (goal.iterator-loop-row).is_finite l.row-iterator;
  all : l.yielded ++ l.row-iterator.rest.items ≡ l.fn.rows;
  so_far : l.changes ≡ entries.puts l.place l.yielded;
  once : has_key_twice l.place l.yielded ≡ false;
}
