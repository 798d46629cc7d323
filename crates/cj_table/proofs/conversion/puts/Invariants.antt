use Rattle.std.proofs.Common.{◌≡◌}
use Rattle.cj_table.proofs.Cited.{Some, cell, fold, insert_entry, value_cmp}
use Rattle.cj_rowstore.specs.RowEntries as entries
use Rattle.cj_table.proofs.conversion.puts.Given as goal

abbrev pub invariant-loop-row : goal.invariant-loop-row
invariant-loop-row l = record {
  can_next : (goal.iterator-loop-row).can_next l.row-iterator;
  is_finite : (goal.iterator-loop-row).is_finite l.row-iterator;
  so_far : fold (λ changes r. insert_entry value_cmp changes (cell r l.place) (Some r)) l.changes l.row-iterator.rest.items ≡ entries.puts l.place l.fn.rows;
}
