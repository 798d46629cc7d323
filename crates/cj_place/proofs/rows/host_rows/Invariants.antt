use Rattle.std.proofs.Common.{◌≡◌, ◌++◌, []}
use Rattle.cj_place.proofs.Common.{All, IsMasked, by_row, fold, given_rows, put_by}
use Rattle.cj_place.proofs.rows.host_rows.Given as goal

abbrev pub invariant-loop-row : goal.invariant-loop-row
invariant-loop-row l = record {
  can_next : (goal.iterator-loop-row).can_next l.row-iterator;
  is_finite : (goal.iterator-loop-row).is_finite l.row-iterator;
  masks : All (IsMasked l.fn.names) l.made.items;
  left : All (IsMasked l.fn.names) l.row-iterator;
  all : given_rows l.made.items ++ given_rows l.row-iterator ≡ fold (put_by by_row) [] l.fn.rows;
}
