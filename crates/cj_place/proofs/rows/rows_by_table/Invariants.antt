use Rattle.std.proofs.Common.{◌≡◌, []}
use Rattle.std.specs.BTreeMap.{values}
use Rattle.cj_place.proofs.Common.{All, IsMasked, by_row, fold, given_rows, put_by}
use Rattle.cj_place.proofs.Placing.{HasTable}
use Rattle.cj_place.proofs.rows.rows_by_table.Given as goal

abbrev pub invariant-loop-row : goal.invariant-loop-row
invariant-loop-row l = record {
  can_next : (goal.iterator-loop-row).can_next l.row-iterator;
  is_finite : (goal.iterator-loop-row).is_finite l.row-iterator;
  tables : All HasTable l.placed.entries;
  masks : All (IsMasked l.names) (values l.placed);
  all : fold (put_by by_row) (given_rows (values l.placed)) l.row-iterator.rest.items ≡ fold (put_by by_row) [] l.fn.rows;
}
