use Rattle.std.proofs.Common.{◌≡◌, length}
use Rattle.cj_board.specs.Seats.{board_id, book_board, book_view, AreNewCells}
use Rattle.cj_board.specs.Views.{book_with_cells}
use Rattle.cj_board.proofs.seats.Board.make_cells.Given as goal

abbrev pub invariant-loop-b : goal.invariant-loop-b
invariant-loop-b l = record {
  board : book_board l.s ≡ board_id l.self;
  book : book_view l.s ≡ book_with_cells l.b;
  many : length l.cells.items ≡ l.b;
  cells : AreNewCells (board_id l.self) 0 l.cells.items;
}
