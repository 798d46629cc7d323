use Rattle.std.proofs.Common.{arith, ◌≡◌, ◌∷◌, [], ◌+◌, ◌∙◌, suc, ap, sym, subst, ℕ, List, length, length-append}
use Rattle.cj_board.proofs.Common.{Cell, CellSeat}
use Rattle.cj_board.specs.Seats.{board_id, AreNewCells}
use Rattle.cj_board.specs.Steps.{after_making_cell}
use Rattle.cj_board.specs.Views.{book_with_cells, new_view, next_cell_of}
use Rattle.cj_board.proofs.NewCells.{cells_push}
use Rattle.cj_board.proofs.seats.Board.make_cells.Goals as goal

pub loop-b-preserved : goal.loop-b-preserved
loop-b-preserved c =
    let i = c.loop-b.invariant in
    let m = c.make_cell-cell.ensures in
    let cell = c.make_cell-cell.result in
    let items = c.in_ok-push.ensures.items in
    let many = i.many in
    let b = m.cell.0 in
    let n : ℕ = c.loop-b.b in
    let one : suc n ≡ n + 1 = omega arith in
    record {
      board = m.board.0 ∙ i.board;
      book = m.book ∙ (ap after_making_cell i.book ∙ ap book_with_cells one);
      many = omega (arith, ap length items, length-append c.loop-b.cells.items (cell ∷ []));
      cells = subst (λ (cs : List CellSeat). AreNewCells (board_id c.args.self.now) 0 cs) (sym items)
          (cells_push _ 0 c.loop-b.cells.items cell i.cells (omega arith) (m.board.1 ∙ i.board) (m.cell.1 ∙ (ap next_cell_of i.book ∙ ap (λ k. new_view (Cell k 0)) (sym b))));
    }
