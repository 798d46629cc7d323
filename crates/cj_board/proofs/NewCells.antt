-- A new cell comes last.
use Rattle.std.proofs.Common.{◌≡◌, ℕ, suc, ◌+◌, List, [], ◌∷◌, ◌++◌, length, ap, ◌∙◌, arith}
use Rattle.cj_board.proofs.Common.{Cell, CellSeat}
use Rattle.atomic_table.specs.Seated.{TableId}
use Rattle.cj_board.specs.Seats.{cell_board, cell_view, AreNewCells}
use Rattle.cj_board.specs.Views.{new_view}

pub cells_push : (id : TableId) (b : ℕ) (cs : List CellSeat) (c : CellSeat) → AreNewCells id b cs → c.b ≡ b + length cs → cell_board c ≡ id → cell_view c ≡ new_view (Cell c.b 0) → AreNewCells id b (cs ++ c ∷ [])
cells_push id b [] c f is board view = let at : c.b ≡ b = omega arith in (at, board, view ∙ ap (λ k. new_view (Cell k 0)) at, tt)
cells_push id b (x ∷ xs) c f is board view = (f.0, f.1, f.2, cells_push id (suc b) xs c f.3 (omega arith) board view)
