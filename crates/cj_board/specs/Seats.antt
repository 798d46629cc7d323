-- What contracts say of the seats.
use Rattle.std.specs.Prelude.{◌≡◌, ℕ, suc, List, [], ◌∷◌}
use Rattle.atomic_table.specs.Seated.{TableId}
use Rattle.cj_cluster.specs.declared.event.Event.{Event}
use Rattle.cj_board.specs.declared.view.SeatView.{SeatView}
use Rattle.cj_board.specs.declared.view.Role.TheVariants.{Cell}
use Rattle.cj_board.specs.declared.seats.Board.{Board}
use Rattle.cj_board.specs.declared.seats.BookSeat.{BookSeat}
use Rattle.cj_board.specs.declared.seats.CellSeat.{CellSeat}
use Rattle.cj_board.specs.declared.seats.Pass.{Pass}
use Rattle.cj_board.specs.Views.{role_position, new_view}

-- ---- which board it is, and of which board the seats are

abbrev pub board_id : Board → TableId
board_id b = b.table.shared.table_id

abbrev pub book_board : BookSeat → TableId
book_board s = s.seat.table_id

abbrev pub cell_board : CellSeat → TableId
cell_board c = c.seat.table_id

abbrev pub pass_board : Pass → TableId
pass_board p = p.seat.table_id

-- ---- what the seats know

abbrev pub book_view : BookSeat → SeatView
book_view s = s.seat.me.0

abbrev pub cell_view : CellSeat → SeatView
cell_view c = c.seat.me.0

abbrev pub pass_view : Pass → SeatView
pass_view p = p.seat.me.0

-- the whole history
abbrev pub history : BookSeat → List Event
history s = (book_view s).front

-- the beginning of the history that a cell has seen, and below that a pass has seen
abbrev pub seen : CellSeat → List Event
seen c = (cell_view c).front

abbrev pub front : Pass → List Event
front p = (pass_view p).front

abbrev pub position : CellSeat → ℕ
position c = role_position (cell_view c).role

-- the cells of the backends from b on, none of which has seen anything
abbrev pub AreNewCells : TableId → ℕ → List CellSeat → Type 0
AreNewCells id b [] = Unit {0}
AreNewCells id b (c ∷ cs) = (c.b ≡ b) × (cell_board c ≡ id) × (cell_view c ≡ new_view (Cell b 0)) × AreNewCells id (suc b) cs
