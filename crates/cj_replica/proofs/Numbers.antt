-- The number of a cell's backend.
use Rattle.std.proofs.Common.{◌≡◌, ℕ, ◌+◌, ◌*◌, ◌<◌, arith}
use Rattle.cj_board.specs.declared.seats.Board.{Board}
use Rattle.cj_board.specs.Seats.{board_id}
use Rattle.cj_replica.specs.Seated.{HasBackend}

-- it is below the number of backends of its board
pub below_backends : (board : Board) (b : ℕ) → HasBackend (board_id board) b → b < board.backends
below_backends board b has =
    let inside : 2 * b + 1 < (board_id board).words = has in
    let sized : (board_id board).words ≡ 2 * board.backends + 1 = board.sized.0 in
    omega arith
