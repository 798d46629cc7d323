use Rattle.std.proofs.Common.{◌≡◌}
use Rattle.cj_state.proofs.Cited.{AreAt, HasLearned, KnowsPositions, board_id, pass_board, states_of}
use Rattle.cj_state.proofs.hearing.hear_all.Given as goal

abbrev pub invariant-loop-b : goal.invariant-loop-b
invariant-loop-b g l =
    AreAt (board_id l.fn.board) (pass_board l.pass) l.book.board l.cells.items × HasLearned l.fn.book l.book × (states_of l.cells.items ≡ states_of l.fn.cells.items) × KnowsPositions l.book (states_of l.fn.cells.items) l.b
