use Rattle.cj_board.specs.Seats.{board_id}
use Rattle.cj_control_tests.proofs.clusters.play_with_cache.Given as goal

-- the names of the cluster that is made
abbrev pub ghosts-play_at : goal.ghosts-play_at
ghosts-play_at g a = record { board = board_id a.shared.board; layout = a.shared.book.state.layout; turn = a.blank.name; tells = g.B.Backend.tells }
