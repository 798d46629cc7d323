use Rattle.cj_board.specs.Seats.{board_id}
use Rattle.cj_served.proofs.started.serve_over.Given as goal

-- the names of the cluster that is made
abbrev pub ghosts-serve_at : goal.ghosts-serve_at
ghosts-serve_at g a = record { board = board_id a.shared.board; layout = a.shared.book.state.layout; turn = a.blank.name; tells = g.B.Backend.tells }
