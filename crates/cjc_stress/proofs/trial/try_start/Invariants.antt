use Rattle.cj_board.specs.Seats.{board_id}
use Rattle.cjc_stress.proofs.trial.try_start.Given as goal

-- the names of the cluster that is made
abbrev pub ghosts-try_shared : goal.ghosts-try_shared
ghosts-try_shared g a = record { board = board_id a.shared.board; layout = a.shared.book.state.layout; turn = a.blank.name; tells = g.B.Backend.tells }
