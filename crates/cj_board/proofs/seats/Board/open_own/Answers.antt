use Rattle.std.proofs.Common.{arith}
use Rattle.cj_board.proofs.AllowedSteps.{own_pass_allowed}
use Rattle.cj_board.proofs.seats.Board.open_own.Goals as goal

pub split_seat-seat-requires : goal.split_seat-seat-requires
split_seat-seat-requires c = let sized = c.args.self.now.sized in (c.requires.board, omega arith, own_pass_allowed _ _ _ c.args.s.now.is_book)
