use Rattle.std.proofs.Common.{arith}
use Rattle.cj_board.proofs.AllowedSteps.{check_count_allowed}
use Rattle.cj_board.proofs.seats.Board.check_count.Goals as goal

pub load-requires : goal.load-requires
load-requires c = let sized = c.args.self.now.sized in (c.requires.board, omega arith, check_count_allowed _ _ _ _)
