use Rattle.std.proofs.Common.{arith}
use Rattle.cj_board.proofs.AllowedSteps.{split_allowed}
use Rattle.cj_board.proofs.seats.Board.split_pass.Goals as goal

pub split_seat-requires : goal.split_seat-requires
split_seat-requires c = let sized = c.args.self.now.sized in let key = sized.1 in (c.requires, omega arith, split_allowed _ _ _)
