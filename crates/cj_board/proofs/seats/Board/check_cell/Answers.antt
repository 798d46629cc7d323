use Rattle.std.proofs.Common.{arith}
use Rattle.cj_board.proofs.AllowedSteps.{check_cell_allowed}
use Rattle.cj_board.proofs.seats.Board.check_cell.Goals as goal

pub load-requires : goal.load-requires
load-requires c = let sized = c.args.self.now.sized in (c.requires.board, omega arith, check_cell_allowed _ _ _ _)

pub returns-clause-faults : goal.returns-clause-faults
returns-clause-faults c = (c.load.ensures.2.1 c.args.c.now.b c.args.c.now.is_cell).faults
