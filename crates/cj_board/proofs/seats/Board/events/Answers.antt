use Rattle.std.proofs.Common.{arith}
use Rattle.cj_board.proofs.AllowedSteps.{load_events_allowed}
use Rattle.cj_board.proofs.seats.Board.events.Goals as goal

pub load-requires : goal.load-requires
load-requires c = let sized = c.args.self.now.sized in (c.requires.board, omega arith, load_events_allowed _ _ _ _)
