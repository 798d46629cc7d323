use Rattle.std.proofs.Common.{arith}
use Rattle.cj_board.proofs.AllowedSteps.{look_allowed}
use Rattle.cj_board.proofs.seats.Board.load_position.Goals as goal

pub load-requires : goal.load-requires
load-requires c = let sized = c.args.self.now.sized in let from = c.from.ensures in let inside = c.requires.backend in (c.requires.board, omega arith, look_allowed _ _ _ c.args.b _ _ (omega arith))

pub returns-clause-view : goal.returns-clause-view
returns-clause-view c = let l = c.load.ensures in let from = c.from.ensures in (l.0, (l.2 c.args.b (omega arith)).0)

pub returns-clause-within : goal.returns-clause-within
returns-clause-within c = let l = c.load.ensures in let from = c.from.ensures in (l.2 c.args.b (omega arith)).1
