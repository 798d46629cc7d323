use Rattle.std.proofs.Common.{◌∙◌, arith}
use Rattle.cj_board.proofs.AllowedSteps.{join_allowed, compare_allowed}
use Rattle.cj_board.proofs.seats.Board.join.Goals as goal

pub join_seat-requires : goal.join_seat-requires
join_seat-requires c = let sized = c.args.self.now.sized in (c.requires.board.0, c.requires.board.1, c.requires.roles.1, omega arith, join_allowed _ _ _ _ _ c.requires.roles.0)

pub load-requires : goal.load-requires
load-requires c = let sized = c.args.self.now.sized in (c.join_seat.ensures.0 ∙ c.requires.board.0, omega arith, compare_allowed _ _ _ _)
