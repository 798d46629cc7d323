use Rattle.std.proofs.Common.{arith, ap}
use Rattle.cj_board.proofs.AllowedSteps.{advance_allowed}
use Rattle.cj_board.proofs.seats.Board.advance.Goals as goal

pub fetch_add-requires : goal.fetch_add-requires
fetch_add-requires c = let sized = c.args.self.now.sized in let inside = c.args.c.now.inside in let words = ap (λ t. t.words) c.requires.board in
    (c.requires.board, omega arith, advance_allowed _ _ _ c.args.c.now.b _ _ (omega arith) c.args.c.now.is_cell c.requires.below)
