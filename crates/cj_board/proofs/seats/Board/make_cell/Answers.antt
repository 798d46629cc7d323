use Rattle.std.proofs.Common.{arith, ◌∙◌, ap}
use Rattle.cj_board.specs.declared.view.Role.TheVariants.{Book}
use Rattle.cj_board.proofs.AllowedSteps.{cell_allowed}
use Rattle.cj_board.proofs.seats.Board.make_cell.Goals as goal

pub split_seat-seat-requires : goal.split_seat-seat-requires
split_seat-seat-requires c = let sized = c.args.self.now.sized in let next = c.requires.next in
    (c.requires.board, omega arith, cell_allowed _ _ c.args.b _ (c.args.s.now.is_book ∙ ap Book next.0) (omega arith))
