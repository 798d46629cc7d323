use Rattle.std.proofs.Common.{arith}
use Rattle.cj_board.proofs.AllowedSteps.{append_allowed}
use Rattle.cj_board.proofs.seats.Board.append.Goals as goal

pub compare_exchange_with-s-requires : goal.compare_exchange_with-s-requires
compare_exchange_with-s-requires c = let sized = c.args.self.now.sized in
    (c.requires.board, omega arith, append_allowed _ _ _ _ _ _ c.args.s.now.is_book c.args.s.now.counts c.requires.legal c.requires.positions c.requires.faults c.requires.counts)
