use Rattle.std.proofs.Common.{arith, ap, inl}
use Rattle.cj_board.proofs.AllowedSteps.{place_allowed}
use Rattle.cj_board.proofs.seats.Board.out.Goals as goal

pub store-requires : goal.store-requires
store-requires c = let sized = c.args.self.now.sized in let inside = c.args.c.now.inside in let words = ap (λ t. t.words) c.requires.board in
    (c.requires.board, omega arith, place_allowed _ _ _ c.args.c.now.b _ _ _ (omega arith) c.args.c.now.is_cell (λ ne. absurd (ne (omega arith))) (inl c.requires.below))
