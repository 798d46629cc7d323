use Rattle.std.proofs.Common.{length, vec_capacity}
use Rattle.cj_core.proofs.Cited.{Moving, Seating, board_id, placement_of, state_by, states_of}
use Rattle.cj_core.proofs.start.cells_of.Given as goal

abbrev pub invariant-loop-backend : goal.invariant-loop-backend
invariant-loop-backend g l =
    Moving (state_by g.B.Backend.told g.B.Backend.faults g.B.Backend.asks g.B.Backend.login g.B.Backend.arming) g.B.Backend.begun (placement_of l.fn.placement) l.fn.backends.items l.backends.items (states_of l.cells.items) (vec_capacity l.cells)
    × Seating g.B.Backend.told g.B.Backend.tells (board_id l.fn.board) l.backends.items l.seats.items l.cells.items

abbrev pub decreases-loop-backend : goal.decreases-loop-backend
decreases-loop-backend g l = length l.backends.items
