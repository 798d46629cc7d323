use Rattle.std.proofs.Common.{length, vec_capacity}
use Rattle.cj_core.proofs.Cited.{Leaving, state_by, states_of}
use Rattle.cj_core.proofs.start.backends_of.Given as goal

abbrev pub invariant-loop-cell : goal.invariant-loop-cell
invariant-loop-cell g l =
    Leaving (state_by g.B.Backend.told g.B.Backend.faults g.B.Backend.asks g.B.Backend.login g.B.Backend.arming) g.B.Backend.begun (states_of l.fn.cells.items) (states_of l.cells.items) l.backends.items (vec_capacity l.backends)

abbrev pub decreases-loop-cell : goal.decreases-loop-cell
decreases-loop-cell g l = length l.cells.items
