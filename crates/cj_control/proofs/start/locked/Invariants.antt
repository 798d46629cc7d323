use Rattle.std.proofs.Common.{◌≡◌, ◌+◌, ◌≤◌, All, length, vec_capacity}
use Rattle.cj_place.specs.Layouts.{placement_of}
use Rattle.cj_replica.specs.Seated.{SeatedCell}
use Rattle.cj_state.specs.Seats.{AreCellsAt}
use Rattle.cj_control.proofs.start.locked.Given as goal

abbrev pub invariant-loop-cell : goal.invariant-loop-cell
invariant-loop-cell g l =
    record {
      at : AreCellsAt g.J.Naming.board l.cells.items;
      placed : All (λ (x : SeatedCell). x.state.placement ≡ placement_of g.J.Naming.layout) l.cells.items;
      count : length l.locks.items + length l.cells.items ≡ length l.fn.cells.items;
      room : length l.fn.cells.items ≤ vec_capacity l.locks;
    }

abbrev pub decreases-loop-cell : goal.decreases-loop-cell
decreases-loop-cell g l = length l.cells.items
