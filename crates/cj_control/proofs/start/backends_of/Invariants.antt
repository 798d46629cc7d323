use Rattle.std.proofs.Common.{◌≡◌, ◌+◌, ◌≤◌, All, length, vec_capacity}
use mathlib.Core.List.{IsPrefix}
use Rattle.cj_board.specs.Seats.{front, pass_view}
use Rattle.cj_place.specs.Layouts.{placement_of}
use Rattle.cj_control.specs.Starting.{FallTo, HoldFrom, IsCurrentAt}
use Rattle.cj_control.proofs.start.backends_of.Given as goal

abbrev pub invariant-loop-cell : goal.invariant-loop-cell
invariant-loop-cell g l =
    record {
      same : pass_view l.pass.seat ≡ pass_view l.fn.pass.seat;
      count : length l.backends.items + length l.cells.items ≡ length l.fn.cells.items;
      room : length l.fn.cells.items ≤ vec_capacity l.backends;
      numbered : FallTo (λ x. x.cell.state.b) (length l.backends.items) l.cells.items;
      seen : All (λ x. IsPrefix x.cell.view.front (front l.fn.pass.seat)) l.cells.items;
      current : HoldFrom (λ b x. IsCurrentAt g.B.Backend.tells (placement_of g.J.Naming.layout) (front l.fn.pass.seat) b (g.B.Backend.told x)) 0 l.backends.items;
    }

abbrev pub decreases-loop-cell : goal.decreases-loop-cell
decreases-loop-cell g l = length l.cells.items
