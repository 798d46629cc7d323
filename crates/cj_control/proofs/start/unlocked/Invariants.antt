use Rattle.std.proofs.Common.{◌≡◌, ◌+◌, ◌≤◌, All, length, vec_capacity}
use mathlib.Core.List.{IsPrefix}
use Rattle.cj_board.specs.Seats.{front, pass_view}
use Rattle.cj_cluster.specs.History.Legality.{IsLegal}
use Rattle.cj_pass.specs.Passes.{HasNotedMore}
use Rattle.cj_control.specs.Starting.{FallTo}
use Rattle.cj_control.proofs.start.unlocked.Given as goal

abbrev pub invariant-loop-lock : goal.invariant-loop-lock
invariant-loop-lock g l =
    record {
      more : HasNotedMore (pass_view l.fn.pass.seat) (pass_view l.pass.seat);
      legal : IsLegal (front l.pass.seat);
      count : length l.cells.items + length l.locks.items ≡ length l.fn.locks.items;
      room : length l.fn.locks.items ≤ vec_capacity l.cells;
      numbered : FallTo (λ x. x.cell.state.b) (length l.locks.items) l.cells.items;
      seen : All (λ x. IsPrefix x.cell.view.front (front l.pass.seat)) l.cells.items;
    }

abbrev pub decreases-loop-lock : goal.decreases-loop-lock
decreases-loop-lock g l = length l.locks.items
