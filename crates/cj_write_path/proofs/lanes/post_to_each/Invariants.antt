use Rattle.std.specs.Prelude.{◌≡◌}
use Rattle.cj_board.specs.Seats.{pass_view}
use Rattle.cj_write_path.proofs.lanes.post_to_each.Given as goal

abbrev pub invariant-loop-b : goal.invariant-loop-b
invariant-loop-b g l =
    record {
      same : pass_view l.pass.seat ≡ pass_view l.fn.pass.seat;
    }
