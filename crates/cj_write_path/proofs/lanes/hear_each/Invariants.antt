use Rattle.cj_board.specs.Seats.{pass_view}
use Rattle.cj_place.specs.Layouts.{placement_of}
use Rattle.cj_pass.specs.Passes.{HasNotedMore}
use Rattle.cj_locked_cell.specs.Taking.{HasTallied}
use Rattle.cj_tally.specs.Tallies.{HaveReportedBelow, KeepsReports}
use Rattle.cj_write_path.proofs.lanes.hear_each.Given as goal

abbrev pub invariant-loop-b : goal.invariant-loop-b
invariant-loop-b g l =
    record {
      more : HasNotedMore (pass_view l.fn.pass.seat) (pass_view l.pass.seat);
      tallied : HasTallied g.B.Backend.tells (placement_of g.J.Naming.layout) l.fn.n l.fn.e (pass_view l.pass.seat) l.tally;
      reported : HaveReportedBelow l.b l.fn.mask l.tally;
      others : KeepsReports l.fn.tally l.tally;
    }
