use Rattle.cj_board.specs.Seats.{front, pass_view}
use Rattle.cj_cluster.specs.History.Legality.{IsLegal}
use Rattle.cj_place.specs.Layouts.{placement_of}
use Rattle.cj_pass.specs.Passes.{HasNotedMore}
use Rattle.cj_locked_cell.specs.Taking.{HasTallied}
use Rattle.cj_tally.specs.Tallies.{HaveReportedBelow}
use Rattle.cj_write_path.proofs.writes.take_everywhere.Given as goal

abbrev pub invariant-loop-b : goal.invariant-loop-b
invariant-loop-b g l =
    record {
      more : HasNotedMore (pass_view l.fn.pass.seat) (pass_view l.pass.seat);
      legal : IsLegal (front l.pass.seat);
      tallied : HasTallied g.B.Backend.tells (placement_of g.J.Naming.layout) l.fn.n l.fn.e (pass_view l.pass.seat) l.tally;
      reported : HaveReportedBelow l.b l.fn.enabled l.tally;
    }
