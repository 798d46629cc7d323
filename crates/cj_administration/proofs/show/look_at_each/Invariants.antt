use Rattle.std.proofs.Common.{◌≡◌, length}
use Rattle.cj_board.specs.Seats.{front, pass_view}
use Rattle.cj_pass.specs.Passes.{HasNotedMore}
use Rattle.cj_administration.specs.Showing.{AreNoted, StandAtEnd}
use Rattle.cj_administration.proofs.show.look_at_each.Given as goal

abbrev pub invariant-loop-b : goal.invariant-loop-b
invariant-loop-b g l =
    record {
      more : HasNotedMore (pass_view l.fn.pass.seat) (pass_view l.pass.seat);
      each : length l.looks.items ≡ l.b;
      noted : AreNoted (pass_view l.pass.seat) l.looks.items;
      stand : StandAtEnd (front l.fn.pass.seat) (front l.pass.seat) l.looks.items;
    }
