use Rattle.std.proofs.Common.{◌≤◌, length, Contains}
use Rattle.cj_board.specs.Seats.{front, pass_view}
use Rattle.cj_cluster.specs.History.Histories.{log}
use Rattle.cj_cluster.specs.History.Legality.{IsLegal}
use Rattle.cj_pass.specs.Passes.{HasNotedMore}
use Rattle.cj_return_path.proofs.replays.replay_from.Given as goal

abbrev pub invariant-loop : goal.invariant-loop
invariant-loop g l =
    record {
      more : HasNotedMore (pass_view l.fn.pass.seat) (pass_view l.pass.seat);
      legal : IsLegal (front l.pass.seat);
      noted : Contains (pass_view l.pass.seat).position_notes (l.fn.b, l.n);
      within : l.n ≤ length (log (front l.pass.seat));
      taken : l.counter ≤ l.n;
    }
