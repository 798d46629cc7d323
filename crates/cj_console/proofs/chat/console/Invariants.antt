use Rattle.std.proofs.Common.{◌≡◌, ◌≤◌, ◌+◌, ◌-◌, length}
use Rattle.cj_outside.specs.Streams.{most}
use Rattle.cj_cluster.specs.History.Legality.{IsLegal}
use Rattle.cj_board.specs.Seats.{front, pass_view}
use Rattle.cj_pass.specs.Passes.{HasSeenMore}
use Rattle.cj_console.specs.Answers.{AreRightDumps}
use Rattle.cj_console.proofs.Chatting.{Chatting}
use Rattle.cj_console.proofs.chat.console.Given as goal

abbrev pub invariant-loop-line : goal.invariant-loop-line
invariant-loop-line g l =
    record {
      chatting :
          Chatting (record { tells = g.B.Backend.tells; kept = g.D.Store.tells; layout = g.J.Naming.layout; held = g.D.Store.held; faults = g.D.Store.faults }) (g.I.Source.left l.fn.input) (g.O.Sink.held l.fn.output)
          (record { view = pass_view l.fn.pass.seat; shelf = l.fn.shelf }) (g.I.Source.left l.input) (g.O.Sink.held l.output) l.lines.rest l.lines.taken (record { view = pass_view l.pass.seat; shelf = l.shelf });
      few : l.lines.taken ≤ most;
      seen : HasSeenMore (pass_view l.fn.pass.seat) (pass_view l.pass.seat);
      legal : IsLegal (front l.pass.seat);
      dumps : AreRightDumps g.B.Backend.tells (front l.pass.seat) l.shelf.dumps;
      input : g.I.Source.faults l.input ≡ g.I.Source.faults l.fn.input;
      output : g.O.Sink.faults l.output ≡ g.O.Sink.faults l.fn.output;
    }

abbrev pub decreases-loop-line : goal.decreases-loop-line
decreases-loop-line g l = most + length l.lines.rest - l.lines.taken
