use Rattle.cj_cluster.specs.History.Legality.{IsLegal}
use Rattle.cj_board.specs.Seats.{front}
use Rattle.cj_console.specs.Answers.{AreRightDumps}
use Rattle.cj_console_tests.proofs.steps.take_all.Given as goal

-- the next console may go on from here
abbrev pub invariant-loop-step : goal.invariant-loop-step
invariant-loop-step g l =
    record {
      legal : IsLegal (front l.pass.seat);
      dumps : AreRightDumps g.B.Backend.tells (front l.pass.seat) l.shelf.dumps;
    }
