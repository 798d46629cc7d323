use Rattle.std.specs.Prelude.{◌≡◌, ◌<◌, ◌≤◌, All, length}
use Rattle.cj_board.specs.Seats.{front}
use Rattle.cj_desk.specs.DeskStates.{desk_tx}
use Rattle.cj_return_path.specs.Restoring.{IsRightDump}
use Rattle.cj_restore_tests.proofs.steps.take_all.Given as goal

-- each dump may be loaded, the session's transaction is known, and no step asks for more than one request
abbrev pub invariant-loop-step : goal.invariant-loop-step
invariant-loop-step g l =
    record {
      right : All (IsRightDump g.B.Backend.tells (front l.pass.seat)) l.shelf.dumps;
      transaction : l.tx ≡ desk_tx (g.K.Desk.state_of l.desk);
      few : (g.K.Desk.state_of l.desk).requests ≤ l.step-index;
      short : length l.steps < 100;
    }
