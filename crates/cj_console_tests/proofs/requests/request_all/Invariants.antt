use Rattle.std.specs.Prelude.{◌≡◌, ◌<◌, ◌≤◌, length}
use Rattle.cj_desk.specs.DeskStates.{desk_tx}
use Rattle.cj_console_tests.proofs.requests.request_all.Given as goal

-- the session's transaction is known, and it has made a request for each text
abbrev pub invariant-loop-text : goal.invariant-loop-text
invariant-loop-text g l =
    record {
      transaction : l.tx ≡ desk_tx (g.K.Desk.state_of l.desk);
      few : (g.K.Desk.state_of l.desk).requests ≤ l.text-index;
      short : length l.texts < 100;
    }
