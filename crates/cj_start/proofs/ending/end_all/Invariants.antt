use Rattle.std.proofs.Common.{◌≡◌}
use Rattle.cj_start.specs.Proving.StartParts.{EndedTo}
use Rattle.cj_start.specs.Started.{IsLonger}
use Rattle.cj_start.proofs.ending.end_all.Given as goal

abbrev pub invariant-loop-before : goal.invariant-loop-before
invariant-loop-before g l =
    record {
      to : EndedTo l.fn.state l.state l.before;
      longer : IsLonger l.fn.state l.state;
      log_faults : l.state.recovery_log.faults ≡ l.fn.state.recovery_log.faults;
    }
