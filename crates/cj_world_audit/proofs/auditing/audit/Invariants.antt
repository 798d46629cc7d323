use Rattle.std.proofs.Common.{◌≡◌, true}
use Rattle.cj_model.specs.Sql.Names.{IsText}
use Rattle.cj_state.specs.ArmedCells.{armings_of}
use Rattle.cj_state.specs.CalledLogins.{logins_of}
use Rattle.cj_state.specs.Faults.{faults_of}
use Rattle.cj_world_audit.specs.Audits.{lines_at}
use Rattle.std.specs.List.{flat_map, range_with_len}
use Rattle.cj_world_audit.proofs.auditing.audit.Given as goal

abbrev pub invariant-loop-b : goal.invariant-loop-b
invariant-loop-b g l =
    record {
      same : l.state ≡ l.fn.state;
      core : l.state.core ≡ l.fn.state.core;
      setup : l.state.setup ≡ l.fn.state.setup;
      faults : faults_of l.state.cells ≡ faults_of l.fn.state.cells;
      recovery_log : l.state.recovery_log ≡ l.fn.state.recovery_log;
      logins : logins_of l.state.cells ≡ logins_of l.fn.state.cells;
      armings : armings_of l.state.cells ≡ armings_of l.fn.state.cells;
      text : IsText l.text.items;
      lines : g.B.Backend.tells ≡ true → l.text.items ≡ flat_map (lines_at l.fn.state.setup.names l.fn.state.core) (range_with_len 0 l.b);
    }
