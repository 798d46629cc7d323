-- A call of a session over a whole world.
use Rattle.std.specs.Prelude.{◌≡◌, ◌≢◌, ℕ, ◌+◌, Bool, true, false, List, slice_get}
use Rattle.std.specs.declared.option.Option.{Option}
use Rattle.std.specs.declared.option.Option.TheVariants.{None, Some}
use Rattle.cj_model.specs.declared.request.Act.{Act}
use Rattle.cj_model.specs.declared.request.Request.{Request}
use Rattle.cj_model.specs.declared.answer.Reply.{Reply}
use Rattle.cj_model.specs.Sql.PlainRequests.{act_of}
use Rattle.cj_cluster.specs.History.Histories.{is_enabled, is_free}
use Rattle.cj_cluster.specs.History.Turns.{Call, Turn}
use Rattle.cj_cluster.specs.Moves.Cores.{Core, find_session, session_at}
use Rattle.cj_cluster.specs.Moves.Moves.{is_open}
use Rattle.cj_cluster.specs.Moves.Runs.{seen_at}
use Rattle.cj_state.specs.Worlds.{WorldState}
use Rattle.cj_state.specs.Faults.{faults_of}
use Rattle.cj_moves.specs.Counting.{log_faults_after}
use Rattle.cj_calls.specs.CalledBackends.{AreBackendsOf, faults_counted}
use Rattle.cj_calls.specs.OwnEvents.{log_failed_in, AddsOwnEvents}
use Rattle.cj_calls.specs.Queries.{AsksBackends, IsReadAtEnd}
use Rattle.cj_calls.specs.Entries.{CarriesOut}

-- the call that the session's next request is
abbrev pub call_of : Core → ℕ → ℕ → List ℕ → Request → Reply → Call
call_of c s tx user request reply = record { number = (session_at c s).requests + 1; tx = tx; user = user; request = request; reply = reply }

-- between two calls the session is open and reads nothing, and no entry is open
pub record StandsBetweenCalls (c : Core) (s : ℕ) : Type 0 where
  pub idle : is_free c.history ≡ true
  pub here : is_open c s ≡ true
  pub no_read : (session_at c s).reading ≡ None

-- what a call does at the backends, of which these failed
abbrev pub CallsBackends : ℕ → Call → Option Act → List ℕ → WorldState → WorldState → Type 0
CallsBackends s c None failed old new = AsksBackends c failed old new
CallsBackends s c (Some act) failed old new = CarriesOut s c act failed old new

-- A call of session s leads a world to another.
pub record WorldTurn (tells : Bool) (s : ℕ) (old : WorldState) (c : Call) (new : WorldState) : Type 0 where
  pub placement : new.core.placement ≡ old.core.placement
  pub dumps : new.core.dumps ≡ old.core.dumps
  pub greatest : new.core.greatest ≡ old.core.greatest
  -- each other session is open as before, or not open as before
  pub others : (t : ℕ) → t ≢ s → find_session new.core.sessions t ≡ find_session old.core.sessions t
  pub disabled : (b : ℕ) → is_enabled old.core.history b ≡ false → slice_get new.cells b ≡ slice_get old.cells b
  pub setup : new.setup ≡ old.setup
  pub number : c.number ≡ (session_at old.core s).requests + 1
  pub requests : (session_at new.core s).requests ≡ (session_at old.core s).requests + 1
  pub turn : Turn tells old.core.placement s (seen_at old.core s) c (seen_at new.core s)
  pub at_end : IsReadAtEnd c (seen_at new.core s)
  pub stands : StandsBetweenCalls new.core s
  -- the backends that failed in the call, each as often as it did
  pub failed : List ℕ
  pub backends : AreBackendsOf old failed
  pub events : AddsOwnEvents s c (act_of c.request) failed old.core.history new.core.history
  pub faults : faults_of new.cells ≡ faults_counted (faults_of old.cells) failed
  -- the log's store counted one fault more, if the reply to a write says that it failed
  pub log_faults : new.recovery_log.faults ≡ log_faults_after old.recovery_log.faults (log_failed_in c)
  pub calls : CallsBackends s c (act_of c.request) failed old new
