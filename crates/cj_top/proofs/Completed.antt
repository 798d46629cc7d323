-- Commands over which neither the input nor the output counted a fault, and memory was not wanting.
use Rattle.std.proofs.Common.{◌≡◌, ◌≢◌, ◌⊎◌, inl, inr, ℕ, ℤ, ◌-◌, ◌^◌, ◌<◌, Bool, true, List, Option, Result, Ok, Err, refl, ◌∙◌, arith}
use Rattle.cj_top.proofs.Common.{Command, Conf, Gen, Log, LogItem, OutError, Pipe, Script, ScriptEnd, SessionEnd, StartError, WorldState}
use Rattle.cj_cluster.specs.declared.session.SessionEnd.TheVariants as end
use Rattle.cj_conf.specs.declared.error.ConfError.{ConfError}
use Rattle.cj_outside.specs.Causes.{CountsFault}
use Rattle.cj_outside.specs.declared.sink.OutError.TheVariants as out_errors
use Rattle.cj_script.specs.declared.play.ScriptEnd.TheVariants as script_end
use Rattle.cj_top.proofs.Unopened.{start_status}
use Rattle.cj_top.specs.Completeness.{CompletesCommand, PipesInput, ScriptsInput, is_end_by_input, is_script_end_by_input}
use Rattle.cj_top.specs.Logs.{StopsAtLog}
use Rattle.cj_top.specs.Piped.{RunsPipe}
use Rattle.cj_top.specs.Program.{status_of_listing, status_of_script, status_of_session}
use Rattle.cj_top.specs.Runs.{ComesBy, RefusesConf, RunsCommand, RunsConfigured}
use Rattle.cj_top.specs.Scripted.{RunsScript}

-- what counted no fault did not fail
pub not_failed : (Failed : Type 0) (before now : ℕ) → CountsFault Failed before now → now ≡ before → before < 2 ^ 64 - 1 → Failed → ⊥
not_failed Failed before now cause same room failed = let rose = cause.counted failed in absurd (omega (arith, rose, room, same))

-- ---- ends, by their statuses

session_by_input : (ending : SessionEnd) → (status_of_session ending ≢ 1) → (status_of_session ending ≢ 5) → (status_of_session ending ≢ 6) → is_end_by_input ending ≡ true
session_by_input end.Quit memory read write = refl
session_by_input end.Eof memory read write = refl
session_by_input end.Cut memory read write = refl
session_by_input (end.BadFrame fault) memory read write = refl
session_by_input end.ReadFault memory read write = absurd (read refl)
session_by_input end.WriteFault memory read write = absurd (write refl)
session_by_input end.Spent memory read write = refl
session_by_input end.NoMemory memory read write = absurd (memory refl)

script_by_input : (ending : ScriptEnd) → (status_of_script ending ≢ 1) → (status_of_script ending ≢ 5) → (status_of_script ending ≢ 6) → is_script_end_by_input ending ≡ true
script_by_input script_end.Done memory read write = refl
script_by_input (script_end.Line number) memory read write = refl
script_by_input script_end.ReadFault memory read write = absurd (read refl)
script_by_input script_end.WriteFault memory read write = absurd (write refl)
script_by_input script_end.Spent memory read write = refl
script_by_input script_end.NoMemory memory read write = absurd (memory refl)

-- ---- commands

module _ (left held held' : Option (List ℕ)) (status : ℕ) (one : status ≢ 1) (five : status ≢ 5) (six : status ≢ 6) where
  pipe_completes : (c : Conf) (tells : Bool) (found : List LogItem → Type 0) (GoesOn : WorldState → WorldState → Type 0) (moment : Option ℤ) (left' : Option (List ℕ)) → RunsPipe tells c found GoesOn moment left left' held held' status → PipesInput tells left held held' status
  pipe_completes c tells found GoesOn moment left' r =
      let by = session_by_input r.ending (λ e. one (r.status_is ∙ e)) (λ e. five (r.status_is ∙ e)) (λ e. six (r.status_is ∙ e)) in
      record {
        ending = r.ending;
        by_input = by;
        replies = r.serves.served.transcript.replies;
        answers = r.serves.whole by;
        blameless = r.blameless;
        status_is = r.status_is;
      }

  script_completes : (c : Conf) (found : List LogItem → Type 0) (GoesOn : WorldState → WorldState → Type 0) (left' errors errors' : Option (List ℕ)) (before now : ℕ) → RunsScript c found GoesOn left left' held held' errors errors' before now status
      → ScriptsInput c.placement.names left status
  script_completes c found GoesOn left' errors errors' before now r =
      let by = script_by_input r.ending (λ e. one (r.status_is ∙ e)) (λ e. five (r.status_is ∙ e)) (λ e. six (r.status_is ∙ e)) in
      record { ending = r.ending; by_input = by; plays = r.played.whole by; status_is = r.status_is }

  listed_status : (answer : Result (Unit {0}) OutError) → status ≡ status_of_listing answer → status ≡ 0
  listed_status (Ok _) is = is
  listed_status (Err out_errors.Failed) is = absurd (six is)
  listed_status (Err out_errors.NoMemory) is = absurd (one is)

  module _ (seven : status ≢ 7) (eight : status ≢ 8) (twelve : status ≢ 12) (found : List LogItem → Type 0) (GoesOn : WorldState → WorldState → Type 0) (Reads : ℕ → Type 0) (Same : Type 0) (Refuses Tells : StartError → Type 0) (Idle Quiet : Type 0) (moment : Option ℤ) (left' errors errors' : Option (List ℕ)) (before now : ℕ) where
    not_stopped : StopsAtLog Refuses Tells Idle status → ⊥
    not_stopped s = start_status s.error (λ e. one (s.status_is ∙ e)) (λ e. seven (s.status_is ∙ e)) (λ e. eight (s.status_is ∙ e))

    abbrev Comes : Command → Conf → Type 0
    Comes command c = ComesBy command c found GoesOn Reads Same (StopsAtLog Refuses Tells Idle) Quiet moment left left' held held' errors errors' before now status

    completes : (command : Command) (c : Conf) → Comes command c → CompletesCommand command left held held' status c
    completes (Pipe path) c (inl runs) = pipe_completes c _ found GoesOn moment left' runs
    completes (Pipe path) c (inr (inl s)) = absurd (not_stopped s)
    completes (Pipe path) c (inr (inr q)) = absurd (twelve q.0)
    completes (Script path) c (inl runs) = script_completes c found GoesOn left' errors errors' before now runs
    completes (Script path) c (inr s) = absurd (not_stopped s)
    completes (Log path) c (reads, inl lists) = listed_status lists.answer lists.status_is
    completes (Log path) c (reads, inr s) = absurd (not_stopped s)
    completes (Gen path seed count) c (same, inl runs) = listed_status runs.answer runs.status_is
    completes (Gen path seed count) c (same, inr q) = absurd (one q.0)

    pub command_completes : (command : Command) (tells : Bool) (store : List ℕ) (TellsConf : ConfError → Type 0) (IdleConf QuietConf : Type 0) → RunsCommand tells store TellsConf IdleConf QuietConf (Comes command) status
        → RefusesConf tells store (λ (error : ConfError). Unit {0}) (Unit {0}) status ⊎ RunsConfigured tells store (CompletesCommand command left held held' status)
    command_completes command tells store TellsConf IdleConf QuietConf (inl (inl failed, quiet)) = absurd (seven failed)
    command_completes command tells store TellsConf IdleConf QuietConf (inl (inr starved, quiet)) = absurd (one starved)
    command_completes command tells store TellsConf IdleConf QuietConf (inr (inl r)) =
        inl (record {
          bytes = r.bytes;
          are = r.are;
          error = r.error;
          refused = r.refused;
          told = tt;
          idle = tt;
          status_is = r.status_is;
        })
    command_completes command tells store TellsConf IdleConf QuietConf (inr (inr r)) =
        inr (record {
          bytes = r.bytes;
          are = r.are;
          conf = r.conf;
          accepted = r.accepted;
          runs = completes command r.conf r.runs;
        })
