-- The statuses that all commands share, and the texts that are asked for.
use Rattle.std.specs.Prelude.{◌≡◌, ◌⊎◌, ℕ, List, Result, Ok, Err}
use Rattle.std.specs.declared.option.Option.{Option}
use Rattle.cj_outside.specs.Streams.{WritesAll}
use Rattle.cj_outside.specs.declared.sink.OutError.{OutError}
use Rattle.cj_outside.specs.declared.sink.OutError.TheVariants as out_errors
use Rattle.cj_args.specs.Words.{AsksCommand}
use Rattle.cj_args.specs.declared.asked.Asked.TheVariants as asked
use Rattle.cj_args.specs.declared.asked.Topic.{Topic}
use Rattle.cj_cluster.specs.declared.session.SessionEnd.{SessionEnd}
use Rattle.cj_cluster.specs.declared.session.SessionEnd.TheVariants as end
use Rattle.cj_script.specs.declared.play.ScriptEnd.{ScriptEnd}
use Rattle.cj_script.specs.declared.play.ScriptEnd.TheVariants as script_end

-- ---- statuses

-- of a session's end
abbrev pub status_of_session : SessionEnd → ℕ
status_of_session end.Quit = 0
status_of_session end.Eof = 0
status_of_session end.NoMemory = 1
status_of_session end.Cut = 4
status_of_session (end.BadFrame fault) = 4
status_of_session end.ReadFault = 5
status_of_session end.WriteFault = 6
status_of_session end.Spent = 11

-- of a script's end
abbrev pub status_of_script : ScriptEnd → ℕ
status_of_script script_end.Done = 0
status_of_script (script_end.Line number) = 10
status_of_script script_end.ReadFault = 5
status_of_script script_end.WriteFault = 6
status_of_script script_end.Spent = 11
status_of_script script_end.NoMemory = 1

-- of a listing or a text
abbrev pub status_of_listing : Result (Unit {0}) OutError → ℕ
status_of_listing (Ok _) = 0
status_of_listing (Err out_errors.Failed) = 6
status_of_listing (Err out_errors.NoMemory) = 1

-- ---- texts

-- the words ask for help or the version
abbrev pub AsksForText : List (List ℕ) → Type 0
AsksForText words = ((topic : Topic) × AsksCommand words (asked.Help topic)) ⊎ AsksCommand words asked.Version

-- A text was written; where the output failed in it or memory was wanting, the status says so.
pub record WritesText (held held' : Option (List ℕ)) (status : ℕ) : Type 0 where
  pub text : List ℕ
  pub answer : Result (Unit {0}) OutError
  pub bytes : WritesAll held held' text answer
  pub status_is : status ≡ status_of_listing answer
