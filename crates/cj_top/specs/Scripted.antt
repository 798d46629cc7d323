-- The command `script`: how far its script came over the backends of a configuration, and with which status.
use Rattle.std.specs.Prelude.{◌≡◌, ◌⊎◌, ℕ, ◌<◌, ◌≤◌, Bool, true, List, [], ◌∷◌, codes, slice_index_or, Result, IsErrOf}
use Rattle.std.specs.declared.option.Option.{Option}
use Rattle.std.specs.Fmt.{decimal}
use Rattle.cj_outside.specs.Causes.{CountsFault}
use Rattle.cj_outside.specs.Streams.{WritesAll}
use Rattle.cj_outside.specs.declared.sink.OutError.{OutError}
use Rattle.cj_outside.specs.declared.sink.OutError.TheVariants as out_errors
use Rattle.cj_cluster.specs.Moves.Runs.{IsBetweenReplies}
use Rattle.cj_cluster.specs.Script.Lines.{with_line_feed, words}
use Rattle.cj_conf.specs.declared.conf.Conf.{Conf}
use Rattle.cj_log.specs.declared.item.LogItem.{LogItem}
use Rattle.cj_state.specs.ArmedCells.{armings_of}
use Rattle.cj_state.specs.Faults.{faults_of}
use Rattle.cj_state.specs.Worlds.{WorldState}
use Rattle.cj_script.specs.Script.{CameTo, InTurns}
use Rattle.cj_script.specs.declared.play.ScriptEnd.{ScriptEnd}
use Rattle.cj_script.specs.declared.play.ScriptEnd.TheVariants as end
use Rattle.cj_top.specs.Completeness.{PlaysInput, is_script_end_by_input}
use Rattle.cj_top.specs.Configured.{BeginsAsConfigured, in_memory}
use Rattle.cj_top.specs.Program.{status_of_script}

-- the line that names a line of the script
abbrev pub line_text : ℕ → List ℕ
line_text number = with_line_feed (words (codes "line" ∷ decimal number ∷ []))

-- The line's name was written whole, or the errors failed in it, which they counted, or memory was wanting for it.
pub record WritesName (errors errors' : Option (List ℕ)) (before now number : ℕ) : Type 0 where
  pub answer : Result (Unit {0}) OutError
  pub bytes : WritesAll errors errors' (line_text number) answer
  pub cause : CountsFault (IsErrOf answer out_errors.Failed) before now

-- A line that can't be played is named, and at another end nothing is written; `before` and `now` are the errors'
-- counts of faults.
abbrev pub NamesLine : (errors errors' : Option (List ℕ)) → (before now : ℕ) → ScriptEnd → Type 0
NamesLine errors errors' before now (end.Line number) = WritesName errors errors' before now number
NamesLine errors errors' before now ending = (errors' ≡ errors) × (now ≡ before)

-- Each backend has counted at most as many faults as it was armed. How often that was each line of a script says
-- (`HasArmings`).
abbrev pub HasFailedOnlyArmed : WorldState → Type 0
HasFailedOnlyArmed w = (b : ℕ) → slice_index_or (faults_of w.cells) b 0 ≤ slice_index_or (armings_of w.cells) b 0

-- A script over new backends, as the configuration has them, and over the log that was found, came to this end;
-- `tells`: the backends are in memory, and tell what they hold. `GoesOn` says how the log's store went on. The
-- replies to each session in it are a chain of turns of one database, from where it has seen the start and needs no
-- entry.
pub record PlaysAsConfigured (tells : Bool) (c : Conf) (found : List LogItem → Type 0) (GoesOn : WorldState → WorldState → Type 0) (left left' held held' : Option (List ℕ)) (ending : ScriptEnd) : Type 0 where
  pub first : WorldState
  pub begins : BeginsAsConfigured tells c found first
  pub last : WorldState
  pub came : CameTo tells true c.placement.names left left' held held' first ending last
  pub fresh : (s : ℕ) → 0 < s → IsBetweenReplies (record { front = first.core.history; least = 0 }) first.core s
  pub turns : InTurns tells c.placement.names left left' held held' first last
  -- backends in memory fail no more often than they were armed
  pub armed : tells ≡ true → HasFailedOnlyArmed last
  -- a script that its input ended was played as far as that goes
  pub whole : is_script_end_by_input ending ≡ true → PlaysInput c.placement.names left ending
  pub goes_on : GoesOn first last

-- A run of `script` with this status; `before` and `now` are the errors' counts of faults. Where the input or an
-- output tells nothing, this says nothing of its bytes.
pub record RunsScript (c : Conf) (found : List LogItem → Type 0) (GoesOn : WorldState → WorldState → Type 0) (left left' held held' errors errors' : Option (List ℕ)) (before now status : ℕ) : Type 0 where
  pub ending : ScriptEnd
  pub status_is : status ≡ status_of_script ending
  pub played : PlaysAsConfigured (in_memory c) c found GoesOn left left' held held' ending
  pub named : NamesLine errors errors' before now ending

-- `script` with this configuration: the script ran, or the command stopped at its log
abbrev pub ComesByScript : (c : Conf) (found : List LogItem → Type 0) (GoesOn : WorldState → WorldState → Type 0) (Stops : ℕ → Type 0) (left left' held held' errors errors' : Option (List ℕ)) (before now : ℕ) → ℕ → Type 0
ComesByScript c found GoesOn Stops left left' held held' errors errors' before now status = RunsScript c found GoesOn left left' held held' errors errors' before now status ⊎ Stops status
