-- What a run of the program over memory gives.
use Rattle.std.specs.Prelude.{◌≡◌, ◌≢◌, ◌⊎◌, ℕ, ℤ, true, List, []}
use Rattle.std.specs.declared.option.Option.TheVariants.{Some}
use Rattle.cj_outside.specs.Causes.{CountsFault, next}
use Rattle.cj_outside.specs.Memory.{State}
use Rattle.cj_outside.specs.Stores.{no_image}
use Rattle.cj_cases.specs.Cases.{CaseState}
use Rattle.cj_cases.specs.declared.runner.Outcome.{Outcome}
use Rattle.cj_args.specs.Words.{AsksCommand, Says}
use Rattle.cj_args.specs.declared.asked.Asked.{Asked}
use Rattle.cj_args.specs.declared.asked.Command.{Command}
use Rattle.cj_explain.specs.Explanations.{Explains}
use Rattle.cj_log.specs.Logs.{KeepsItems}
use Rattle.cj_log.specs.declared.item.LogItem.{LogItem}
use Rattle.cj_top.specs.Completeness.{GoesOnFrom}
use Rattle.cj_top.specs.Configured.{WritesRefusal}
use Rattle.cj_top.specs.Logs.{Found, GoesOnIn, ReadsLog, RefusesLog, StopsAtLog, TellsRefusal}
use Rattle.cj_top.specs.Program.{AsksForText, WritesText}
use Rattle.cj_top.specs.Runs.{ComesBy, ReadsNoInput, RunsCommand}
use Rattle.cjc_cases.specs.declared.program.Objects.{Objects}
use Rattle.cjc_cases.specs.declared.program.TheConstants.{MOMENT}

-- an object in memory that holds these bytes; no call of it was made, and its calls with these numbers fail
abbrev pub handed : List ℕ → List ℕ → State
handed bytes fails = record { bytes = bytes; fails = fails; calls = 0; faults = 0 }

-- the objects of a case
abbrev pub objects_of : CaseState → Objects
objects_of c = record {
  configuration = handed c.configuration c.fails.configuration;
  input = handed c.input c.fails.input;
  output = handed [] c.fails.output;
  errors = handed [] c.fails.errors;
}

-- the faults that a store in memory has counted, and the bytes that it holds
abbrev pub faults_of : State → ℕ
faults_of s = s.faults

abbrev pub bytes_of : State → List ℕ
bytes_of s = s.bytes

-- the input and the output were not touched
abbrev pub AreIdle : Objects → Objects → Type 0
AreIdle a z = (z.input ≡ a.input) × (z.output ≡ a.output)

-- the input, the output and the errors were not touched
abbrev pub AreQuiet : Objects → Objects → Type 0
AreQuiet a z = (z.input ≡ a.input) × (z.output ≡ a.output) × (z.errors ≡ a.errors)

-- how a command stops at its log
abbrev pub StopsAt : (log after : State) → Objects → Objects → ℕ → Type 0
StopsAt log after a z = StopsAtLog (RefusesLog faults_of bytes_of true log after) (TellsRefusal (Some a.errors.bytes) (Some z.errors.bytes) a.errors.faults z.errors.faults) (AreIdle a z)

-- All that `run` of `cj_top` promises of a run with these words, over this log and these objects at this moment, that
-- ends with this status and leaves the log so.
pub record KeepsPromises (words : List (List ℕ)) (log after : State) (moment : ℤ) (a z : Objects) (status : ℕ) : Type 0 where
  pub runs : (command : Command) → Says words command → RunsCommand true a.configuration.bytes (WritesRefusal (Some a.errors.bytes) (Some z.errors.bytes) a.errors.faults z.errors.faults) ((z.input ≡ a.input) × (z.output ≡ a.output) × (after ≡ log)) ((z.input ≡ a.input) × (z.output ≡ a.output) × (z.errors ≡ a.errors) × (after ≡ log))
      (λ c. ComesBy command c (Found true log.bytes) (GoesOnIn faults_of bytes_of no_image true log after) (ReadsLog faults_of bytes_of true log after) (after ≡ log) (StopsAt log after a z) (AreQuiet a z) (Some moment) (Some a.input.bytes) (Some z.input.bytes) (Some a.output.bytes) (Some z.output.bytes) (Some a.errors.bytes) (Some z.errors.bytes) a.errors.faults z.errors.faults status) status
  pub unread : (command : Command) → Says words command → ReadsNoInput command → z.input ≡ a.input
  pub text : AsksForText words → WritesText (Some a.output.bytes) (Some z.output.bytes) status × (z.configuration ≡ a.configuration) × (after ≡ log) × (z.input ≡ a.input) × (z.errors ≡ a.errors)
  pub other : ((asked : Asked) → AsksCommand words asked → ⊥) → (status ≡ 2) × (z.configuration ≡ a.configuration) × (after ≡ log) × (z.input ≡ a.input) × (z.output ≡ a.output) × (z.errors ≡ a.errors)
  pub quiet : status ≢ 3 → status ≢ 8 → status ≢ 10 → z.errors ≡ a.errors
  pub conf : true ≡ true → z.configuration.bytes ≡ a.configuration.bytes
  pub stores : (status ≡ 7) × (z.configuration.faults ≡ next a.configuration.faults) × (after.faults ≡ log.faults) ⊎ (status ≡ 7) × (after.faults ≡ next log.faults) × (z.configuration.faults ≡ a.configuration.faults) ⊎ (status ≢ 7) × (z.configuration.faults ≡ a.configuration.faults)
  pub input : CountsFault (status ≡ 5) a.input.faults z.input.faults
  pub output : CountsFault (status ≡ 6) a.output.faults z.output.faults
  pub opens : true ≡ true → (command : Command) → Says words command → (items : List LogItem) → KeepsItems log.bytes items → GoesOnFrom command items → (status ≢ 8) × (status ≢ 12)

-- The errors were told why a run ended with this status, and the output is as it was.
pub record IsExplained (a z : Objects) (status : ℕ) : Type 0 where
  pub told : Explains (Some a.errors.bytes) (Some z.errors.bytes) a.errors.faults z.errors.faults status
  pub output : z.output ≡ a.output

-- A run of the case gave this: its status, the output and what it left of the log are those of the program over the
-- objects of the case. The errors are what that run wrote, and the explanation of its status after it.
pub record GivesAsRun (c : CaseState) (outcome : Outcome) : Type 0 where
  pub left : Objects
  pub log : State
  pub keeps : KeepsPromises c.words (handed c.log c.fails.log) log MOMENT (objects_of c) left outcome.status
  pub last : Objects
  pub explained : IsExplained left last outcome.status
  pub output : outcome.output.items ≡ left.output.bytes
  pub errors : outcome.errors.items ≡ last.errors.bytes
  pub log_left : outcome.log.items ≡ log.bytes
