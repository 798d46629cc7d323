-- How a command that reads a configuration comes to its status.
use Rattle.std.specs.Prelude.{◌≡◌, ◌⊎◌, ℕ, ℤ, ◌≤◌, Bool, true, List, length, Ok, Err}
use Rattle.cj_outside.specs.Streams.{most}
use Rattle.cj_conf.specs.declared.conf.Conf.{Conf}
use Rattle.cj_conf.specs.declared.error.ConfError.{ConfError}
use Rattle.cj_conf.specs.Confs.{conf_of}
use Rattle.std.specs.declared.option.Option.{Option}
use Rattle.cj_log.specs.declared.item.LogItem.{LogItem}
use Rattle.cj_state.specs.Worlds.{WorldState}
use Rattle.cj_args.specs.declared.asked.Command.{Command}
use Rattle.cj_args.specs.declared.asked.Command.TheVariants.{Pipe, Script, Log, Gen}
use Rattle.cj_args.specs.declared.parts.TheConstants.{COUNT_LIMIT}
use Rattle.cj_top.specs.Generated.{ComesByGen}
use Rattle.cj_top.specs.Listed.{ComesByLog}
use Rattle.cj_top.specs.Piped.{ComesByPipe}
use Rattle.cj_top.specs.Scripted.{ComesByScript}

-- the bytes are those of the configuration's store, where it tells them
pub record AreConfBytes (tells : Bool) (held bytes : List ℕ) : Type 0 where
  pub whole : tells ≡ true → bytes ≡ held
  pub limit : length bytes ≤ most

-- the configuration was refused; `Tells` says what the errors were told
pub record RefusesConf (tells : Bool) (held : List ℕ) (Tells : ConfError → Type 0) (Idle : Type 0) (status : ℕ) : Type 0 where
  pub bytes : List ℕ
  pub are : AreConfBytes tells held bytes
  pub error : ConfError
  pub refused : conf_of bytes ≡ Err error
  pub told : Tells error
  pub idle : Idle
  pub status_is : status ≡ 3

-- the configuration was accepted, and the command ran with it
pub record RunsConfigured (tells : Bool) (held : List ℕ) (Runs : Conf → Type 0) : Type 0 where
  pub bytes : List ℕ
  pub are : AreConfBytes tells held bytes
  pub conf : Conf
  pub accepted : conf_of bytes ≡ Ok conf
  pub runs : Runs conf

-- The configuration's store failed or memory was wanting, and nothing else was touched (`Quiet`); or the
-- configuration was refused, and the input, the output and the log were not touched (`Idle`); or the command ran.
abbrev pub RunsCommand : Bool → List ℕ → (ConfError → Type 0) → Type 0 → Type 0 → (Conf → Type 0) → ℕ → Type 0
RunsCommand tells held Tells Idle Quiet Runs status =
    (((status ≡ 7) ⊎ (status ≡ 1)) × Quiet) ⊎ RefusesConf tells held Tells Idle status ⊎ RunsConfigured tells held Runs

-- What a command comes to with this configuration, over the log that was found. Of the log's store `GoesOn` says how
-- it went on under a world, `Reads` that it was only read, and `Same` that it was not touched. `Stops` says how the
-- command stops at its log, and `Quiet` that nothing was touched; `before` and `now` are the errors' counts of
-- faults.
abbrev pub ComesBy : Command → (c : Conf) (found : List LogItem → Type 0) (GoesOn : WorldState → WorldState → Type 0) (Reads : ℕ → Type 0) (Same : Type 0) (Stops : ℕ → Type 0) (Quiet : Type 0) (moment : Option ℤ) (left left' held held' errors errors' : Option (List ℕ)) (before now : ℕ) → ℕ → Type 0
ComesBy (Pipe path) c found GoesOn Reads Same Stops Quiet moment left left' held held' errors errors' before now status = ComesByPipe c found GoesOn Stops Quiet moment left left' held held' status
ComesBy (Script path) c found GoesOn Reads Same Stops Quiet moment left left' held held' errors errors' before now status = ComesByScript c found GoesOn Stops left left' held held' errors errors' before now status
ComesBy (Log path) c found GoesOn Reads Same Stops Quiet moment left left' held held' errors errors' before now status = ComesByLog c found Reads Stops held held' status
ComesBy (Gen path seed count) c found GoesOn Reads Same Stops Quiet moment left left' held held' errors errors' before now status = ComesByGen c seed count Same Quiet held held' status

-- the command takes nothing of the input
abbrev pub ReadsNoInput : Command → Type 0
ReadsNoInput (Pipe path) = ⊥
ReadsNoInput (Script path) = ⊥
ReadsNoInput (Log path) = Unit {0}
ReadsNoInput (Gen path seed count) = Unit {0}

-- a workload of the command has no more statements than words may ask for
abbrev pub HasFewStatements : Command → Type 0
HasFewStatements (Pipe path) = Unit {0}
HasFewStatements (Script path) = Unit {0}
HasFewStatements (Log path) = Unit {0}
HasFewStatements (Gen path seed count) = count ≤ COUNT_LIMIT
