-- The steps of a script: a line is read, and it is played.
use Rattle.std.specs.Prelude.{◌≡◌, ◌≢◌, ◌⊎◌, ℕ, Bool, List, [], Result, Ok, Err}
use Rattle.std.specs.declared.option.Option.{Option}
use Rattle.std.specs.Global.{Vec}
use Rattle.std.specs.Io.KnownBytes.{Appends}
use Rattle.cj_outside.specs.declared.lines.Line.TheVariants.{Text, Long, End}
use Rattle.cj_outside.specs.declared.lines.LineError.TheVariants as errors
use Rattle.cj_outside.specs.declared.sink.OutError.{OutError}
use Rattle.cj_outside.specs.declared.sink.OutError.TheVariants as out_errors
use Rattle.cj_outside.specs.Lines.{ReaderState, GivesLine}
use Rattle.cj_state.specs.Worlds.{WorldState, IsSameWorldButLog}
use Rattle.cj_script.specs.Script.{PlaysLine, MakesInPart, IsNoMove}
use Rattle.cj_script.specs.declared.play.ScriptEnd.{ScriptEnd}
use Rattle.cj_script.specs.declared.play.ScriptEnd.TheVariants.{Done, Line, ReadFault, WriteFault, Spent, NoMemory}

-- the next line of the source, or how the script ends if there is none; `number` is the line's
abbrev pub ReadsLine : Option (List ℕ) → Option (List ℕ) → ReaderState → ReaderState → ℕ → Result (Vec ℕ) ScriptEnd → Type 0
ReadsLine left left' old new number (Ok v) = GivesLine left left' old new (Ok (Text v))
ReadsLine left left' old new number (Err Done) = GivesLine left left' old new (Ok End)
ReadsLine left left' old new number (Err (Line n)) = (n ≡ number) × GivesLine left left' old new (Ok Long)
ReadsLine left left' old new number (Err ReadFault) = GivesLine left left' old new (Err errors.Failed)
ReadsLine left left' old new number (Err WriteFault) = ⊥
ReadsLine left left' old new number (Err Spent) = GivesLine left left' old new (Err errors.Spent)
ReadsLine left left' old new number (Err NoMemory) = GivesLine left left' old new (Err errors.NoMemory)

-- the line was played, and what it gives was written
pub record PlaysWritten (tells armable : Bool) (names : List (List ℕ)) (held held' : Option (List ℕ)) (c : WorldState) (line : List ℕ) (z : WorldState) : Type 0 where
  pub written : List ℕ
  pub plays : PlaysLine tells armable names c line written z
  pub appended : Appends held held' written

-- nothing was done, and nothing was written
abbrev pub DoesNothing : Option (List ℕ) → Option (List ℕ) → WorldState → WorldState → Type 0
DoesNothing held held' c z = (z ≡ c) × Appends held held' []

-- memory ran out: nothing was done, but maybe bytes after the items of the log, and nothing was written
pub record Starves (held held' : Option (List ℕ)) (c z : WorldState) : Type 0 where
  pub same : IsSameWorldButLog c z
  pub log_faults : z.recovery_log.faults ≡ c.recovery_log.faults
  pub nothing : Appends held held' []

-- the line is no move, no audit and not empty
pub record RefusesLine (names : List (List ℕ)) (held held' : Option (List ℕ)) (c : WorldState) (line : List ℕ) (z : WorldState) : Type 0 where
  pub some : line ≢ []
  pub none : IsNoMove names line
  pub stays : DoesNothing held held' c z

-- the line was played and what it gives was written, or the script ends in it
abbrev pub PlaysOrEnds : (tells armable : Bool) → List (List ℕ) → Option (List ℕ) → Option (List ℕ) → WorldState → List ℕ → ℕ → Result (Unit {0}) ScriptEnd → WorldState → Type 0
PlaysOrEnds tells armable names held held' c line number (Ok _) z = PlaysWritten tells armable names held held' c line z
PlaysOrEnds tells armable names held held' c line number (Err Done) z = ⊥
PlaysOrEnds tells armable names held held' c line number (Err (Line n)) z = (n ≡ number) × RefusesLine names held held' c line z
PlaysOrEnds tells armable names held held' c line number (Err ReadFault) z = ⊥
PlaysOrEnds tells armable names held held' c line number (Err WriteFault) z = MakesInPart tells armable names held held' c line z
PlaysOrEnds tells armable names held held' c line number (Err Spent) z = ⊥
PlaysOrEnds tells armable names held held' c line number (Err NoMemory) z = Starves held held' c z ⊎ MakesInPart tells armable names held held' c line z

-- how the script ends, if the lines that a line gives weren't written
abbrev pub written_or_end : Result (Unit {0}) OutError → Result (Unit {0}) ScriptEnd
written_or_end (Ok _) = Ok tt
written_or_end (Err out_errors.Failed) = Err WriteFault
written_or_end (Err out_errors.NoMemory) = Err NoMemory
