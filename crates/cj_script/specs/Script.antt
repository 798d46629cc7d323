-- Scripts: what lines play, how the lines are found in the bytes taken, and how far a script came.
use Rattle.std.specs.Prelude.{◌≡◌, ◌≢◌, ◌⊎◌, ℕ, ◌+◌, ◌<◌, Bool, true, false, not, List, [], ◌∷◌, ◌++◌, length, take, codes, filter, All, IsSome}
use Rattle.std.specs.declared.option.Option.{Option}
use Rattle.std.specs.declared.option.Option.TheVariants.{None, Some}
use Rattle.std.specs.List.{flat_map}
use Rattle.std.specs.Io.KnownBytes.{Consumes, Appends, IsAtEnd}
use Rattle.cj_outside.specs.Lines.{IsInLine, line_limit}
use Rattle.cj_outside.specs.Streams.{most}
use Rattle.cj_cluster.specs.declared.moves.Move.{Move}
use Rattle.cj_cluster.specs.declared.moves.Made.{Made}
use Rattle.cj_cluster.specs.declared.moves.Reason.TheVariants.{EntryOpen}
use Rattle.cj_cluster.specs.History.Histories.{is_free, is_enabled}
use Rattle.cj_cluster.specs.History.Turns.{SessionView}
use Rattle.cj_cluster.specs.Moves.Cores.{Core}
use Rattle.cj_cluster.specs.Moves.Moves.{MoveResult, MovesTo, last_number}
use Rattle.cj_cluster.specs.Moves.Runs.{RunsMoves, IsBetweenReplies, IsChained}
use Rattle.cj_cluster.specs.Script.Lines.{MoveLine, moved_lines, not_now_text, with_line_feed}
use Rattle.cj_state.specs.Worlds.{WorldState, IsSameWorldButLog}
use Rattle.cj_moves.specs.Armings.{HasArmings}
use Rattle.cj_state.specs.ArmedCells.{armings_of}
use Rattle.cj_world_audit.specs.Audits.{audit_text}
use Rattle.cj_moves.specs.Counting.{HasCauses, HasLogCauses, blamed, log_faults_after, tells_log_fault}
use Rattle.cj_state.specs.Faults.{faults_after, faults_of}
use Rattle.cj_state.specs.CalledLogins.{logins_of}
use Rattle.cj_moves.specs.Logins.{HasLogins}
use Rattle.cj_core.specs.Played.{given_of}
use Rattle.cj_words.specs.LinesInBytes.{IsNextLine, IsShortLine, LieIn}
use Rattle.cj_script.specs.declared.play.ScriptEnd.{ScriptEnd}
use Rattle.cj_script.specs.declared.play.ScriptEnd.TheVariants.{Done, Line, ReadFault, WriteFault, Spent, NoMemory}

-- ---- lines that play

-- The line is a move, which leads the world from c to z and gives these lines. The move says which faults were
-- counted, which backend was armed, and under which logins backends were called.
pub record MakesMove (tells armable : Bool) (names : List (List ℕ)) (c : WorldState) (line written : List ℕ) (z : WorldState) : Type 0 where
  pub move : Move
  pub reads : MoveLine names line move
  pub made : Made
  pub moves : MovesTo tells c.core move (given_of made) z.core
  pub causes : HasCauses c z move (given_of made)
  pub log_causes : HasLogCauses c z move (given_of made)
  pub armings : HasArmings armable c z move (given_of made)
  pub logins : HasLogins c z move (given_of made)
  pub gives : written ≡ moved_lines names made

-- ---- an audit

-- the line that asks for an audit
abbrev pub audit_line : List ℕ
audit_line = codes "audit"

-- an entry is open: nothing is done, and its number is given
pub record AuditsLater (c : WorldState) (written : List ℕ) (z : WorldState) : Type 0 where
  pub runs : is_free c.core.history ≡ false
  pub same : z ≡ c
  pub gives : written ≡ with_line_feed (not_now_text (record { reason = EntryOpen; value = last_number c.core }))

-- what an audit gives: what the backends hold, if contents are visible; or that this backend failed
abbrev pub GivesAudit : Bool → List (List ℕ) → Core → Option ℕ → List ℕ → Type 0
GivesAudit tells names c None written = tells ≡ true → written ≡ audit_text names c
GivesAudit tells names c (Some b) written = (is_enabled c.history b ≡ true) × (written ≡ with_line_feed (codes "failed"))

-- No entry is open: the enabled backends are asked what they hold, until one fails, which it counts. No login is
-- used, no backend is armed, and if none fails nothing changes.
pub record AuditsNow (tells : Bool) (names : List (List ℕ)) (c : WorldState) (failed : Option ℕ) (written : List ℕ) (z : WorldState) : Type 0 where
  pub idle : is_free c.core.history ≡ true
  pub core : z.core ≡ c.core
  pub faults : faults_of z.cells ≡ faults_after (faults_of c.cells) failed
  pub logins : logins_of z.cells ≡ logins_of c.cells
  pub armings : armings_of z.cells ≡ armings_of c.cells
  pub recovery_log : z.recovery_log ≡ c.recovery_log
  pub same : failed ≡ None → z ≡ c
  pub gives : GivesAudit tells names c.core failed written

-- the line asks for an audit and gives this, now or not now
abbrev pub MakesAudit : Bool → List (List ℕ) → WorldState → List ℕ → List ℕ → WorldState → Type 0
MakesAudit tells names c line written z = (line ≡ audit_line) × (AuditsLater c written z ⊎ ((failed : Option ℕ) × AuditsNow tells names c failed written z))

-- ---- a line

-- the line makes its move, or is an audit
abbrev pub DoesLine : (tells armable : Bool) → List (List ℕ) → WorldState → List ℕ → List ℕ → WorldState → Type 0
DoesLine tells armable names c line written z = MakesMove tells armable names c line written z ⊎ MakesAudit tells names c line written z

-- the line is empty, and changes and gives nothing
pub record SkipsLine (c : WorldState) (line written : List ℕ) (z : WorldState) : Type 0 where
  pub empty : line ≡ []
  pub nothing : written ≡ []
  pub same : z ≡ c

-- an empty line is skipped, and another makes its move or is an audit
abbrev pub PlaysLine : (tells armable : Bool) → List (List ℕ) → WorldState → List ℕ → List ℕ → WorldState → Type 0
PlaysLine tells armable names c line written z = SkipsLine c line written z ⊎ DoesLine tells armable names c line written z

-- From the world c the lines play, one after another, to the world z, and give these lines.
abbrev pub Plays : (tells armable : Bool) → List (List ℕ) → WorldState → List (List ℕ) → List ℕ → WorldState → Type 0
Plays tells armable names c [] written z = (written ≡ []) × (z ≡ c)
Plays tells armable names c (line ∷ lines) written z =
    (mid : WorldState) × (front : List ℕ) × (rest : List ℕ) × PlaysLine tells armable names c line front mid × Plays tells armable names mid lines rest z × (written ≡ front ++ rest)

-- ---- the steps of lines

-- no byte is in the line
abbrev pub is_empty : List ℕ → Bool
is_empty [] = true
is_empty (b ∷ bytes) = false

-- the lines that are not empty
abbrev pub filled : List (List ℕ) → List (List ℕ)
filled lines = filter (λ line. not (is_empty line)) lines

-- what a line did: a move and what came of it; or an audit, the backend that failed in it, and what it gave
pub data Step : Type 0 where
  Moves : Move → Made → Step
  Audits : Option ℕ → List ℕ → Step

-- the lines ask for these steps, one each
abbrev pub AreSteps : List (List ℕ) → List (List ℕ) → List Step → Type 0
AreSteps names [] [] = Unit {0}
AreSteps names (line ∷ lines) (Moves m made ∷ steps) = MoveLine names line m × AreSteps names lines steps
AreSteps names (line ∷ lines) (Audits failed text ∷ steps) = (line ≡ audit_line) × AreSteps names lines steps
AreSteps names [] (step ∷ steps) = ⊥
AreSteps names (line ∷ lines) [] = ⊥

-- the moves among the steps
abbrev pub moves_in : List Step → List Move
moves_in [] = []
moves_in (Moves m made ∷ steps) = m ∷ moves_in steps
moves_in (Audits failed text ∷ steps) = moves_in steps

-- the results of the moves among the steps
abbrev pub given_in : List Step → List MoveResult
given_in [] = []
given_in (Moves m made ∷ steps) = given_of made ∷ given_in steps
given_in (Audits failed text ∷ steps) = given_in steps

-- the lines that a step gives
abbrev pub step_lines : List (List ℕ) → Step → List ℕ
step_lines names (Moves m made) = moved_lines names made
step_lines names (Audits failed text) = text

-- the counts after the steps, of which each counts the fault that it tells
abbrev pub faults_through : List ℕ → List Step → List ℕ
faults_through faults [] = faults
faults_through faults (Moves m made ∷ steps) = faults_through (faults_after faults (blamed m (given_of made))) steps
faults_through faults (Audits failed text ∷ steps) = faults_through (faults_after faults failed) steps

-- the count of the log's store after the steps, of which each counts the fault that it tells
abbrev pub log_faults_through : ℕ → List Step → ℕ
log_faults_through faults [] = faults
log_faults_through faults (Moves m made ∷ steps) = log_faults_through (log_faults_after faults (tells_log_fault m (given_of made))) steps
log_faults_through faults (Audits failed text ∷ steps) = log_faults_through faults steps

-- ---- lines that can't be played

-- the line is no move's, and no audit
abbrev pub IsNoMove : List (List ℕ) → List ℕ → Type 0
IsNoMove names line = ((m : Move) → MoveLine names line m → ⊥) × (line ≢ audit_line)

-- the line can't be played: it is too long, or neither empty nor a move nor an audit
abbrev pub IsWrong : List (List ℕ) → List ℕ → Type 0
IsWrong names line = (line_limit < length line) ⊎ ((line ≢ []) × IsNoMove names line)

-- ---- how far a script came

-- These lines of the bytes taken were played, from c to z, and what they give was written; the rest was not played.
pub record Played (tells armable : Bool) (names : List (List ℕ)) (left left' held held' : Option (List ℕ)) (c : WorldState) (taken : List ℕ) (lines : List (List ℕ)) (rest : List ℕ) (z : WorldState) : Type 0 where
  pub lines_are : All IsShortLine lines
  pub consumed : Consumes left left' taken
  pub lie : LieIn left' taken lines rest
  pub written : List ℕ
  pub plays : Plays tells armable names c lines written z
  pub appended : Appends held held' written

-- the source was taken to its end, and all of it was played
pub record PlayedAll (tells armable : Bool) (names : List (List ℕ)) (left left' held held' : Option (List ℕ)) (c z : WorldState) : Type 0 where
  pub taken : List ℕ
  pub lines : List (List ℕ)
  pub played : Played tells armable names left left' held held' c taken lines [] z
  pub at_end : IsAtEnd left'
  pub few : IsSome left → length taken < most

-- the lines before this one, numbered from 1, were played, and this one can't be
pub record PlayedTo (tells armable : Bool) (names : List (List ℕ)) (left left' held held' : Option (List ℕ)) (number : ℕ) (c z : WorldState) : Type 0 where
  pub taken : List ℕ
  pub lines : List (List ℕ)
  pub rest : List ℕ
  pub played : Played tells armable names left left' held held' c taken lines rest z
  pub before : number ≡ length lines + 1
  pub line : List ℕ
  pub inside : IsInLine line
  pub next : IsNextLine left' line rest
  pub wrong : IsWrong names line

-- all whole lines were played, and so many bytes were taken, if the source tells
pub record PlayedWhole (tells armable : Bool) (names : List (List ℕ)) (left left' held held' : Option (List ℕ)) (IsCount : ℕ → Type 0) (c z : WorldState) : Type 0 where
  pub taken : List ℕ
  pub lines : List (List ℕ)
  pub rest : List ℕ
  pub played : Played tells armable names left left' held held' c taken lines rest z
  pub inside : IsInLine rest
  pub count : IsSome left → IsCount (length taken)

-- Some lines were played. What ran out of memory then changed nothing, but maybe bytes after the items of the log.
pub record PlayedSome (tells armable : Bool) (names : List (List ℕ)) (left left' held held' : Option (List ℕ)) (c z : WorldState) : Type 0 where
  pub taken : List ℕ
  pub lines : List (List ℕ)
  pub rest : List ℕ
  pub stopped : WorldState
  pub played : Played tells armable names left left' held held' c taken lines rest stopped
  pub same : IsSameWorldButLog stopped z
  pub log_faults : z.recovery_log.faults ≡ stopped.recovery_log.faults

-- the line makes its move or is an audit, and a part of what it gives was written, less than the whole
pub record MakesInPart (tells armable : Bool) (names : List (List ℕ)) (held held' : Option (List ℕ)) (c : WorldState) (line : List ℕ) (z : WorldState) : Type 0 where
  pub whole : List ℕ
  pub makes : DoesLine tells armable names c line whole z
  pub count : ℕ
  pub cut : count < length whole
  pub appended : Appends held held' (take count whole)

-- some lines were played, and one more made its move or was an audit, with what it gives written in part
pub record PlayedInPart (tells armable : Bool) (names : List (List ℕ)) (left left' held held' : Option (List ℕ)) (c z : WorldState) : Type 0 where
  pub taken : List ℕ
  pub lines : List (List ℕ)
  pub rest : List ℕ
  pub mid : WorldState
  pub between : Option (List ℕ)
  pub played : Played tells armable names left left' held between c taken lines rest mid
  pub line : List ℕ
  pub line_is : IsShortLine line
  pub next : IsNextLine left' line rest
  pub makes : MakesInPart tells armable names between held' mid line z

-- How far a script came that ended in this way. Of a source or a sink that hides its bytes, this says nothing.
abbrev pub CameTo : (tells armable : Bool) → List (List ℕ) → (left left' held held' : Option (List ℕ)) → WorldState → ScriptEnd → WorldState → Type 0
CameTo tells armable names left left' held held' c Done z = PlayedAll tells armable names left left' held held' c z
CameTo tells armable names left left' held held' c (Line number) z = PlayedTo tells armable names left left' held held' number c z
CameTo tells armable names left left' held held' c ReadFault z = PlayedWhole tells armable names left left' held held' (λ n. n < most) c z
CameTo tells armable names left left' held held' c WriteFault z = PlayedInPart tells armable names left left' held held' c z
CameTo tells armable names left left' held held' c Spent z = PlayedWhole tells armable names left left' held held' (λ n. n ≡ most) c z
CameTo tells armable names left left' held held' c NoMemory z = PlayedSome tells armable names left left' held held' c z ⊎ PlayedInPart tells armable names left left' held held' c z

-- ---- what the replies are

-- Each line taken that is not empty took one of these steps, and a front of what they gave was written. The replies
-- to each session in the moves among them are a chain of turns from what it had seen.
pub record InTurns (tells : Bool) (names : List (List ℕ)) (left left' held held' : Option (List ℕ)) (c z : WorldState) : Type 0 where
  pub taken : List ℕ
  pub lines : List (List ℕ)
  pub rest : List ℕ
  pub consumed : Consumes left left' taken
  pub lie : LieIn left' taken lines rest
  pub steps : List Step
  pub are : AreSteps names (filled lines) steps
  pub count : ℕ
  pub appended : Appends held held' (take count (flat_map (step_lines names) steps))
  pub runs : RunsMoves tells c.core (moves_in steps) (given_in steps) z.core
  pub chains : (s : ℕ) (a : SessionView) → 0 < s → IsBetweenReplies a c.core s → IsChained tells s c.core (moves_in steps) (given_in steps) z.core a
  pub causes : faults_of z.cells ≡ faults_through (faults_of c.cells) steps
  pub log_causes : z.recovery_log.faults ≡ log_faults_through c.recovery_log.faults steps
