-- Cases played.
use Rattle.std.specs.Prelude.{◌≡◌, ◌⊎◌, ℕ, ◌<◌, ◌&&◌, Bool, true, false, List, [], ◌∷◌, ◌++◌, length, take, codes}
use Rattle.std.specs.Prelude.{nat_lt, if◌then◌else◌, Result, Ok, Err, IsErrOf}
use Rattle.std.specs.declared.option.Option.{Option}
use Rattle.std.specs.declared.option.Option.TheVariants.{None, Some}
use Rattle.std.specs.Fmt.{decimal}
use Rattle.std.specs.Global.{Vec}
use Rattle.std.specs.Io.KnownBytes.{Appends}
use Rattle.std.specs.Str.{bytes_eq}
use Rattle.cj_outside.specs.Causes.{CountsFault, next}
use Rattle.cj_outside.specs.Streams.{ReadsAll, WritesAll}
use Rattle.cj_outside.specs.declared.sink.OutError.{OutError}
use Rattle.cj_outside.specs.declared.sink.OutError.TheVariants as errors
use Rattle.cj_outside.specs.declared.streams.ReadError.TheVariants as read_errors
use Rattle.cj_cases.specs.Cases.{CaseState, no_case, ran}
use Rattle.cj_cases.specs.Lines.{first_word, lines_of, said}
use Rattle.cj_cases.specs.Shown.{ShowsOutcome}
use Rattle.cj_cases.specs.declared.runner.Outcome.{Outcome}

-- ---- a line

-- a case was begun, and the line asks for a run of it
abbrev pub asks_run : CaseState → List ℕ → Bool
asks_run c line = nat_lt 0 c.number && bytes_eq line (codes "run")

-- the line runs the case; what the run gave is written, and the case goes on with the log that it left
pub record RunsCase (gives : CaseState → Outcome → Type 0) (c : CaseState) (line written : List ℕ)
    (z : CaseState) : Type 0 where
  pub asks : asks_run c line ≡ true
  pub outcome : Outcome
  pub given : gives c outcome
  pub shows : ShowsOutcome c outcome written
  pub after : z ≡ ran c outcome.log.items

-- the line says something of the case, and nothing is written
pub record SaysLine (c : CaseState) (line written : List ℕ) (z : CaseState) : Type 0 where
  pub asks : asks_run c line ≡ false
  pub says : said c line ≡ Some z
  pub nothing : written ≡ []

-- a line runs the case or says something of it
abbrev pub PlaysCaseLine : (CaseState → Outcome → Type 0) → CaseState → List ℕ → List ℕ → CaseState → Type 0
PlaysCaseLine gives c line written z = RunsCase gives c line written z ⊎ SaysLine c line written z

-- a line is no directive
pub record IsNoDirective (c : CaseState) (line : List ℕ) : Type 0 where
  pub asks : asks_run c line ≡ false
  pub says : said c line ≡ None

-- ---- lines

-- From the case c the lines are played, one after another, to the case z, and this is the text of the runs that they
-- ask for.
abbrev pub PlaysCaseLines : (CaseState → Outcome → Type 0) → CaseState → List (List ℕ) → List ℕ → CaseState → Type 0
PlaysCaseLines gives c [] written z = (written ≡ []) × (z ≡ c)
PlaysCaseLines gives c (line ∷ lines) written z =
    (mid : CaseState) × (front : List ℕ) × (rest : List ℕ) × PlaysCaseLine gives c line front mid
    × PlaysCaseLines gives mid lines rest z × (written ≡ front ++ rest)

-- ---- ends

-- all lines were played
pub record PlayedAllCases (gives : CaseState → Outcome → Type 0) (lines : List (List ℕ))
    (held held' : Option (List ℕ)) : Type 0 where
  pub written : List ℕ
  pub last : CaseState
  pub plays : PlaysCaseLines gives no_case lines written last
  pub appended : Appends held held' written

-- the number of cases up to a line that is no directive; one that was to begin another case counts as one
abbrev pub number_at : CaseState → List ℕ → ℕ
number_at c line = if bytes_eq (first_word line) (codes "case") then next c.number else c.number

-- what is written of a line that is no directive
abbrev pub refused_line : CaseState → List ℕ → List ℕ
refused_line c line = codes "case " ++ decimal (number_at c line) ++ 10 ∷ []

-- the lines before this one were played, and it is no directive, which was written as `Refuses` says
pub record PlayedCasesTo (gives : CaseState → Outcome → Type 0) (Refuses : List ℕ → Type 0) (lines : List (List ℕ))
    (held held' : Option (List ℕ)) : Type 0 where
  pub front : List (List ℕ)
  pub line : List ℕ
  pub others : List (List ℕ)
  pub parts : lines ≡ front ++ line ∷ others
  pub written : List ℕ
  pub last : CaseState
  pub plays : PlaysCaseLines gives no_case front written last
  pub wrong : IsNoDirective last line
  pub appended : Appends held held' written
  pub refused : Refuses (refused_line last line)

-- a line is played in part: a part of the text of its run was written, less than the whole
pub record PlaysInPart (gives : CaseState → Outcome → Type 0) (c : CaseState) (line : List ℕ)
    (held held' : Option (List ℕ)) : Type 0 where
  pub written : List ℕ
  pub last : CaseState
  pub plays : PlaysCaseLine gives c line written last
  pub count : ℕ
  pub cut : count < length written
  pub appended : Appends held held' (take count written)

-- nothing was written
abbrev pub WritesNone : (held held' : Option (List ℕ)) → Type 0
WritesNone held held' = Appends held held' []

-- how far a line was played in which this error came: a fault comes only while its text is written, and memory may
-- run out before that, too
abbrev pub StopsPlay : (CaseState → Outcome → Type 0) → CaseState → List ℕ → (held held' : Option (List ℕ)) → OutError
    → Type 0
StopsPlay gives c line held held' errors.Failed = PlaysInPart gives c line held held'
StopsPlay gives c line held held' errors.NoMemory = WritesNone held held' ⊎ PlaysInPart gives c line held held'

-- the lines before this one were played, and this error came in it
pub record PlayedSomeCases (gives : CaseState → Outcome → Type 0) (lines : List (List ℕ)) (held held' : Option (List ℕ))
    (error : OutError) : Type 0 where
  pub front : List (List ℕ)
  pub line : List ℕ
  pub others : List (List ℕ)
  pub parts : lines ≡ front ++ line ∷ others
  pub written : List ℕ
  pub last : CaseState
  pub plays : PlaysCaseLines gives no_case front written last
  pub between : Option (List ℕ)
  pub appended : Appends held between written
  pub stops : StopsPlay gives last line between held' error

-- how the play of these lines ended with this status
abbrev pub EndsPlay : (CaseState → Outcome → Type 0) → (List ℕ → Type 0) → List (List ℕ)
    → (held held' : Option (List ℕ)) → ℕ → Type 0
EndsPlay gives Refuses lines held held' status =
    ((status ≡ 0) × PlayedAllCases gives lines held held') ⊎ (((status ≡ 10) × PlayedCasesTo gives Refuses lines held held')
    ⊎ (((status ≡ 6) × PlayedSomeCases gives lines held held' errors.Failed)
    ⊎ ((status ≡ 1) × PlayedSomeCases gives lines held held' errors.NoMemory)))

-- The source was read to its end, and its lines were played, which ended with this status; or it failed, or had too
-- many bytes, or did not fit into memory, and no line was played.
abbrev pub PlaysCases : (CaseState → Outcome → Type 0) → (List ℕ → Type 0) → (left left' held held' : Option (List ℕ))
    → ℕ → Type 0
PlaysCases gives Refuses left left' held held' status =
    ((text : Vec ℕ) × ReadsAll left left' (Ok text) × EndsPlay gives Refuses (lines_of text.items) held held' status)
    ⊎ (((status ≡ 5) × ReadsAll left left' (Err read_errors.Failed) × WritesNone held held')
    ⊎ (((status ≡ 11) × ReadsAll left left' (Err read_errors.Spent) × WritesNone held held')
    ⊎ ((status ≡ 1) × ReadsAll left left' (Err read_errors.NoMemory) × WritesNone held held')))

-- the text was written; or a part of it, if the sink failed, which it counted, or memory ran out
pub record WritesLine (held held' : Option (List ℕ)) (faults faults' : ℕ) (text : List ℕ) : Type 0 where
  pub answer : Result Unit OutError
  pub bytes : WritesAll held held' text answer
  pub cause : CountsFault (IsErrOf answer errors.Failed) faults faults'

-- ---- parts of it

-- a part of the text of a run was written, less than the whole
pub record RunsInPart (gives : CaseState → Outcome → Type 0) (c : CaseState)
    (held held' : Option (List ℕ)) : Type 0 where
  pub outcome : Outcome
  pub given : gives c outcome
  pub text : List ℕ
  pub shows : ShowsOutcome c outcome text
  pub count : ℕ
  pub cut : count < length text
  pub appended : Appends held held' (take count text)

-- how far a call that runs the case came: the text of the run was written, or a part of it, or nothing since memory
-- ran out
abbrev pub RunsOrStops : (CaseState → Outcome → Type 0) → CaseState → (held held' : Option (List ℕ)) → CaseState
    → Result Unit OutError → Type 0
RunsOrStops gives c held held' z (Ok _) = (outcome : Outcome) × gives c outcome
    × ((text : List ℕ) × ShowsOutcome c outcome text × Appends held held' text) × (z ≡ ran c outcome.log.items)
RunsOrStops gives c held held' z (Err errors.Failed) = RunsInPart gives c held held'
RunsOrStops gives c held held' z (Err errors.NoMemory) = WritesNone held held' ⊎ RunsInPart gives c held held'

-- how far a call that took a line came: the line was played, or is no directive; or an error came before or while its
-- text was written
abbrev pub PlaysOrStops : (CaseState → Outcome → Type 0) → CaseState → List ℕ → (held held' : Option (List ℕ))
    → CaseState → Result Bool OutError → Type 0
PlaysOrStops gives c line held held' z (Ok true) = (written : List ℕ) × PlaysCaseLine gives c line written z
    × Appends held held' written
PlaysOrStops gives c line held held' z (Ok false) = IsNoDirective c line × (z ≡ c) × WritesNone held held'
PlaysOrStops gives c line held held' z (Err e) = StopsPlay gives c line held held' e
