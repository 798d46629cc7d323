-- What is told in plain words of an end, after what the run wrote to the errors.
use Rattle.std.specs.Prelude.{◌≡◌, ◌≢◌, ◌⊎◌, ◌++◌, ◌∷◌, [], ℕ, List, Result, IsErrOf, All, Contains, map}
use Rattle.std.specs.declared.option.Option.{Option}
use Rattle.cj_outside.specs.Causes.{CountsFault}
use Rattle.cj_outside.specs.Streams.{WritesAll}
use Rattle.cj_outside.specs.declared.sink.OutError.{OutError}
use Rattle.cj_outside.specs.declared.sink.OutError.TheVariants as out_errors
use Rattle.cj_explain.specs.declared.lines.TheConstants.{LINES}

-- the table has this line for this status
abbrev pub HasLine : ℕ → List ℕ → Type 0
HasLine status line = Contains {X = ℕ × List ℕ} (map (λ row. (row.0, row.2.now)) LINES) (status, line)

-- no row of the table has this status
abbrev pub HasNoLine : ℕ → Type 0
HasNoLine status = All (λ other. other ≢ status) (map (λ row. row.0) LINES)

-- What the errors hold and the faults they have counted, before and after something was told.
module _ (errors errors' : Option (List ℕ)) (before now : ℕ) where
  -- The text was written whole. Else the errors failed in it, which they counted, or memory ran out for it.
  pub record TellsText (text : List ℕ) : Type 0 where
    pub answer : Result (Unit {0}) OutError
    pub bytes : WritesAll errors errors' text answer
    pub cause : CountsFault (IsErrOf answer out_errors.Failed) before now

  -- nothing was told
  abbrev pub TellsNothing : Type 0
  TellsNothing = (errors' ≡ errors) × (now ≡ before)

  -- a line of the table for this status, or nothing if it has none
  abbrev pub TellsListedLine : ℕ → Type 0
  TellsListedLine status = ((line : List ℕ) × HasLine status line × TellsText line) ⊎ (HasNoLine status × TellsNothing)

  -- a text that ends with LF, or nothing
  abbrev pub TellsPlace : Type 0
  TellsPlace = ((front : List ℕ) × TellsText (front ++ 10 ∷ [])) ⊎ TellsNothing

  -- What is told at the end with this status. 3 is that of a refused configuration.
  abbrev pub Explains : ℕ → Type 0
  Explains status = (status ≢ 3) × TellsListedLine status ⊎ (status ≡ 3) × TellsPlace
