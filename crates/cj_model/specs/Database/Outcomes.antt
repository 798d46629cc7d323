-- Which outcomes an entry and which answers a query may have, whatever a backend holds.
use Rattle.std.specs.Prelude.{◌≡◌, ◌⊎◌, ℕ, ◌<◌, ◌≤◌, length, All}
use Rattle.cj_model.specs.declared.answer.Answer.{Answer}
use Rattle.cj_model.specs.declared.answer.Asked.{Asked}
use Rattle.cj_model.specs.declared.answer.Asked.TheVariants as asked
use Rattle.cj_model.specs.declared.answer.Outcome.{Outcome}
use Rattle.cj_model.specs.declared.answer.Outcome.TheVariants as outcome
use Rattle.cj_model.specs.declared.codes.TheConstants.{NO_TABLE, NO_COLUMN, BAD_COLUMNS, OVERFLOW, WRONG_TYPE, ROWS_FULL}
use Rattle.cj_model.specs.declared.limits.TheConstants.{ANSWER_LIMIT}

-- the codes with which a change may be refused
abbrev pub IsChangeCode : ℕ → Type 0
IsChangeCode code = (NO_TABLE ≤ code) × (code ≤ ROWS_FULL)

-- the outcomes that a change may have
abbrev pub IsOutcome : Outcome → Type 0
IsOutcome (outcome.Done count) = Unit {0}
IsOutcome (outcome.Refused refusal) = IsChangeCode refusal.code

-- the codes with which a query may be refused
abbrev pub IsQueryCode : ℕ → Type 0
IsQueryCode code =
    (code ≡ NO_TABLE) ⊎ (code ≡ NO_COLUMN) ⊎ (code ≡ BAD_COLUMNS) ⊎ (code ≡ OVERFLOW) ⊎ (code ≡ WRONG_TYPE)

-- an answer has from 1 to 64 columns, and in each row a value for each column
pub record IsAnswer (a : Answer) : Type 0 where
  pub some : 0 < length a.columns
  pub few : length a.columns ≤ ANSWER_LIMIT
  pub each : All (λ row. length row ≡ length a.columns) a.rows

-- the answers that a query may have
abbrev pub IsAsked : Asked → Type 0
IsAsked (asked.Rows answer) = IsAnswer answer
IsAsked (asked.Refused refusal) = IsQueryCode refusal.code
