-- Answers whose rows have one value for each column.
use Rattle.std.specs.Prelude.{◌≡◌, length, All}
use Rattle.cj_model.specs.declared.answer.Asked.{Asked}
use Rattle.cj_model.specs.declared.answer.Asked.TheVariants.{Rows, Refused}

-- each row of an answer has one value for each of its columns
abbrev pub HasEvenRows : Asked → Type 0
HasEvenRows (Rows answer) = All (λ row. length row ≡ length answer.columns) answer.rows
HasEvenRows (Refused refusal) = Unit {0}
