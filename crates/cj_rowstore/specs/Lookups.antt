-- Rows by their keys.
use Rattle.std.specs.Prelude.{◌≡◌, ℕ, true, List, filter, find}
use Rattle.std.specs.Ordering.{is_eq, is_le}
use Rattle.std.specs.declared.option.Option.{Option}
use Rattle.cj_model.specs.declared.value.Value.{Value}
use Rattle.cj_model.specs.Database.Values.{value_cmp}
use Rattle.cj_model.specs.Database.Tables.{cell}
use Rattle.cj_model.specs.Database.Predicates.{Predicate}
use Rattle.cj_model.specs.Database.Evaluation.{satisfies}

-- the row whose key is this value, if there is one
abbrev pub row_with_key : ℕ → List (List Value) → Value → Option (List Value)
row_with_key k rows v = find (λ r. is_eq (value_cmp (cell r k) v)) rows

-- the rows whose key is this value or greater
abbrev pub rows_from : ℕ → Value → List (List Value) → List (List Value)
rows_from k v rows = filter (λ r. is_le (value_cmp v (cell r k))) rows

-- each row that meets the condition has this value as its key
pub record IsKeyOf (k : ℕ) (condition : Option Predicate) (v : Value) : Type 0 where
  pub at : (row : List Value) → satisfies condition row ≡ true → cell row k ≡ v
