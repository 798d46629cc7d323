-- A column that is set in place.
use Rattle.std.specs.Prelude.{◌≡◌, ℕ, ℤ, true, List, [], ◌∷◌, All, is_some, length, slice_set, if◌then◌else◌}
use Rattle.std.specs.declared.option.Option.{Option}
use Rattle.std.specs.declared.option.Option.TheVariants.{None, Some}
use Rattle.cj_model.specs.declared.value.Value.{Value}
use Rattle.cj_model.specs.declared.value.Value.TheVariants.{Int}
use Rattle.cj_model.specs.Database.Evaluation.{satisfies, value_of}
use Rattle.cj_model.specs.Database.Updates.{Assignment}
use Rattle.cj_expr.specs.Results.{integer_within}
use Rattle.cj_expr.specs.Shapes.{formula}
use Rattle.cj_model.specs.Database.Predicates.{Formula, Predicate}
use Rattle.cj_dml.specs.declared.plan.Change.{Change}
use Rattle.cj_dml.specs.declared.plan.Change.TheVariants.{ByKey, InPlace, Removal}
use Rattle.cj_dml.specs.declared.column_edit.ColumnEdit.{ColumnEdit}

-- the row with this INTEGER at the index, or as it was where there is none
abbrev pub with_integer : List Value → ℕ → Option ℤ → List Value
with_integer row place None = row
with_integer row place (Some z) = slice_set row place (Int z)

-- the row with its new value if it meets the condition and the value is an INTEGER that fits 64 bits, else as it
-- was
abbrev pub edited : ColumnEdit → List Value → List Value
edited r row = if satisfies r.condition row then with_integer row r.place (integer_within (value_of row (formula r.value))) else row

-- the expression is an INTEGER that fits 64 bits in each of these rows
abbrev pub AreIntegers : Formula → List (List Value) → Type 0
AreIntegers e rows = All (λ row. is_some (integer_within (value_of row e)) ≡ true) rows

-- the expression is an INTEGER that fits 64 bits in each of these `n` rows
abbrev pub CountsIntegers : Formula → List (List Value) → ℕ → Type 0
CountsIntegers e rows n = AreIntegers e rows × (n ≡ length rows)

-- one column is set, and its value is an INTEGER that fits 64 bits in each of these rows
abbrev pub GetIntegers : List Assignment → List (List Value) → Type 0
GetIntegers [] rows = ⊥
GetIntegers (a ∷ []) rows = AreIntegers a.value rows
GetIntegers (a ∷ b ∷ as') rows = ⊥

-- the change sets the one assigned column in place, and counts `n` rows as written
abbrev pub SetsInPlace : List Assignment → Option Predicate → ℕ → Change → Type 0
SetsInPlace as' condition n (ByKey p) = ⊥
SetsInPlace as' condition n (Removal u count written) = ⊥
SetsInPlace as' condition n (InPlace r written) = (as' ≡ record { place = r.place; value = formula r.value } ∷ []) × (r.condition ≡ condition) × (written ≡ n)
