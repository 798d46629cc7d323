-- Rows that a removal leaves.
use Rattle.std.specs.Prelude.{Bool, List, not}
use Rattle.cj_model.specs.declared.value.Value.{Value}
use Rattle.cj_model.specs.Database.Evaluation.{satisfies}
use Rattle.cj_dml.specs.declared.unmet.Unmet.{Unmet}

-- the row does not meet the condition
abbrev pub is_unmet : Unmet → List Value → Bool
is_unmet u row = not (satisfies u.condition row)
