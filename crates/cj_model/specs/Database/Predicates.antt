-- Conditions and expressions whose columns are given by their indexes in a row.
use Rattle.std.specs.Prelude.{ℕ}
use Rattle.cj_model.specs.declared.value.Value.{Value}
use Rattle.cj_model.specs.declared.term.Cmp.{Cmp}

-- a value, or the value at an index of the row
pub data Operand : Type 0 where
  Constant : Value → Operand
  Cell : ℕ → Operand

-- an operand, or a sum or difference of two
pub data Formula : Type 0 where
  Just : Operand → Formula
  Sum : Operand → Operand → Formula
  Difference : Operand → Operand → Formula

-- a condition over a row
pub data Predicate : Type 0 where
  Compare : Cmp → Operand → Operand → Predicate
  Not : Predicate → Predicate
  And : Predicate → Predicate → Predicate
  Or : Predicate → Predicate → Predicate
