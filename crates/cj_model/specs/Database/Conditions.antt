-- Conditions as trees.
use Rattle.cj_model.specs.declared.term.Cmp.{Cmp}
use Rattle.cj_model.specs.declared.term.Term.{Term}

pub data Condition : Type 0 where
  Test : Cmp → Term → Term → Condition
  Not : Condition → Condition
  And : Condition → Condition → Condition
  Or : Condition → Condition → Condition
