-- The values of conditions and expressions in a row.
use Rattle.std.specs.Prelude.{ℤ, pos, neg_ℤ, ◌+ℤ◌, ◌-ℤ◌, int_lt, Bool, true, false, not, ◌&&◌, ◌||◌, List}
use Rattle.std.specs.declared.option.Option.{Option}
use Rattle.std.specs.declared.option.Option.TheVariants.{None, Some}
use Rattle.std.specs.declared.cmp.Ordering.{Ordering}
use Rattle.std.specs.Ordering.{is_eq, is_ne, is_lt, is_le, is_gt, is_ge}
use Rattle.cj_model.specs.declared.value.Value.{Value}
use Rattle.cj_model.specs.declared.value.Value.TheVariants.{Int, Text}
use Rattle.cj_model.specs.declared.term.Cmp.{Cmp}
use Rattle.cj_model.specs.declared.term.Cmp.TheVariants.{Eq, Ne, Lt, Le, Gt, Ge}
use Rattle.cj_model.specs.Database.Values.{value_cmp}
use Rattle.cj_model.specs.Database.Tables.{cell}
use Rattle.cj_model.specs.Database.Predicates.{Operand, Constant, Cell, Formula, Just, Sum, Difference, Predicate, Compare, Not, And, Or}

-- ---- conditions

-- the value of an operand in a row
abbrev pub operand_value : List Value → Operand → Value
operand_value row (Constant v) = v
operand_value row (Cell n) = cell row n

-- whether the relation holds of two values that are ordered so
abbrev pub relation_holds : Cmp → Ordering → Bool
relation_holds Eq o = is_eq o
relation_holds Ne o = is_ne o
relation_holds Lt o = is_lt o
relation_holds Le o = is_le o
relation_holds Gt o = is_gt o
relation_holds Ge o = is_ge o

-- whether the row meets the condition: INTEGER is compared as numbers, TEXT by bytes
abbrev pub is_true_in : Predicate → List Value → Bool
is_true_in (Compare cmp l r) row = relation_holds cmp (value_cmp (operand_value row l) (operand_value row r))
is_true_in (Not p) row = not (is_true_in p row)
is_true_in (And p q) row = is_true_in p row && is_true_in q row
is_true_in (Or p q) row = is_true_in p row || is_true_in q row

-- whether the row meets the condition, if there is one; without one each row does
abbrev pub satisfies : Option Predicate → List Value → Bool
satisfies None row = true
satisfies (Some p) row = is_true_in p row

-- ---- expressions

-- the number of a value; a TEXT counts as 0
abbrev pub integer_of : Value → ℤ
integer_of (Int z) = z
integer_of (Text t) = pos 0

-- the value of an expression in a row, where an INTEGER may have any size
abbrev pub value_of : List Value → Formula → Value
value_of row (Just o) = operand_value row o
value_of row (Sum l r) = Int (integer_of (operand_value row l) +ℤ integer_of (operand_value row r))
value_of row (Difference l r) = Int (integer_of (operand_value row l) -ℤ integer_of (operand_value row r))

-- whether a value is an INTEGER outside 64 bits
abbrev pub is_out_of_range : Value → Bool
is_out_of_range (Int z) = int_lt z (neg_ℤ (pos 9223372036854775808)) || int_lt (pos 9223372036854775807) z
is_out_of_range (Text t) = false
