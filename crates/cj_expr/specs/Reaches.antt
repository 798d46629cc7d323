-- Which values the rows that meet a condition may have at an index.
use Rattle.std.specs.Prelude.{◌≡◌, ℕ, Bool, true, false, List, option_copied}
use Rattle.std.specs.Ordering.{is_le}
use Rattle.std.specs.declared.option.Option.{Option}
use Rattle.std.specs.declared.option.Option.TheVariants.{None, Some}
use Rattle.cj_model.specs.declared.value.Value.{Value}
use Rattle.cj_model.specs.declared.term.Cmp.{Cmp}
use Rattle.cj_model.specs.declared.term.Cmp.TheVariants.{Eq, Ne, Lt, Le, Gt, Ge}
use Rattle.cj_model.specs.Database.Values.{value_cmp}
use Rattle.cj_model.specs.Database.Tables.{cell}
use Rattle.cj_model.specs.Database.Predicates.{Predicate}
use Rattle.cj_model.specs.Database.Evaluation.{is_true_in, relation_holds}
use Rattle.cj_expr.specs.declared.reach.Reach.{Reach}

-- the value is not below the start, if there is a start
abbrev pub is_from : Option Value → Value → Bool
is_from None v = true
is_from (Some start) v = is_le (value_cmp start v)

-- the first start is not above the second, where a missing start is below each value
abbrev pub starts_first : Option Value → Option Value → Bool
starts_first None two = true
starts_first (Some one) None = false
starts_first (Some one) (Some two) = is_le (value_cmp one two)

-- the value is not below the start of the range; a missing range has no value
abbrev pub is_reached : Option Reach → Value → Bool
is_reached None v = false
is_reached (Some reach) v = is_from (option_copied reach.start) v

-- each value from `key` on that passes the test is in the range
pub record ReachesAll (key : Value) (test : Value → Bool) (reach : Option Reach) : Type 0 where
  pub at : (v : Value) → is_le (value_cmp key v) ≡ true → test v ≡ true → is_reached reach v ≡ true

-- each row that meets the condition and has `key` or more at the index has a value of the range there
pub record ReachesRows (place : ℕ) (p : Predicate) (key : Value) (reach : Option Reach) : Type 0 where
  pub at : (row : List Value) → is_le (value_cmp key (cell row place)) ≡ true → is_true_in p row ≡ true → is_reached reach (cell row place) ≡ true

-- the wide range has each value of the narrow one
pub record IsAsWide (wide narrow : Option Reach) : Type 0 where
  pub at : (v : Value) → is_reached narrow v ≡ true → is_reached wide v ≡ true

-- the range `both` has each value that both other ranges have
pub record IsCommon (left right both : Option Reach) : Type 0 where
  pub at : (v : Value) → is_reached left v ≡ true → is_reached right v ≡ true → is_reached both v ≡ true

-- the value `v` is in this relation to the value `w`
abbrev pub holds_to : Cmp → Value → Value → Bool
holds_to cmp w v = relation_holds cmp (value_cmp v w)

-- the relation with its sides exchanged: `a < b` is `b > a`
abbrev pub flipped : Cmp → Cmp
flipped Eq = Eq
flipped Ne = Ne
flipped Lt = Gt
flipped Le = Ge
flipped Gt = Lt
flipped Ge = Le
