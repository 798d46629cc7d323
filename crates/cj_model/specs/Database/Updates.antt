-- What any write makes of a table, or the first refusal.
use Rattle.std.specs.Prelude.{ℕ, Bool, not, ◌&&◌, ◌||◌, ◌==◌, List, [], ◌∷◌, map, filter, fold, count_by, slice_set, option_map, if◌then◌else◌}
use Rattle.std.specs.declared.option.Option.{Option}
use Rattle.std.specs.declared.option.Option.TheVariants.{None}
use Rattle.std.specs.declared.result.Result.TheVariants.{Ok}
use Rattle.std.specs.List.{list_any}
use Rattle.cj_model.specs.declared.value.Value.{Value}
use Rattle.cj_model.specs.declared.term.ColRef.{ColRef}
use Rattle.cj_model.specs.declared.database.Table.{Table}
use Rattle.cj_model.specs.declared.write.Set.{Set}
use Rattle.cj_model.specs.declared.write.Write.{Write}
use Rattle.cj_model.specs.declared.write.Write.TheVariants.{Insert, Update, Delete}
use Rattle.cj_model.specs.declared.codes.TheConstants.{NO_COLUMN, BAD_COLUMNS, OVERFLOW, WRONG_TYPE}
use Rattle.cj_model.specs.Database.Conditions.{Condition}
use Rattle.cj_model.specs.Database.Predicates.{Formula, Predicate}
use Rattle.cj_model.specs.Database.Tables.{is_distinct, same_kind}
use Rattle.cj_model.specs.Database.Inserts.{Changed, refusal_of_code, refuse_if, inserted}
use Rattle.cj_model.specs.Database.Scopes.{Scope, scope_of, is_unknown_column, column_place, column_kind_at, expr_has_unknown_column, where_has_unknown_column, kind_of_expr, adds_text, where_mixes_kinds, formula_of, predicate_of}
use Rattle.cj_model.specs.Database.Evaluation.{satisfies, value_of, is_out_of_range}

-- ---- assignments

-- the reference to the column that an assignment sets
abbrev pub column_set : Set → ColRef
column_set s = record { table = None; column = s.column }

-- whether an assignment sets, or uses in its expression, a column that the table doesn't have
abbrev pub set_has_unknown_column : Scope → Set → Bool
set_has_unknown_column scope s = is_unknown_column scope (column_set s) || expr_has_unknown_column scope s.value

-- whether some column is set twice
abbrev pub sets_twice : List Set → Bool
sets_twice sets = not (is_distinct (map (λ (s : Set). s.column) sets))

-- whether the assignment sets the primary key, at index k
abbrev pub sets_key : Scope → ℕ → Set → Bool
sets_key scope k s = column_place scope (column_set s) == k

-- whether `+` or `-` has a TEXT operand, or the value is not of its column's kind
abbrev pub set_mixes_kinds : Scope → Set → Bool
set_mixes_kinds scope s = adds_text scope s.value || not (same_kind (column_kind_at scope (column_place scope (column_set s))) (kind_of_expr scope s.value))

-- an assignment: an index of the row, and the expression for the new value there
pub record Assignment : Type 0 where
  pub place : ℕ
  pub value : Formula

abbrev pub assignment_of : Scope → Set → Assignment
assignment_of scope s = record { place = column_place scope (column_set s); value = formula_of scope s.value }

-- the row with its new values, which are all computed from the old row
abbrev pub assigned : List Assignment → List Value → List Value
assigned assignments row = fold (λ new (a : Assignment). slice_set new a.place (value_of row a.value)) row assignments

-- whether a new value of the row lies outside 64 bits
abbrev pub overflows : List Assignment → List Value → Bool
overflows assignments row = list_any (λ (a : Assignment). is_out_of_range (value_of row a.value)) assignments

-- ---- UPDATE and DELETE

-- the rows that meet the condition with their new values, and how many they are
abbrev pub with_new_values : List (List Value) → List Assignment → Option Predicate → Changed
with_new_values rows assignments condition =
    refuse_if (list_any (λ r. satisfies condition r && overflows assignments r) rows) (refusal_of_code OVERFLOW)
    (Ok (map (λ r. if satisfies condition r then assigned assignments r else r) rows, count_by (satisfies condition) rows))

abbrev pub updated : Table → List Set → Option Condition → Changed
updated t sets condition =
    let scope = scope_of (t.schema ∷ []) in
    refuse_if (list_any (set_has_unknown_column scope) sets || where_has_unknown_column scope condition) (refusal_of_code NO_COLUMN)
    (refuse_if (sets_twice sets || list_any (sets_key scope t.schema.key) sets) (refusal_of_code BAD_COLUMNS)
    (refuse_if (list_any (set_mixes_kinds scope) sets || where_mixes_kinds scope condition) (refusal_of_code WRONG_TYPE)
    (with_new_values t.rows (map (assignment_of scope) sets) (option_map (predicate_of scope) condition))))

-- the rows that do not meet the condition, and how many do
abbrev pub without_rows : List (List Value) → Option Predicate → Changed
without_rows rows condition = Ok (filter (λ r. not (satisfies condition r)) rows, count_by (satisfies condition) rows)

abbrev pub deleted : Table → Option Condition → Changed
deleted t condition =
    let scope = scope_of (t.schema ∷ []) in
    refuse_if (where_has_unknown_column scope condition) (refusal_of_code NO_COLUMN)
    (refuse_if (where_mixes_kinds scope condition) (refusal_of_code WRONG_TYPE)
    (without_rows t.rows (option_map (predicate_of scope) condition)))

-- ---- any write

abbrev pub change : Table → Write → Changed
change t (Insert name names tuples) = inserted t names tuples
change t (Update name sets condition) = updated t sets condition
change t (Delete name condition) = deleted t condition
