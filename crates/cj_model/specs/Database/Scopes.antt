-- The columns that a statement may name: which one a reference means, whether all are there, and whether kinds agree.
use Rattle.std.specs.Prelude.{ℕ, Bool, true, false, not, ◌&&◌, ◌||◌, ◌==◌, List, map, flat_map, count_by, position, slice_get, unwrap_or, option_map, is_none, if◌then◌else◌}
use Rattle.std.specs.declared.option.Option.{Option}
use Rattle.std.specs.declared.option.Option.TheVariants.{None, Some}
use Rattle.std.specs.Str.{bytes_eq}
use Rattle.cj_model.specs.declared.value.Kind.{Kind}
use Rattle.cj_model.specs.declared.value.Kind.TheVariants as kind
use Rattle.cj_model.specs.declared.term.ColRef.{ColRef}
use Rattle.cj_model.specs.declared.term.Term.{Term}
use Rattle.cj_model.specs.declared.term.Term.TheVariants.{Lit, Col, Now, Rand}
use Rattle.cj_model.specs.declared.term.Expr.{Expr}
use Rattle.cj_model.specs.declared.term.Expr.TheVariants.{One, Plus, Minus}
use Rattle.cj_model.specs.declared.schema.Column.{Column}
use Rattle.cj_model.specs.declared.schema.Schema.{Schema}
use Rattle.cj_model.specs.Database.Values.{kind_of}
use Rattle.cj_model.specs.Database.Tables.{same_kind}
use Rattle.cj_model.specs.Database.Conditions.{Condition, Test, Not, And, Or}
use Rattle.cj_model.specs.Database.Inserts.{constant_value}
use Rattle.cj_model.specs.Database.Predicates as by_place

-- columns beside the names of their tables, in the order of the values of these tables' rows side by side
abbrev pub Scope : Type 0
Scope = List (List ℕ × Column)

-- the columns of tables
abbrev pub scope_of : List Schema → Scope
scope_of schemas = flat_map (λ (s : Schema). map (λ (c : Column). (s.table, c)) s.columns) schemas

-- ---- references to columns

-- whether a reference may mean a column of this table: it names no table, or this one
abbrev pub allows_table : Option (List ℕ) → List ℕ → Bool
allows_table None table = true
allows_table (Some name) table = bytes_eq name table

-- whether the reference may mean this column
abbrev pub may_mean : ColRef → List ℕ × Column → Bool
may_mean r (table, column) = bytes_eq r.column column.name && allows_table r.table table

-- the index of the column that a reference means; none if no column fits it, or more than one
abbrev pub place_of : Scope → ColRef → Option ℕ
place_of scope r = if count_by (may_mean r) scope == 1 then position (may_mean r) scope else None

-- whether the reference means no column, or may mean several
abbrev pub is_unknown_column : Scope → ColRef → Bool
is_unknown_column scope r = is_none (place_of scope r)

-- the index of the column that a reference means, in a scope that has it
abbrev pub column_place : Scope → ColRef → ℕ
column_place scope r = unwrap_or (place_of scope r) 0

-- the kind of the column at an index
abbrev pub column_kind_at : Scope → ℕ → Kind
column_kind_at scope n = unwrap_or (option_map (λ (c : List ℕ × Column). c.1.kind) (slice_get scope n)) kind.Integer

-- ---- columns that are not there

abbrev pub term_has_unknown_column : Scope → Term → Bool
term_has_unknown_column scope (Lit v) = false
term_has_unknown_column scope (Col r) = is_unknown_column scope r
term_has_unknown_column scope Now = false
term_has_unknown_column scope (Rand n) = false

abbrev pub expr_has_unknown_column : Scope → Expr → Bool
expr_has_unknown_column scope (One t) = term_has_unknown_column scope t
expr_has_unknown_column scope (Plus l r) = term_has_unknown_column scope l || term_has_unknown_column scope r
expr_has_unknown_column scope (Minus l r) = term_has_unknown_column scope l || term_has_unknown_column scope r

abbrev pub has_unknown_column : Scope → Condition → Bool
has_unknown_column scope (Test cmp l r) = term_has_unknown_column scope l || term_has_unknown_column scope r
has_unknown_column scope (Not c) = has_unknown_column scope c
has_unknown_column scope (And c d) = has_unknown_column scope c || has_unknown_column scope d
has_unknown_column scope (Or c d) = has_unknown_column scope c || has_unknown_column scope d

-- whether the condition of WHERE, if there is one, names an unknown column
abbrev pub where_has_unknown_column : Scope → Option Condition → Bool
where_has_unknown_column scope None = false
where_has_unknown_column scope (Some c) = has_unknown_column scope c

-- ---- kinds that do not agree

abbrev pub kind_of_term : Scope → Term → Kind
kind_of_term scope (Lit v) = kind_of v
kind_of_term scope (Col r) = column_kind_at scope (column_place scope r)
kind_of_term scope Now = kind.Integer
kind_of_term scope (Rand n) = kind.Integer

abbrev pub kind_of_expr : Scope → Expr → Kind
kind_of_expr scope (One t) = kind_of_term scope t
kind_of_expr scope (Plus l r) = kind.Integer
kind_of_expr scope (Minus l r) = kind.Integer

abbrev pub is_text_term : Scope → Term → Bool
is_text_term scope t = same_kind (kind_of_term scope t) kind.Text

-- whether `+` or `-` has a TEXT operand
abbrev pub adds_text : Scope → Expr → Bool
adds_text scope (One t) = false
adds_text scope (Plus l r) = is_text_term scope l || is_text_term scope r
adds_text scope (Minus l r) = is_text_term scope l || is_text_term scope r

-- whether the sides of some comparison differ in kind
abbrev pub mixes_kinds : Scope → Condition → Bool
mixes_kinds scope (Test cmp l r) = not (same_kind (kind_of_term scope l) (kind_of_term scope r))
mixes_kinds scope (Not c) = mixes_kinds scope c
mixes_kinds scope (And c d) = mixes_kinds scope c || mixes_kinds scope d
mixes_kinds scope (Or c d) = mixes_kinds scope c || mixes_kinds scope d

-- whether the condition of WHERE, if there is one, has a comparison whose sides differ in kind
abbrev pub where_mixes_kinds : Scope → Option Condition → Bool
where_mixes_kinds scope None = false
where_mixes_kinds scope (Some c) = mixes_kinds scope c

-- ---- columns by their places; a plain statement's terms are literals and columns

abbrev pub operand_of : Scope → Term → by_place.Operand
operand_of scope (Lit v) = by_place.Constant v
operand_of scope (Col r) = by_place.Cell (column_place scope r)
operand_of scope Now = by_place.Constant (constant_value Now)
operand_of scope (Rand n) = by_place.Constant (constant_value (Rand n))

abbrev pub formula_of : Scope → Expr → by_place.Formula
formula_of scope (One t) = by_place.Just (operand_of scope t)
formula_of scope (Plus l r) = by_place.Sum (operand_of scope l) (operand_of scope r)
formula_of scope (Minus l r) = by_place.Difference (operand_of scope l) (operand_of scope r)

abbrev pub predicate_of : Scope → Condition → by_place.Predicate
predicate_of scope (Test cmp l r) = by_place.Compare cmp (operand_of scope l) (operand_of scope r)
predicate_of scope (Not c) = by_place.Not (predicate_of scope c)
predicate_of scope (And c d) = by_place.And (predicate_of scope c) (predicate_of scope d)
predicate_of scope (Or c d) = by_place.Or (predicate_of scope c) (predicate_of scope d)
