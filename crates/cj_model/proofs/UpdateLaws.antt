-- UPDATE and DELETE leave a table a table.
use Rattle.std.proofs.Common.{◌≡◌, ◌≢◌, ℕ, zero, suc, Bool, true, false, not, ◌&&◌, ◌||◌, cond, List, [], ◌∷◌, ◌++◌, map, set, pos, refl, ap, sym, ◌∙◌, arith, fold}
use Rattle.std.specs.Prelude.{IfOk, count_by, option_map, slice_set}
use Rattle.std.specs.declared.option.Option.{Option}
use Rattle.std.specs.declared.result.Result.TheVariants.{Ok}
use Rattle.std.proofs.lemmas.Bool.{or_parts, not-false, and_parts, and_from, cond_both, eqb-false}
use Rattle.std.proofs.lemmas.List.{length-map, get_or-set_other}
use Rattle.std.proofs.lemmas.List.Sums.{length-filter, count_by-le-length}
use Rattle.cj_model.proofs.Common.{All-filter, All-map, All-weaker, BAD_COLUMNS, Changed, Col, Column, Condition, Delete, Expr, Insert, Int, Lit, Minus, NO_COLUMN, Now, OVERFLOW, One, Plus, Predicate, Rand, Set, Table, Term, Update, Value, WRONG_TYPE, Write, list_any, refusal_of_code, refuse_if}
use Rattle.cj_model.specs.declared.value.Kind.{Kind}
use Rattle.cj_model.specs.declared.value.Kind.TheVariants as kind
use Rattle.cj_model.specs.Database.Values.{kind_of, value_cmp}
use Rattle.cj_model.specs.Database.Tables.{IsTable, cell, by_key, fits_columns, same_kind}
use Rattle.cj_model.specs.Database.Scopes.{Scope, scope_of, column_place, column_kind_at, where_has_unknown_column, kind_of_term, kind_of_expr, adds_text, where_mixes_kinds, operand_of, formula_of, predicate_of}
use Rattle.cj_model.specs.Database.Evaluation.{satisfies, operand_value, value_of}
use Rattle.cj_model.specs.Database.Updates.{column_set, set_has_unknown_column, sets_twice, sets_key, set_mixes_kinds, Assignment, assignment_of, assigned, overflows, with_new_values, updated, without_rows, deleted, change}
use Rattle.cj_model.proofs.RisingLaws.{rises_filter, rises_map}
use Rattle.cj_model.proofs.TableLaws.{unless_IfOk, IsTableWith, inserted_keeps}

abbrev Fits : List Column → List Value → Type 0
Fits columns row = fits_columns columns row ≡ true

-- ---- DELETE

without_rows_keeps : (t : Table) (condition : Option Predicate) → IsTable t → IfOk (without_rows t.rows condition) (IsTableWith t.schema)
without_rows_keeps t condition is =
    let kept : List Value → Bool = λ r. not (satisfies condition r) in
    record {
      few = is.few;
      distinct = is.distinct;
      key = is.key;
      kinds = All-filter kept (Fits t.schema.columns) t.rows is.kinds;
      rises = rises_filter (by_key t.schema.key) kept t.rows is.rises;
      room = omega (arith, length-filter kept t.rows, count_by-le-length kept t.rows, is.room);
    }

pub deleted_keeps : (t : Table) (condition : Option Condition) → IsTable t → IfOk (deleted t condition) (IsTableWith t.schema)
deleted_keeps t condition is =
    let scope = scope_of (t.schema ∷ []) in
    let rest : Changed = without_rows t.rows (option_map (predicate_of scope) condition) in
    unless_IfOk (IsTableWith t.schema) (where_has_unknown_column scope condition) (refusal_of_code NO_COLUMN) (refuse_if (where_mixes_kinds scope condition) (refusal_of_code WRONG_TYPE) rest) (λ known.
    unless_IfOk (IsTableWith t.schema) (where_mixes_kinds scope condition) (refusal_of_code WRONG_TYPE) rest (λ even.
    without_rows_keeps t (option_map (predicate_of scope) condition) is))

-- ---- kinds

same_kind-is : (a b : Kind) → same_kind a b ≡ true → a ≡ b
same_kind-is kind.Integer kind.Integer h = refl
same_kind-is kind.Integer kind.Text h = cc h
same_kind-is kind.Text kind.Integer h = cc h
same_kind-is kind.Text kind.Text h = refl

-- the scope of one table
abbrev beside : List ℕ → List Column → Scope
beside table columns = map (λ (c : Column). (table, c)) columns ++ []

-- what stands at a place of a row is of its column's kind
pub kind_of_cell : (table : List ℕ) (columns : List Column) (row : List Value) (n : ℕ) → Fits columns row → kind_of (cell row n) ≡ column_kind_at (beside table columns) n
kind_of_cell table [] [] n h = refl
kind_of_cell table [] (v ∷ vs) n h = cc h
kind_of_cell table (c ∷ cs) [] n h = cc h
kind_of_cell table (c ∷ cs) (v ∷ vs) zero h = sym (same_kind-is c.kind (kind_of v) (and_parts (same_kind c.kind (kind_of v)) (fits_columns cs vs) h).0)
kind_of_cell table (c ∷ cs) (v ∷ vs) (suc n) h = kind_of_cell table cs vs n (and_parts (same_kind c.kind (kind_of v)) (fits_columns cs vs) h).1

module _ (table : List ℕ) (columns : List Column) (row : List Value) (fits : Fits columns row) where
  kind_of_operand : (t : Term) → kind_of (operand_value row (operand_of (beside table columns) t)) ≡ kind_of_term (beside table columns) t
  kind_of_operand (Lit v) = refl
  kind_of_operand (Col r) = kind_of_cell table columns row (column_place (beside table columns) r) fits
  kind_of_operand Now = refl
  kind_of_operand (Rand n) = refl

  pub kind_of_worth : (e : Expr) → kind_of (value_of row (formula_of (beside table columns) e)) ≡ kind_of_expr (beside table columns) e
  kind_of_worth (One t) = kind_of_operand t
  kind_of_worth (Plus l r) = refl
  kind_of_worth (Minus l r) = refl

-- a value of its column's kind in the place of another
fits_set : (table : List ℕ) (columns : List Column) (row : List Value) (n : ℕ) (v : Value) → Fits columns row → same_kind (column_kind_at (beside table columns) n) (kind_of v) ≡ true → Fits columns (set row n v)
fits_set table [] [] n v h k = refl
fits_set table [] (w ∷ ws) n v h k = cc h
fits_set table (c ∷ cs) [] n v h k = cc h
fits_set table (c ∷ cs) (w ∷ ws) zero v h k = and_from (same_kind c.kind (kind_of v)) (fits_columns cs ws) k (and_parts (same_kind c.kind (kind_of w)) (fits_columns cs ws) h).1
fits_set table (c ∷ cs) (w ∷ ws) (suc n) v h k =
    let parts = and_parts (same_kind c.kind (kind_of w)) (fits_columns cs ws) h in
    and_from (same_kind c.kind (kind_of w)) (fits_columns cs (set ws n v)) parts.0 (fits_set table cs ws n v parts.1 k)

-- ---- UPDATE

module _ (table : List ℕ) (columns : List Column) (key : ℕ) where
  -- the new values fit the columns
  fits_assigned : (sets : List Set) (row new : List Value) → list_any (set_mixes_kinds (beside table columns)) sets ≡ false → Fits columns row → Fits columns new
      → Fits columns (fold (λ new (a : Assignment). slice_set new a.place (value_of row a.value)) new (map (assignment_of (beside table columns)) sets))
  fits_assigned [] row new none fits h = h
  fits_assigned (s ∷ sets) row new none fits h =
      let scope = beside table columns in
      let parts = or_parts (set_mixes_kinds scope s) (list_any (set_mixes_kinds scope) sets) none in
      let agree : not (same_kind (column_kind_at scope (column_place scope (column_set s))) (kind_of_expr scope s.value)) ≡ false = (or_parts (adds_text scope s.value) _ parts.0).1 in
      fits_assigned sets row (set new (column_place scope (column_set s)) (value_of row (formula_of scope s.value))) parts.1 fits
      (fits_set table columns new (column_place scope (column_set s)) (value_of row (formula_of scope s.value)) h
      (ap (same_kind (column_kind_at scope (column_place scope (column_set s)))) (kind_of_worth table columns row fits s.value) ∙ not-false _ agree))

  -- the key stays
  pub key_assigned : (scope : Scope) (sets : List Set) (row new : List Value) → list_any (sets_key scope key) sets ≡ false
      → cell (fold (λ new (a : Assignment). slice_set new a.place (value_of row a.value)) new (map (assignment_of scope) sets)) key ≡ cell new key
  key_assigned scope [] row new none = refl
  key_assigned scope (s ∷ sets) row new none =
      let parts = or_parts (sets_key scope key s) (list_any (sets_key scope key) sets) none in
      let other : column_place scope (column_set s) ≢ key = eqb-false _ _ parts.0 in
      key_assigned scope sets row (set new (column_place scope (column_set s)) (value_of row (formula_of scope s.value))) parts.1
      ∙ get_or-set_other new (column_place scope (column_set s)) key (value_of row (formula_of scope s.value)) (Int (pos 0)) (λ e. other (sym e))

with_new_values_keeps : (t : Table) (sets : List Set) (condition : Option Predicate) → IsTable t
    → list_any (sets_key (scope_of (t.schema ∷ [])) t.schema.key) sets ≡ false → list_any (set_mixes_kinds (scope_of (t.schema ∷ []))) sets ≡ false
    → IfOk (with_new_values t.rows (map (assignment_of (scope_of (t.schema ∷ []))) sets) condition) (IsTableWith t.schema)
with_new_values_keeps t sets condition is unkeyed even =
    let columns = t.schema.columns in
    let key = t.schema.key in
    let scope = scope_of (t.schema ∷ []) in
    let assignments : List Assignment = map (assignment_of scope) sets in
    let new : List Value → List Value = λ r. cond (satisfies condition r) (assigned assignments r) r in
    let fits : (r : List Value) → Fits columns r → Fits columns (new r) =
    λ r h. cond_both (satisfies condition r) (assigned assignments r) r (Fits columns) (λ _. fits_assigned t.schema.table columns key sets r r even h h) (λ _. h) in
    let kept : (r : List Value) → cell (new r) key ≡ cell r key =
    λ r. cond_both (satisfies condition r) (assigned assignments r) r (λ (s : List Value). cell s key ≡ cell r key) (λ _. key_assigned t.schema.table columns key scope sets r r unkeyed) (λ _. refl) in
    unless_IfOk (IsTableWith t.schema) (list_any (λ r. satisfies condition r && overflows assignments r) t.rows) (refusal_of_code OVERFLOW) (Ok (map new t.rows, count_by (satisfies condition) t.rows)) (λ within. record {
      few = is.few;
      distinct = is.distinct;
      key = is.key;
      kinds = All-map (Fits columns) new t.rows (All-weaker (Fits columns) (λ r. Fits columns (new r)) fits t.rows is.kinds);
      rises = rises_map (by_key key) (Fits columns) new (λ x y p q. ap (λ v. value_cmp v (cell (new y) key)) (kept x) ∙ ap (λ v. value_cmp (cell x key) v) (kept y)) t.rows is.kinds is.rises;
      room = omega (arith, length-map t.rows new, is.room);
    })

pub updated_keeps : (t : Table) (sets : List Set) (condition : Option Condition) → IsTable t → IfOk (updated t sets condition) (IsTableWith t.schema)
updated_keeps t sets condition is =
    let scope = scope_of (t.schema ∷ []) in
    let unknown : Bool = list_any (set_has_unknown_column scope) sets || where_has_unknown_column scope condition in
    let bad : Bool = sets_twice sets || list_any (sets_key scope t.schema.key) sets in
    let uneven : Bool = list_any (set_mixes_kinds scope) sets || where_mixes_kinds scope condition in
    let rest : Changed = with_new_values t.rows (map (assignment_of scope) sets) (option_map (predicate_of scope) condition) in
    unless_IfOk (IsTableWith t.schema) unknown (refusal_of_code NO_COLUMN) (refuse_if bad (refusal_of_code BAD_COLUMNS) (refuse_if uneven (refusal_of_code WRONG_TYPE) rest)) (λ known.
    unless_IfOk (IsTableWith t.schema) bad (refusal_of_code BAD_COLUMNS) (refuse_if uneven (refusal_of_code WRONG_TYPE) rest) (λ good.
    unless_IfOk (IsTableWith t.schema) uneven (refusal_of_code WRONG_TYPE) rest (λ even.
    with_new_values_keeps t sets (option_map (predicate_of scope) condition) is (or_parts (sets_twice sets) _ good).1 (or_parts (list_any (set_mixes_kinds scope) sets) _ even).0)))

-- any write
pub change_keeps : (t : Table) (w : Write) → IsTable t → IfOk (change t w) (IsTableWith t.schema)
change_keeps t (Insert name names tuples) is = inserted_keeps t names tuples is
change_keeps t (Update name sets condition) is = updated_keeps t sets condition is
change_keeps t (Delete name condition) is = deleted_keeps t condition is
