-- A step leaves a storable database storable, where some text reads as its request.
use Rattle.std.proofs.Common.{◌≡◌, sym, subst, ℕ, zero, suc, ◌+◌, ◌==◌, true, false, not, ◌&&◌, ◌||◌, nat_lt, nat_le, eqb, cond, ℤ, pos, negsuc, List, [], ◌∷◌, length, map, inl, inr, arith}
use Rattle.std.specs.Prelude.{All, IfOk, IfSome, fold, option_map, position, unwrap_or, slice_index_or, slice_set, is_some, count_by}
use Rattle.std.specs.declared.option.Option.{Option}
use Rattle.std.specs.declared.option.Option.TheVariants.{None, Some}
use Rattle.std.specs.declared.result.Result.TheVariants.{Ok, Err}
use Rattle.std.proofs.lemmas.Bool.{and_from, or_parts, cases_lt, cond_both, le-leb, ltb-false}
use Rattle.std.proofs.lemmas.List.{get_or_past}
use Rattle.std.proofs.lemmas.List.Elements.{All-nil, All-cons, All-head, All-tail, All-set, All-weaker, All-filter, All-map, All-get_or}
use Rattle.cj_model.proofs.Common.{Act, BAD_COLUMNS, COLUMN_LIMIT, Col, ColDef, Column, Condition, Create, DUPLICATE, Delete, Draft, Expr, Insert, Int, Lit, Minus, NAME_LIMIT, NO_COLUMN, Now, OVERFLOW, One, Plus, Predicate, ROW_LIMIT, Rand, Set, Slot, Table, Term, Update, Value, WRONG_TYPE, Write, bytes_eq, list_any}
use Rattle.cj_model.specs.declared.request.Request.TheVariants as request
use Rattle.cj_model.specs.declared.request.Act.TheVariants as act
use Rattle.cj_model.specs.Sql.Names.{is_spelled_as_name, is_name}
use Rattle.cj_model.specs.Sql.Literals.{IsConstant}
use Rattle.cj_model.specs.Database.Tables.{IsSlot, cell, by_key, by_table, table_of, slot_of, put_by, fits_columns}
use Rattle.cj_model.specs.Sql.TermForms as t
use Rattle.cj_model.specs.Sql.TermForms.{ConstForm, TermForm, ExprForm, EachFits, SomeFit, const_meant, term_meant, expr_meant, ConstFits, TermFits, ExprFits}
use Rattle.cj_model.specs.Sql.Grammar as g
use Rattle.cj_model.specs.Sql.Grammar.{Statement, set_meant, where_meant, statement_meant, SetFits, StatementFits}
use Rattle.cj_model.specs.Database.Inserts.{Changed, refusal_of_code, refuse_if, constant_value, row_of, lists_unknown_column, lists_unevenly, has_key, has_key_twice, too_many_rows, inserted}
use Rattle.cj_model.specs.Database.Scopes.{Scope, scope_of, column_place, where_mixes_kinds, operand_of, formula_of, predicate_of}
use Rattle.cj_model.specs.Database.Evaluation.{satisfies, operand_value, value_of, is_out_of_range}
use Rattle.cj_model.specs.Database.Updates.{column_set, sets_twice, sets_key, set_mixes_kinds, Assignment, assignment_of, assigned, overflows, with_new_values, updated, without_rows, deleted, change}
use Rattle.cj_model.specs.Database.Steps.{Stepped, seen_behind, seen, other_writer, with_table, table_written, write_done, write_unless_locked, write_in, written, make_schema, empty_slot, created, drop_unless_locked, drop_in, dropped, commit_behind, committed, abort_behind, aborted, acted}
use Rattle.cj_model.specs.Sql.PlainRequests.{request_of}
use Rattle.cj_model.specs.Sql.WrittenRequests.{IsWritten}
use Rattle.cj_model.specs.Database.Storable.{IsFreeName, IsStorableTable, IsStorableSlot, IsStorable}
use Rattle.cj_model.proofs.Columns.{read_columns}
use Rattle.cj_model.proofs.DatabaseLaws.{written_keeps, created_keeps, dropped_keeps, committed_keeps, aborted_keeps}
use Rattle.cj_model.proofs.Names.{spelled_as_name}
use Rattle.cj_model.proofs.RisingLaws.{found_All, all_put, all_put_each}
use Rattle.cj_model.proofs.Spellable.{FineName, FineTerm, FineConst, FineExpr, FineColDef, FineSet, FineRequest, request_fine}
use Rattle.cj_model.proofs.TableLaws.{unless_IfOk}

-- ---- names

-- a name that can be spelled is no reserved word
pub fine_is_free : (n : List ℕ) → FineName n → IsFreeName n
unfolding is_name
fine_is_free n h =
    let spelled : is_spelled_as_name n ≡ true = subst (λ z. is_spelled_as_name z ≡ true) (sym h.3) (spelled_as_name n h.0) in
    (and_from (nat_le (length n) NAME_LIMIT) (is_spelled_as_name n) (le-leb (length n) NAME_LIMIT h.1) spelled, h.2)

-- ---- values

-- a row of constants
abbrev AreConstants : List Value → Type 0
AreConstants row = All IsConstant row

-- a number that is not outside 64 bits
within_is_constant : (z : ℤ) → is_out_of_range (Int z) ≡ false → IsConstant (Int z)
within_is_constant (pos n) h = omega (arith, ltb-false 9223372036854775807 n h)
within_is_constant (negsuc n) h = omega (arith, ltb-false 9223372036854775807 n (or_parts (nat_lt 9223372036854775807 n) false h).0)

-- the value at a place of a row; past the end it is 0
cell_is_constant : (row : List Value) (n : ℕ) → AreConstants row → IsConstant (cell row n)
cell_is_constant row n h = elim (cases_lt n (length row)) [
  | inl l ↦ All-get_or IsConstant row n (Int (pos 0)) l h
  | inr l ↦ subst IsConstant (sym (get_or_past row n (Int (pos 0)) l)) (omega arith)
]

-- ---- terms of a statement

-- the value of a term is a constant; one that is no literal has the value 0 here
abbrev IsConstantTerm : Term → Type 0
IsConstantTerm t = IsConstant (constant_value t)

-- the value of a written constant
const_is_constant : (f : ConstForm) → ConstFits f → FineTerm (const_meant f) → IsConstantTerm (const_meant f)
const_is_constant (t.number n) fits fine = fits
const_is_constant (t.minus zero) fits fine = omega arith
const_is_constant (t.minus (suc n)) fits fine = omega (arith, fits)
const_is_constant (t.string x) fits fine = fine
const_is_constant t.now fits fine = omega arith
const_is_constant (t.rand n) fits fine = omega arith

-- the value of a written term
term_is_constant : (f : TermForm) → TermFits f → FineTerm (term_meant f) → IsConstantTerm (term_meant f)
term_is_constant (t.constant x) fits fine = const_is_constant x fits fine
term_is_constant (t.column x) fits fine = omega arith

-- a single term is a constant; a sum or difference is one where it is not outside 64 bits
abbrev IsConstantExpr : Expr → Type 0
IsConstantExpr (One a) = IsConstantTerm a
IsConstantExpr (Plus a b) = Unit {0}
IsConstantExpr (Minus a b) = Unit {0}

expr_is_constant : (f : ExprForm) → ExprFits f → FineExpr (expr_meant f) → IsConstantExpr (expr_meant f)
expr_is_constant (t.one a) fits fine = term_is_constant a fits fine
expr_is_constant (t.sum a b) fits fine = tt
expr_is_constant (t.difference a b) fits fine = tt

-- ---- statements

-- what holds of the meaning of each item that fits, where the meanings are fine
each_meant : {A B : Type 0} (P : A → Type 0) (Q R : B → Type 0) (f : A → B) → ((x : A) → P x → Q (f x) → R (f x)) → (xs : List A) → EachFits P xs → EachFits Q (map f xs) → All R (map f xs)
each_meant P Q R f k [] h g = All-nil R
each_meant P Q R f k (x ∷ xs) h g = All-cons R (f x) (map f xs) (k x h.0 g.0) (each_meant P Q R f k xs h.1 g.1)

-- the values that a write puts into rows are constants
abbrev PutsConstants : Write → Type 0
PutsConstants (Insert name names tuples) = All (All IsConstantTerm) tuples
PutsConstants (Update name sets condition) = All (λ (s : Set). IsConstantExpr s.value) sets
PutsConstants (Delete name condition) = Unit {0}

of_write : (s : Statement) (w : Write) → StatementFits s → FineRequest (statement_meant s) → request.Write w ≡ statement_meant s → PutsConstants w
of_write (g.insert n names rows) w fits fine e =
    let same : w ≡ Insert n names (map (map const_meant) rows) = cc in
    subst PutsConstants (sym same)
    (each_meant (SomeFit ConstFits COLUMN_LIMIT) (EachFits FineConst) (All IsConstantTerm) (map const_meant) (λ xs h k. each_meant ConstFits FineConst IsConstantTerm const_meant (λ x p q. const_is_constant x p q.1) xs h.2 k) rows fits.1.2 fine.2)
of_write (g.update n sets condition) w fits fine e =
    let same : w ≡ Update n (map set_meant sets) (where_meant condition) = cc in
    subst PutsConstants (sym same)
    (each_meant SetFits FineSet (λ (s : Set). IsConstantExpr s.value) set_meant (λ s h k. expr_is_constant s.value h k.1) sets fits.0.2 fine.1)
of_write (g.delete n condition) w fits fine e =
    let same : w ≡ Delete n (where_meant condition) = cc in
    subst PutsConstants (sym same) tt
of_write _ w fits fine e = absurd (cc)

-- so where the write is written
written_puts : (w : Write) → IsWritten (request.Write w) → PutsConstants w
written_puts w h =
    of_write h.reads.reads.statement w h.reads.reads.fits (subst FineRequest h.reads.reads.meant (request_fine h.text (request.Write w) h.reads)) h.reads.reads.meant

-- ---- rows

-- what a write makes of rows, where it refuses nothing
abbrev MakesConstants : List (List Value) × ℕ → Type 0
MakesConstants p = All AreConstants p.0

-- the value of a term of a tuple; a tuple that is too short has the value 0
place_is_constant : (tuple : List Term) (n : ℕ) → All IsConstantTerm tuple → IsConstantTerm (slice_index_or tuple n Now)
place_is_constant tuple n h = elim (cases_lt n (length tuple)) [
  | inl l ↦ All-get_or IsConstantTerm tuple n Now l h
  | inr l ↦ subst IsConstantTerm (sym (get_or_past tuple n Now l)) (omega arith)
]

row_is_constant : (columns : List Column) (names : Option (List (List ℕ))) (tuple : List Term) → All IsConstantTerm tuple → AreConstants (row_of columns names tuple)
row_is_constant columns None tuple h = All-map IsConstant constant_value tuple h
row_is_constant columns (Some names) tuple h =
    All-map IsConstant (λ (c : Column). constant_value (slice_index_or tuple (unwrap_or (position (bytes_eq c.name) names) 0) Now)) columns
    (λ k d l. place_is_constant tuple _ h)

inserted_constants : (t : Table) (names : Option (List (List ℕ))) (tuples : List (List Term)) → All AreConstants t.rows → All (All IsConstantTerm) tuples → IfOk (inserted t names tuples) MakesConstants
inserted_constants t names tuples rows h =
    let columns = t.schema.columns in
    let key = t.schema.key in
    let new : List (List Value) = map (row_of columns names) tuples in
    let total : ℕ = length t.rows + length new in
    let fresh : All AreConstants new = All-map AreConstants (row_of columns names) tuples (All-weaker (All IsConstantTerm) (λ u. AreConstants (row_of columns names u)) (row_is_constant columns names) tuples h) in
    let put : Changed = Ok (fold (put_by (by_key key)) t.rows new, length new) in
    let within : Changed = refuse_if (nat_lt ROW_LIMIT total) (too_many_rows total) put in
    let single : Changed = refuse_if (list_any (has_key key t.rows) new || has_key_twice key new) (refusal_of_code DUPLICATE) within in
    let even : Changed = refuse_if (list_any (λ u. not (fits_columns columns (row_of columns names u))) tuples) (refusal_of_code WRONG_TYPE) single in
    let whole : Changed = refuse_if (lists_unevenly columns names || list_any (λ (u : List Term). not (length u == length columns)) tuples) (refusal_of_code BAD_COLUMNS) even in
    unless_IfOk MakesConstants (lists_unknown_column columns names) (refusal_of_code NO_COLUMN) whole (λ _.
    unless_IfOk MakesConstants _ (refusal_of_code BAD_COLUMNS) even (λ _.
    unless_IfOk MakesConstants _ (refusal_of_code WRONG_TYPE) single (λ _.
    unless_IfOk MakesConstants _ (refusal_of_code DUPLICATE) within (λ _.
    unless_IfOk MakesConstants _ (too_many_rows total) put (λ _.
    all_put_each (by_key key) AreConstants t.rows new rows fresh)))))

-- ---- UPDATE

operand_is_constant : (scope : Scope) (row : List Value) (a : Term) → AreConstants row → IsConstantTerm a → IsConstant (operand_value row (operand_of scope a))
operand_is_constant scope row (Lit v) h k = k
operand_is_constant scope row (Col r) h k = cell_is_constant row (column_place scope r) h
operand_is_constant scope row Now h k = k
operand_is_constant scope row (Rand n) h k = k

worth_is_constant : (scope : Scope) (row : List Value) (e : Expr) → AreConstants row → IsConstantExpr e → is_out_of_range (value_of row (formula_of scope e)) ≡ false → IsConstant (value_of row (formula_of scope e))
worth_is_constant scope row (One a) h k within = operand_is_constant scope row a h k
worth_is_constant scope row (Plus a b) h k within = within_is_constant _ within
worth_is_constant scope row (Minus a b) h k within = within_is_constant _ within

-- new values that are not outside 64 bits
assigned_constants : (scope : Scope) (sets : List Set) (row new : List Value) → AreConstants row → All (λ (s : Set). IsConstantExpr s.value) sets → overflows (map (assignment_of scope) sets) row ≡ false → AreConstants new
    → AreConstants (fold (λ new (a : Assignment). slice_set new a.place (value_of row a.value)) new (map (assignment_of scope) sets))
assigned_constants scope [] row new h k within n = n
assigned_constants scope (s ∷ sets) row new h k within n =
    let parts = or_parts (is_out_of_range (value_of row (formula_of scope s.value))) (overflows (map (assignment_of scope) sets) row) within in
    let first : IsConstantExpr s.value = All-head (λ (s : Set). IsConstantExpr s.value) s sets k in
    assigned_constants scope sets row (slice_set new (column_place scope (column_set s)) (value_of row (formula_of scope s.value))) h (All-tail (λ (s : Set). IsConstantExpr s.value) s sets k) parts.1
    (All-set IsConstant new (column_place scope (column_set s)) (value_of row (formula_of scope s.value)) (worth_is_constant scope row s.value h first parts.0) n)

-- the rows that meet the condition with their new values, where none of these is outside 64 bits
rows_assigned : (scope : Scope) (sets : List Set) (condition : Option Predicate) (rows : List (List Value)) → All (λ (s : Set). IsConstantExpr s.value) sets → All AreConstants rows
    → list_any (λ r. satisfies condition r && overflows (map (assignment_of scope) sets) r) rows ≡ false
    → All AreConstants (map (λ r. cond (satisfies condition r) (assigned (map (assignment_of scope) sets) r) r) rows)
rows_assigned scope sets condition [] k h within = All-nil AreConstants
rows_assigned scope sets condition (r ∷ rows) k h within =
    let assignments : List Assignment = map (assignment_of scope) sets in
    let parts = or_parts (satisfies condition r && overflows assignments r) (list_any (λ r. satisfies condition r && overflows assignments r) rows) within in
    let first : AreConstants r = All-head AreConstants r rows h in
    All-cons AreConstants (cond (satisfies condition r) (assigned assignments r) r) (map (λ r. cond (satisfies condition r) (assigned assignments r) r) rows)
    (cond_both (satisfies condition r) (assigned assignments r) r AreConstants (λ e. assigned_constants scope sets r r first k (subst (λ b. (b && overflows assignments r) ≡ false) e parts.0) first) (λ _. first))
    (rows_assigned scope sets condition rows k (All-tail AreConstants r rows h) parts.1)

updated_constants : (t : Table) (sets : List Set) (condition : Option Condition) → All AreConstants t.rows → All (λ (s : Set). IsConstantExpr s.value) sets → IfOk (updated t sets condition) MakesConstants
updated_constants t sets condition rows h =
    let scope = scope_of (t.schema ∷ []) in
    let assignments : List Assignment = map (assignment_of scope) sets in
    let found : Option Predicate = option_map (predicate_of scope) condition in
    let new : Changed = with_new_values t.rows assignments found in
    let even : Changed = refuse_if (list_any (set_mixes_kinds scope) sets || where_mixes_kinds scope condition) (refusal_of_code WRONG_TYPE) new in
    let unkeyed : Changed = refuse_if (sets_twice sets || list_any (sets_key scope t.schema.key) sets) (refusal_of_code BAD_COLUMNS) even in
    unless_IfOk MakesConstants _ (refusal_of_code NO_COLUMN) unkeyed (λ _.
    unless_IfOk MakesConstants _ (refusal_of_code BAD_COLUMNS) even (λ _.
    unless_IfOk MakesConstants _ (refusal_of_code WRONG_TYPE) new (λ _.
    unless_IfOk MakesConstants (list_any (λ r. satisfies found r && overflows assignments r) t.rows) (refusal_of_code OVERFLOW) (Ok (map (λ r. cond (satisfies found r) (assigned assignments r) r) t.rows, count_by (satisfies found) t.rows))
    (λ within. rows_assigned scope sets found t.rows h rows within))))

-- ---- any write to a table

deleted_constants : (t : Table) (condition : Option Condition) → All AreConstants t.rows → IfOk (deleted t condition) MakesConstants
deleted_constants t condition rows =
    let scope = scope_of (t.schema ∷ []) in
    let found : Option Predicate = option_map (predicate_of scope) condition in
    let rest : Changed = without_rows t.rows found in
    unless_IfOk MakesConstants _ (refusal_of_code NO_COLUMN) (refuse_if (where_mixes_kinds scope condition) (refusal_of_code WRONG_TYPE) rest) (λ _.
    unless_IfOk MakesConstants _ (refusal_of_code WRONG_TYPE) rest (λ _.
    All-filter (λ r. not (satisfies found r)) AreConstants t.rows rows))

change_constants : (t : Table) (w : Write) → All AreConstants t.rows → PutsConstants w → IfOk (change t w) MakesConstants
change_constants t (Insert name names tuples) rows h = inserted_constants t names tuples rows h
change_constants t (Update name sets condition) rows h = updated_constants t sets condition rows h
change_constants t (Delete name condition) rows h = deleted_constants t condition rows

-- ---- databases

-- nothing is stored
pub empty_storable : IsStorable []
empty_storable = record { database = record { slots = All-nil IsSlot; rises = tt }; slots = All-nil IsStorableSlot }

-- a draft that can be stored, if there is one
abbrev IfDraft : Option Draft → Type 0
IfDraft draft = IfSome draft (λ (d : Draft). IsStorableTable d.table)

-- what a transaction sees can be stored
seen_behind_storable : (base : Table) (tx : ℕ) (draft : Option Draft) → IsStorableTable base → IfDraft draft → IsStorableTable (seen_behind base tx draft)
seen_behind_storable base tx None is h = is
seen_behind_storable base tx (Some d) is h = cond_both (eqb d.tx tx) d.table base IsStorableTable (λ _. h) (λ _. is)

-- a slot with another table that can be stored
with_table_storable : (s : Slot) (tx : ℕ) (t : Table) → IsStorableSlot s → IsStorableTable t → IsStorableSlot (with_table s tx t)
with_table_storable s tx t is table = cond_both (eqb tx 0) (record { base = t; draft = s.draft }) (record { base = s.base; draft = Some (record { tx = tx; table = t }) }) IsStorableSlot
    (λ _. record { base = table; draft = is.draft })
    (λ _. record { base = is.base; draft = table })

write_done_storable : (db : List Slot) (s : Slot) (tx : ℕ) (c : Changed) → All IsStorableSlot db → IsStorableSlot s → IfOk c MakesConstants → All IsStorableSlot (write_done db s tx c).db
write_done_storable db s tx (Ok p) is slot h =
    let table : Table = record { schema = s.base.schema; rows = p.0 } in
    all_put by_table IsStorableSlot db (with_table s tx table) is (with_table_storable s tx table slot (record { table = slot.base.table; columns = slot.base.columns; values = h }))
write_done_storable db s tx (Err r) is slot h = is

write_unless_locked_storable : (db : List Slot) (s : Slot) (tx : ℕ) (w : Write) (o : Option ℕ) → All IsStorableSlot db → IsStorableSlot s → PutsConstants w → All IsStorableSlot (write_unless_locked db s tx w o).db
write_unless_locked_storable db s tx w None is slot h =
    let before : IsStorableTable (seen s tx) = seen_behind_storable s.base tx s.draft slot.base slot.draft in
    write_done_storable db s tx (change (seen s tx) w) is slot (change_constants (seen s tx) w before.values h)
write_unless_locked_storable db s tx w (Some other) is slot h = is

write_in_storable : (db : List Slot) (tx : ℕ) (w : Write) (found : Option Slot) → All IsStorableSlot db → IfSome found IsStorableSlot → PutsConstants w → All IsStorableSlot (write_in db tx w found).db
write_in_storable db tx w None is slot h = is
write_in_storable db tx w (Some s) is slot h = write_unless_locked_storable db s tx w (other_writer tx s.draft) is slot h

-- a write that some text reads as
pub written_storable : (db : List Slot) (tx : ℕ) (w : Write) → IsStorable db → IsWritten (request.Write w) → IsStorable (written db tx w).db
written_storable db tx w is h = record {
  database = written_keeps db tx w is.database;
  slots = write_in_storable db tx w (slot_of db (table_written w)) is.slots (found_All IsStorableSlot (λ s. bytes_eq (table_of s) (table_written w)) db is.slots) (written_puts w h);
}

-- ---- CREATE and DROP

-- each column of a CREATE has a free name
columns_free : (cs : List ColDef) → EachFits FineColDef cs → All (λ (c : Column). IsFreeName c.name) (map (λ (d : ColDef). record { name = d.name; kind = d.kind }) cs)
columns_free [] h = All-nil (λ (c : Column). IsFreeName c.name)
columns_free (d ∷ cs) h = All-cons (λ (c : Column). IsFreeName c.name) _ _ (fine_is_free d.name h.0) (columns_free cs h.1)

empty_slot_storable : (c : Create) → IsWritten (request.Create c) → IsStorableSlot (empty_slot c)
empty_slot_storable c h =
    let fine = request_fine h.text (request.Create c) h.reads in
    record {
      base = record { table = fine_is_free c.table fine.0; columns = columns_free c.columns fine.1; values = All-nil AreConstants };
      draft = tt;
    }

-- a CREATE that some text reads as
pub created_storable : (db : List Slot) (c : Create) → IsStorable db → IsWritten (request.Create c) → IsStorable (created db c).db
created_storable db c is h = record {
  database = created_keeps db c (read_columns h.text c h.reads) is.database;
  slots =
      cond_both (is_some (slot_of db c.table)) _ _ (λ (s : Stepped). All IsStorableSlot s.db)
      (λ _. is.slots)
      (λ _. cond_both (make_schema c.columns) _ _ (λ (s : Stepped). All IsStorableSlot s.db)
      (λ _. all_put by_table IsStorableSlot db (empty_slot c) is.slots (empty_slot_storable c h))
      (λ _. is.slots));
}

drop_unless_locked_storable : (db : List Slot) (name : List ℕ) (draft : Option Draft) → All IsStorableSlot db → All IsStorableSlot (drop_unless_locked db name draft).db
drop_unless_locked_storable db name None is = All-filter (λ s. not (bytes_eq (table_of s) name)) IsStorableSlot db is
drop_unless_locked_storable db name (Some d) is = is

drop_in_storable : (db : List Slot) (name : List ℕ) (found : Option Slot) → All IsStorableSlot db → All IsStorableSlot (drop_in db name found).db
drop_in_storable db name None is = is
drop_in_storable db name (Some s) is = drop_unless_locked_storable db name s.draft is

pub dropped_storable : (db : List Slot) (name : List ℕ) → IsStorable db → IsStorable (dropped db name).db
dropped_storable db name is = record {
  database = dropped_keeps db name is.database;
  slots = drop_in_storable db name (slot_of db name) is.slots;
}

-- ---- the end of a transaction

commit_behind_storable : (base : Table) (tx : ℕ) (draft : Option Draft) → IsStorableTable base → IfDraft draft → IsStorableSlot (commit_behind base tx draft)
commit_behind_storable base tx None is h = record { base = is; draft = tt }
commit_behind_storable base tx (Some d) is h = cond_both (eqb d.tx tx) (record { base = d.table; draft = None }) (record { base = base; draft = Some d }) IsStorableSlot
    (λ _. record { base = h; draft = tt })
    (λ _. record { base = is; draft = h })

abort_behind_storable : (base : Table) (tx : ℕ) (draft : Option Draft) → IsStorableTable base → IfDraft draft → IsStorableSlot (abort_behind base tx draft)
abort_behind_storable base tx None is h = record { base = is; draft = tt }
abort_behind_storable base tx (Some d) is h = cond_both (eqb d.tx tx) (record { base = base; draft = None }) (record { base = base; draft = Some d }) IsStorableSlot
    (λ _. record { base = is; draft = tt })
    (λ _. record { base = is; draft = h })

-- slots that stay storable
each_storable : (f : Slot → Slot) → ((s : Slot) → IsStorableSlot s → IsStorableSlot (f s)) → (db : List Slot) → All IsStorableSlot db → All IsStorableSlot (map f db)
each_storable f keeps db is = All-map IsStorableSlot f db (All-weaker IsStorableSlot (λ s. IsStorableSlot (f s)) keeps db is)

pub committed_storable : (tx : ℕ) (db : List Slot) → IsStorable db → IsStorable (map (committed tx) db)
committed_storable tx db is = record {
  database = committed_keeps tx db is.database;
  slots = each_storable (committed tx) (λ s p. commit_behind_storable s.base tx s.draft p.base p.draft) db is.slots;
}

pub aborted_storable : (tx : ℕ) (db : List Slot) → IsStorable db → IsStorable (map (aborted tx) db)
aborted_storable tx db is = record {
  database = aborted_keeps tx db is.database;
  slots = each_storable (aborted tx) (λ s p. abort_behind_storable s.base tx s.draft p.base p.draft) db is.slots;
}

-- ---- any act

pub acted_storable : (db : List Slot) (tx : ℕ) (a : Act) → IsStorable db → IsWritten (request_of a) → IsStorable (acted db tx a).db
acted_storable db tx act.Begin is h = is
acted_storable db tx (act.Write w) is h = written_storable db tx w is h
acted_storable db tx (act.Create c) is h = created_storable db c is h
acted_storable db tx (act.Drop name) is h = dropped_storable db name is
acted_storable db tx act.Commit is h = committed_storable tx db is
acted_storable db tx act.Abort is h = aborted_storable tx db is
