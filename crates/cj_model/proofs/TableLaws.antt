-- A write leaves a table a table.
use Rattle.std.proofs.Common.{◌≡◌, ℕ, ◌+◌, Bool, true, false, not, ◌||◌, nat_lt, ◌==◌, suc, List, [], ◌∷◌, length, map, refl, ap, arith}
use Rattle.std.specs.Prelude.{All, IfOk, fold}
use Rattle.std.specs.declared.option.Option.{Option}
use Rattle.std.specs.declared.result.Result.{Result}
use Rattle.std.specs.declared.result.Result.TheVariants.{Ok}
use Rattle.std.proofs.lemmas.Bool.{ltb-false, or_parts, not-false, and_parts}
use Rattle.std.proofs.lemmas.Cmp.{on_total}
use Rattle.cj_model.proofs.Common.{All-cons, All-nil, All-weaker, BAD_COLUMNS, Column, DUPLICATE, IsTotalOrder, NO_COLUMN, ROW_LIMIT, Refusal, Schema, Table, Term, Value, WRONG_TYPE, length-map, list_any}
use Rattle.cj_model.specs.Database.Values.{kind_of, value_total}
use Rattle.cj_model.specs.Database.Tables.{IsTable, cell, by_key, put_by, fits_columns, column_names, same_kind}
use Rattle.cj_model.specs.Database.Inserts.{Changed, refusal_of_code, refuse_if, row_of, lists_unknown_column, lists_unevenly, has_key, has_key_twice, too_many_rows, with_rows, inserted}
use Rattle.cj_model.specs.Wire.Replies.{IsEven}
use Rattle.cj_model.proofs.RisingLaws.{all_put_each, length-put_each, rises_put_each}

-- rows have a total order by their keys
pub by_key_total : (k : ℕ) → IsTotalOrder (by_key k)
by_key_total k = on_total (λ r. cell r k) value_total

-- what holds where there is no refusal
pub unless_IfOk : {A : Type 0} (P : A → Type 0) (b : Bool) (r : Refusal) (otherwise : Result A Refusal) → (b ≡ false → IfOk otherwise P) → IfOk (refuse_if b r otherwise) P
unless_IfOk P true r otherwise h = tt
unless_IfOk P false r otherwise h = h refl

-- the table with these rows
abbrev pub IsTableWith : Schema → List (List Value) × ℕ → Type 0
IsTableWith schema p = IsTable (record { schema = schema; rows = p.0 })

abbrev Fits : List Column → List Value → Type 0
Fits columns row = fits_columns columns row ≡ true

-- the rows put in their places, where none has a key that is there and there is room
rows_put : (t : Table) (new : List (List Value)) → IsTable t → All (Fits t.schema.columns) new → nat_lt ROW_LIMIT (length t.rows + length new) ≡ false → IsTableWith t.schema (fold (put_by (by_key t.schema.key)) t.rows new, length new)
rows_put t new is fits room = record {
  few = is.few;
  distinct = is.distinct;
  key = is.key;
  kinds = all_put_each (by_key t.schema.key) (Fits t.schema.columns) t.rows new is.kinds fits;
  rises = rises_put_each (by_key t.schema.key) (by_key_total t.schema.key) t.rows new is.rises;
  room = omega (arith, length-put_each (by_key t.schema.key) t.rows new, ltb-false ROW_LIMIT (length t.rows + length new) room);
}

-- new rows that fit the columns
pub with_rows_keeps : (t : Table) (new : List (List Value)) → IsTable t → All (Fits t.schema.columns) new → IfOk (with_rows t.schema.key t.rows new) (IsTableWith t.schema)
with_rows_keeps t new is fits =
    let total : ℕ = length t.rows + length new in
    let put : Changed = Ok (fold (put_by (by_key t.schema.key)) t.rows new, length new) in
    unless_IfOk (IsTableWith t.schema) (list_any (has_key t.schema.key t.rows) new || has_key_twice t.schema.key new) (refusal_of_code DUPLICATE) (refuse_if (nat_lt ROW_LIMIT total) (too_many_rows total) put) (λ fresh.
    unless_IfOk (IsTableWith t.schema) (nat_lt ROW_LIMIT total) (too_many_rows total) put (λ room. rows_put t new is fits room))

-- where no item fails the test, all that is made of the items passes it
all_from_none_fails : {A B : Type 0} (p : B → Bool) (f : A → B) (xs : List A) → list_any (λ x. not (p (f x))) xs ≡ false → All (λ y. p y ≡ true) (map f xs)
all_from_none_fails p f [] h = All-nil (λ y. p y ≡ true)
all_from_none_fails p f (x ∷ xs) h =
    let parts = or_parts (not (p (f x))) (list_any (λ x. not (p (f x))) xs) h in
    All-cons (λ y. p y ≡ true) (f x) (map f xs) (not-false (p (f x)) parts.0) (all_from_none_fails p f xs parts.1)

pub inserted_keeps : (t : Table) (names : Option (List (List ℕ))) (tuples : List (List Term)) → IsTable t → IfOk (inserted t names tuples) (IsTableWith t.schema)
inserted_keeps t names tuples is =
    let columns = t.schema.columns in
    let even : Bool = lists_unevenly columns names || list_any (λ (u : List Term). not (length u == length columns)) tuples in
    let misfit : Bool = list_any (λ u. not (fits_columns columns (row_of columns names u))) tuples in
    let put : Changed = with_rows t.schema.key t.rows (map (row_of columns names) tuples) in
    unless_IfOk (IsTableWith t.schema) (lists_unknown_column columns names) (refusal_of_code NO_COLUMN) (refuse_if even (refusal_of_code BAD_COLUMNS) (refuse_if misfit (refusal_of_code WRONG_TYPE) put)) (λ known.
    unless_IfOk (IsTableWith t.schema) even (refusal_of_code BAD_COLUMNS) (refuse_if misfit (refusal_of_code WRONG_TYPE) put) (λ whole.
    unless_IfOk (IsTableWith t.schema) misfit (refusal_of_code WRONG_TYPE) put (λ fits.
    with_rows_keeps t (map (row_of columns names) tuples) is (all_from_none_fails (fits_columns columns) (row_of columns names) tuples fits))))

-- ---- rows as answers

-- a row that fits the columns has a value for each
length-fits : (columns : List Column) (row : List Value) → fits_columns columns row ≡ true → length row ≡ length (column_names columns)
length-fits [] [] h = refl
length-fits [] (v ∷ vs) h = cc h
length-fits (c ∷ cs) [] h = cc h
length-fits (c ∷ cs) (v ∷ vs) h = ap (λ n. suc n) (length-fits cs vs (and_parts (same_kind c.kind (kind_of v)) (fits_columns cs vs) h).1)

-- the columns and rows of a table are an answer
pub table_is_even : (t : Table) → IsTable t → IsEven (record { columns = column_names t.schema.columns; rows = t.rows })
table_is_even t is =
    let width : length (column_names t.schema.columns) ≡ length t.schema.columns = length-map t.schema.columns (λ (c : Column). c.name) in
    record {
      some = omega (arith, width, is.key);
      most = omega (arith, width, is.few);
      each = All-weaker (Fits t.schema.columns) (λ row. length row ≡ length (column_names t.schema.columns)) (λ row h. length-fits t.schema.columns row h) t.rows is.kinds;
    }
