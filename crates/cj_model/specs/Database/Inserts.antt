-- What an INSERT makes of a table, or the first refusal.
use Rattle.std.specs.Prelude.{ℕ, ◌+◌, Bool, true, false, not, ◌&&◌, ◌||◌, ◌==◌, nat_lt, List, [], ◌∷◌, length, map, fold, position, unwrap_or, slice_index_or, pos}
use Rattle.std.specs.declared.option.Option.{Option}
use Rattle.std.specs.declared.option.Option.TheVariants.{None, Some}
use Rattle.std.specs.declared.result.Result.{Result}
use Rattle.std.specs.declared.result.Result.TheVariants.{Ok, Err}
use Rattle.std.specs.List.{list_any}
use Rattle.std.specs.Str.{bytes_eq}
use Rattle.std.specs.Ordering.{is_eq}
use Rattle.cj_model.specs.declared.value.Value.{Value}
use Rattle.cj_model.specs.declared.value.Value.TheVariants.{Int}
use Rattle.cj_model.specs.declared.term.Term.{Term}
use Rattle.cj_model.specs.declared.term.Term.TheVariants.{Lit, Col, Now, Rand}
use Rattle.cj_model.specs.declared.schema.Column.{Column}
use Rattle.cj_model.specs.declared.database.Table.{Table}
use Rattle.cj_model.specs.declared.answer.Refusal.{Refusal}
use Rattle.cj_model.specs.declared.codes.TheConstants.{NO_COLUMN, BAD_COLUMNS, DUPLICATE, WRONG_TYPE, ROWS_FULL}
use Rattle.cj_model.specs.declared.limits.TheConstants.{ROW_LIMIT}
use Rattle.cj_model.specs.Database.Tables.{by_key, put_by, is_distinct, column_names, fits_columns}

-- the refusal with this code, and with 0 for both of its numbers
abbrev pub refusal_of_code : ℕ → Refusal
refusal_of_code code = record { code = code; a = 0; b = 0 }

-- the refusal if the test is true, else what follows; nested, they give the order in which refusals come
abbrev pub refuse_if : {A : Type 0} → Bool → Refusal → Result A Refusal → Result A Refusal
refuse_if true refusal otherwise = Err refusal
refuse_if false refusal otherwise = otherwise

-- the rows after a change and the count that it answers, or its refusal
abbrev pub Changed : Type 0
Changed = Result (List (List Value) × ℕ) Refusal

-- ---- INSERT

-- the value of a constant; a plain statement's constants are literals
abbrev pub constant_value : Term → Value
constant_value (Lit v) = v
constant_value (Col c) = Int (pos 0)
constant_value Now = Int (pos 0)
constant_value (Rand n) = Int (pos 0)

-- the values of a tuple in the order of the columns
abbrev pub row_of : List Column → Option (List (List ℕ)) → List Term → List Value
row_of columns None tuple = map constant_value tuple
row_of columns (Some names) tuple = map (λ (c : Column). constant_value (slice_index_or tuple (unwrap_or (position (bytes_eq c.name) names) 0) Now)) columns

-- whether the INSERT lists a name that is no column of the table
abbrev pub lists_unknown_column : List Column → Option (List (List ℕ)) → Bool
lists_unknown_column columns None = false
lists_unknown_column columns (Some names) = list_any (λ n. not (list_any (bytes_eq n) (column_names columns))) names

-- whether the INSERT has a list that isn't each column of the table once
abbrev pub lists_unevenly : List Column → Option (List (List ℕ)) → Bool
lists_unevenly columns None = false
lists_unevenly columns (Some names) = not (is_distinct names && length names == length columns)

-- whether one of the rows has this row's key
abbrev pub has_key : ℕ → List (List Value) → List Value → Bool
has_key k rows r = list_any (λ x. is_eq (by_key k r x)) rows

-- whether two of the rows have one key
abbrev pub has_key_twice : ℕ → List (List Value) → Bool
has_key_twice k [] = false
has_key_twice k (r ∷ rs) = has_key k rs r || has_key_twice k rs

abbrev pub too_many_rows : ℕ → Refusal
too_many_rows n = record { code = ROWS_FULL; a = n; b = 0 }

-- the rows with the new ones inserted in order of the key, or the refusal of a double key or of too many rows
abbrev pub with_rows : ℕ → List (List Value) → List (List Value) → Changed
with_rows k rows new =
    refuse_if (list_any (has_key k rows) new || has_key_twice k new) (refusal_of_code DUPLICATE)
    (refuse_if (nat_lt ROW_LIMIT (length rows + length new)) (too_many_rows (length rows + length new))
    (Ok (fold (put_by (by_key k)) rows new, length new)))

abbrev pub inserted : Table → Option (List (List ℕ)) → List (List Term) → Changed
inserted t names tuples =
    let columns = t.schema.columns in
    refuse_if (lists_unknown_column columns names) (refusal_of_code NO_COLUMN)
    (refuse_if (lists_unevenly columns names || list_any (λ (u : List Term). not (length u == length columns)) tuples) (refusal_of_code BAD_COLUMNS)
    (refuse_if (list_any (λ u. not (fits_columns columns (row_of columns names u))) tuples) (refusal_of_code WRONG_TYPE)
    (with_rows t.schema.key t.rows (map (row_of columns names) tuples))))
