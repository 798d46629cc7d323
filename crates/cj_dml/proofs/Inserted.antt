-- Tests over lists, and an INSERT past its refusals by the list of columns.
use Rattle.std.proofs.Common.{◌≡◌, ℕ, Bool, false, not, ◌||◌, ◌==◌, List, [], ◌∷◌, length, map, refl, ap}
use Rattle.cj_dml.proofs.Common.{list_any, Option, Table, Term, with_fitting_rows, WRONG_TYPE}
use Rattle.cj_model.specs.Database.Tables.{fits_columns}
use Rattle.cj_model.specs.Database.Inserts.{refusal_of_code, refuse_if, row_of, lists_unknown_column, lists_unevenly, with_rows, inserted}

-- a test of what items are made into
pub list_any-map : {A B : Type 0} (p : B → Bool) (f : A → B) (xs : List A) → list_any p (map f xs) ≡ list_any (λ x. p (f x)) xs
list_any-map p f [] = refl
list_any-map p f (x ∷ xs) = ap (λ b. p (f x) || b) (list_any-map p f xs)

-- what is inserted where the list of columns and the widths are right
pub inserted_rows : (t : Table) (names : Option (List (List ℕ))) (tuples : List (List Term)) → lists_unknown_column t.schema.columns names ≡ false → lists_unevenly t.schema.columns names ≡ false → list_any (λ (u : List Term). not (length u == length t.schema.columns)) tuples ≡ false → with_fitting_rows t (map (row_of t.schema.columns names) tuples) ≡ inserted t names tuples
inserted_rows t names tuples known listed wide =
    rw (known, listed, wide)
    (ap (λ b. refuse_if b (refusal_of_code WRONG_TYPE) (with_rows t.schema.key t.rows (map (row_of t.schema.columns names) tuples)))
    (list_any-map (λ r. not (fits_columns t.schema.columns r)) (row_of t.schema.columns names) tuples))
