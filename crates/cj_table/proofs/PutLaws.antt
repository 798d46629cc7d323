-- Rows that come in any order make a table.
use Rattle.std.proofs.Common.{◌≡◌, ℕ, Bool, true, false, not, ◌&&◌, nat_lt, List, [], ◌∷◌, length, refl, ap, sym, ◌∙◌, subst, arith}
use Rattle.cj_model.proofs.Common.{All-cons, All-nil, list_any}
use Rattle.cj_rowstore.proofs.Common.{IsChangeOf, rows_after, values_of}
use Rattle.std.proofs.lemmas.Bool.{and_from, and_parts, or_parts, not-false, not-true, not_from_false, ltb-true, ltb-false, cond-true, cond_both}
use Rattle.cj_table.proofs.Common.{All, by_table, change_into, Err, fold, IsDatabase, IsSlot, NoMemory, None, Ok, put_by, Result, Schema, Slot, Some, Value}
use Rattle.cj_model.specs.declared.schema.Column.{Column}
use Rattle.cj_model.specs.declared.limits.TheConstants.{COLUMN_LIMIT, ROW_LIMIT}
use Rattle.cj_dml.proofs.Common.{RowEntries, has_key, has_key_twice, puts}
use Rattle.cj_model.specs.Database.Tables.{by_key, column_names, fits_columns, is_distinct}
use Rattle.cj_model.proofs.RisingLaws.{all_put, all_put_each, length-put_each, rises_put, rises_put_each}
use Rattle.cj_model.proofs.TableLaws.{by_key_total}
use Rattle.cj_model.proofs.DatabaseLaws.{by_table_total}
use Rattle.cj_dml.proofs.PlanLaws.{length_put}
use Rattle.cj_rowstore.proofs.ConversionLaws.{puts_rise}
use Rattle.cj_rowstore.proofs.RowLaws.{merged_puts, values_keyed}
use Rattle.cj_table.specs.Put.{is_schema, may_be_table, makes_table, slot_made, slot_with, PutsTable}

none_known : (k : ℕ) (rows : List (List Value)) → list_any (has_key k []) rows ≡ false
none_known k [] = refl
none_known k (r ∷ rows) = none_known k rows

-- the changes that put the rows, over none
module _ (s : Schema) (rows : List (List Value)) (cs : RowEntries) (once : (has_key_twice s.key rows ≡ false) × (cs ≡ puts s.key rows)) where
  pub putting : (n : ℕ) → n ≡ length rows → IsChangeOf s.key [] cs n
  putting n count =
      subst (λ (es : RowEntries). IsChangeOf s.key [] es n) (sym once.1)
      (change_into s.key [] (fold (put_by (by_key s.key)) [] rows) (puts s.key rows) n (puts_rise s.key rows) (merged_puts s.key [] rows tt)
      (omega (arith, count, length_put s.key [] rows (none_known s.key rows) once.0)))

  pub slot_put : may_be_table s rows ≡ true → Some (record { base = record { schema = s; rows = rows_after s.key [] cs }; draft = None }) ≡ slot_made s rows
  slot_put may =
      ap (λ (l : List (List Value)). Some (record { base = record { schema = s; rows = l }; draft = None }))
      (ap (rows_after s.key []) once.1 ∙ ap values_of (merged_puts s.key [] rows tt) ∙ values_keyed s.key (fold (put_by (by_key s.key)) [] rows))
      ∙ sym (cond-true _ _ _ (and_from _ _ may (not_from_false _ once.0)))

abbrev Fits : List Column → List Value → Type 0
Fits columns row = fits_columns columns row ≡ true

fitting : (columns : List Column) (rows : List (List Value)) → list_any (λ r. not (fits_columns columns r)) rows ≡ false → All (Fits columns) rows
fitting columns [] h = All-nil (Fits columns)
fitting columns (r ∷ rows) h =
    let parts = or_parts (not (fits_columns columns r)) (list_any (λ r. not (fits_columns columns r)) rows) h in
    All-cons (Fits columns) r rows (not-false _ parts.0) (fitting columns rows parts.1)

slot_with_is_slot : (s : Schema) (rows : List (List Value)) → makes_table s rows ≡ true → IsSlot (slot_with s rows)
slot_with_is_slot s rows made =
    let may = (and_parts (may_be_table s rows) (not (has_key_twice s.key rows)) made).0 in
    let room = and_parts (is_schema s && not (nat_lt ROW_LIMIT (length rows))) _ may in
    let schema = and_parts (is_schema s) _ room.0 in
    let named = and_parts (not (nat_lt COLUMN_LIMIT (length s.columns)) && nat_lt s.key (length s.columns)) (is_distinct (column_names s.columns)) schema.0 in
    let few = and_parts (not (nat_lt COLUMN_LIMIT (length s.columns))) (nat_lt s.key (length s.columns)) named.0 in
    record {
      base = record {
        few = ltb-false _ _ (not-true _ few.0);
        distinct = named.1;
        key = ltb-true _ _ few.1;
        kinds = all_put_each (by_key s.key) (Fits s.columns) [] rows (All-nil (Fits s.columns)) (fitting s.columns rows (not-true _ room.1));
        rises = rises_put_each (by_key s.key) (by_key_total s.key) [] rows tt;
        room = omega (arith, length-put_each (by_key s.key) [] rows, ltb-false ROW_LIMIT (length rows) (not-true _ schema.1));
      };
      draft = tt;
    }

pub put_is_database : (old : List Slot) (s : Schema) (rows : List (List Value)) (r : Result Bool NoMemory) (new : List Slot) → IsDatabase old → PutsTable old s rows r new → IsDatabase new
put_is_database old s rows (Ok b) new is h = subst IsDatabase (sym h.1)
    (cond_both (makes_table s rows) (put_by by_table old (slot_with s rows)) old IsDatabase
    (λ made. record {
      slots = all_put by_table IsSlot old (slot_with s rows) is.slots (slot_with_is_slot s rows made);
      rises = rises_put by_table by_table_total old (slot_with s rows) is.rises;
    })
    (λ _. is))
put_is_database old s rows (Err e) new is h = subst IsDatabase (sym h) is
