-- Which refusals a change and a query may come to.
use Rattle.std.proofs.Common.{◌≡◌, ◌⊎◌, inl, inr, ℕ, ◌+◌, ◌≤◌, Bool, true, false, List, length, refl, arith}
use Rattle.std.specs.Prelude.{IfErr}
use Rattle.std.specs.declared.option.Option.{Option}
use Rattle.std.specs.declared.result.Result.{Result}
use Rattle.std.specs.declared.result.Result.TheVariants.{Ok, Err}
use Rattle.cj_model.proofs.Common.{Answer, Delete, Insert, Refusal, Select, Slot, Table, Term, Update, Value, Write, answer_over, ask, asked_by, change, tables_seen}
use Rattle.cj_model.specs.declared.answer.Asked.{Asked}
use Rattle.cj_model.specs.declared.answer.Asked.TheVariants as asked
use Rattle.cj_model.specs.declared.codes.TheConstants.{NO_TABLE, NO_COLUMN, BAD_COLUMNS, OVERFLOW, DUPLICATE, WRONG_TYPE, ROWS_FULL}
use Rattle.cj_model.specs.Database.Inserts.{refusal_of_code, refuse_if, too_many_rows, with_rows, inserted}

-- where there is a refusal, P holds of it
record Refuses {A : Type 0} (P : Refusal → Type 0) (r : Result A Refusal) : Type 0 where
  holds : IfErr r P

accepts : {A : Type 0} (P : Refusal → Type 0) (x : A) → Refuses P (Ok x)
accepts P x = record { holds = tt }

-- one refusal more
coded : {A : Type 0} (P : Refusal → Type 0) (b : Bool) (r : Refusal) (otherwise : Result A Refusal) → P r → Refuses P otherwise → Refuses P (refuse_if b r otherwise)
coded P true r otherwise p h = record { holds = p }
coded P false r otherwise p h = h

-- ---- changes

abbrev pub IsChangeRefusal : Refusal → Type 0
IsChangeRefusal r = (NO_TABLE ≤ r.code) × (r.code ≤ ROWS_FULL)

among : (code : ℕ) → NO_TABLE ≤ code → code ≤ ROWS_FULL → IsChangeRefusal (refusal_of_code code)
among code low high = (low, high)

with_rows_coded : (k : ℕ) (rows new : List (List Value)) → Refuses IsChangeRefusal (with_rows k rows new)
with_rows_coded k rows new = coded IsChangeRefusal _ (refusal_of_code DUPLICATE) _ (among DUPLICATE (omega arith) (omega arith)) (coded IsChangeRefusal _ (too_many_rows (length rows + length new)) _ (omega arith, omega arith) (accepts IsChangeRefusal _))

inserted_coded : (t : Table) (names : Option (List (List ℕ))) (tuples : List (List Term)) → Refuses IsChangeRefusal (inserted t names tuples)
inserted_coded t names tuples =
    coded IsChangeRefusal _ (refusal_of_code NO_COLUMN) _ (among NO_COLUMN (omega arith) (omega arith))
    (coded IsChangeRefusal _ (refusal_of_code BAD_COLUMNS) _ (among BAD_COLUMNS (omega arith) (omega arith))
    (coded IsChangeRefusal _ (refusal_of_code WRONG_TYPE) _ (among WRONG_TYPE (omega arith) (omega arith))
    (with_rows_coded t.schema.key t.rows _)))

change_coded : (t : Table) (w : Write) → Refuses IsChangeRefusal (change t w)
change_coded t (Insert name names tuples) = inserted_coded t names tuples
change_coded t (Update name sets condition) =
    coded IsChangeRefusal _ (refusal_of_code NO_COLUMN) _ (among NO_COLUMN (omega arith) (omega arith))
    (coded IsChangeRefusal _ (refusal_of_code BAD_COLUMNS) _ (among BAD_COLUMNS (omega arith) (omega arith))
    (coded IsChangeRefusal _ (refusal_of_code WRONG_TYPE) _ (among WRONG_TYPE (omega arith) (omega arith))
    (coded IsChangeRefusal _ (refusal_of_code OVERFLOW) _ (among OVERFLOW (omega arith) (omega arith)) (accepts IsChangeRefusal _))))
change_coded t (Delete name condition) =
    coded IsChangeRefusal _ (refusal_of_code NO_COLUMN) _ (among NO_COLUMN (omega arith) (omega arith))
    (coded IsChangeRefusal _ (refusal_of_code WRONG_TYPE) _ (among WRONG_TYPE (omega arith) (omega arith)) (accepts IsChangeRefusal _))

pub write_coded : (t : Table) (w : Write) → IfErr (change t w) IsChangeRefusal
write_coded t w = (change_coded t w).holds

-- ---- queries

abbrev pub IsQueryRefusal : Refusal → Type 0
IsQueryRefusal r = (r.code ≡ NO_TABLE) ⊎ (r.code ≡ NO_COLUMN) ⊎ (r.code ≡ BAD_COLUMNS) ⊎ (r.code ≡ OVERFLOW) ⊎ (r.code ≡ WRONG_TYPE)

answered_coded : (tables : List Table) (s : Select) → Refuses IsQueryRefusal (answer_over tables s)
answered_coded tables s =
    coded IsQueryRefusal _ (refusal_of_code NO_COLUMN) _ (inr (inl refl))
    (coded IsQueryRefusal _ (refusal_of_code BAD_COLUMNS) _ (inr (inr (inl refl)))
    (coded IsQueryRefusal _ (refusal_of_code WRONG_TYPE) _ (inr (inr (inr (inr refl))))
    (coded IsQueryRefusal _ (refusal_of_code OVERFLOW) _ (inr (inr (inr (inl refl)))) (accepts IsQueryRefusal _))))

-- an answer, or one of these refusals
abbrev pub IfRefused : Asked → (Refusal → Type 0) → Type 0
IfRefused (asked.Rows answer) P = Unit {0}
IfRefused (asked.Refused refusal) P = P refusal

refused_by : (r : Result Answer Refusal) → Refuses IsQueryRefusal r → IfRefused (asked_by r) IsQueryRefusal
refused_by (Ok answer) h = tt
refused_by (Err refusal) h = h.holds

pub ask_coded : (db : List Slot) (tx : ℕ) (s : Select) → IfRefused (ask db tx s) IsQueryRefusal
ask_coded db tx s = refused_by _ (coded IsQueryRefusal _ (refusal_of_code NO_TABLE) _ (inl refl) (answered_coded (tables_seen db tx s.tables) s))
