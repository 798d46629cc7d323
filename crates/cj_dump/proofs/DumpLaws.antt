-- The layout of a dump is one, and its bytes are those of a dump.
use Rattle.std.proofs.Common.{◌≡◌, ℕ, suc, zero, Bool, true, false, List, [], ◌∷◌, ◌++◌, length, refl, sym, ap, ◌∙◌, arith, nat_le, nat_lt, ◌==◌, ◌||◌, eqb}
use Rattle.std.specs.Int.{w16, w64, to_be_bytes}
use Rattle.std.proofs.lemmas.Bool.{eqb-true, leb-true}
use Rattle.std.proofs.lemmas.List.Concat.{flat_map-cons}
use Rattle.cj_dump.proofs.Common.{Column, Draft, Dump, None, Option, Schema, Slot, Some, Value, flat_map, is_some, option_map, str16}
use Rattle.cj_model.specs.Database.Tables.{table_of}
use Rattle.cj_model.specs.Wire.Replies.{value_bytes, row_bytes}
use Rattle.cj_codec.specs.Fields.{byte, number16, number64, name, value}
use Rattle.cj_codec.specs.Formats.{Format, IsFormat, such_that}
use Rattle.cj_codec.proofs.Formats.{such_that_law}
use Rattle.cj_codec.proofs.Formats as formats
use Rattle.cj_codec.proofs.Fields.{byte_law, number16_law, number64_law, name_law, value_law, value_same}
use Rattle.cj_dump.specs.Layouts.{FieldLayout, field, rising_field, followed, pair, listed_bytes}
use Rattle.cj_dump.specs.DumpLayout.{last_of, flag_byte, flag, kind_byte, kind_of_byte, kind, column_name, column, column_count, columns, is_free, free_name, rises_above, key, schema, last_key, column_value, row_value, row, row_count, rows, tx_in, rows_in, transaction, draft_behind, draft, slot_behind, slot, covered, covers_count, covers, slots, dump}
use Rattle.cj_dump.specs.Dumps.{column_bytes, schema_bytes, rows_bytes, draft_bytes, slot_bytes, names_bytes, db_bytes, dump_bytes}
use Rattle.cj_dump.proofs.LayoutLaws.{IsLayout, rising_law, field_law, known_law, behind_law, mapped_law, followed_law, pair_law, listed_law, list_law}

-- ---- formats

flag_back : (b : ℕ) → (such_that (λ b. nat_le b 1) byte).fits b → flag_byte (b == 1) ≡ b
flag_back zero fits = refl
flag_back (suc zero) fits = refl
flag_back (suc (suc b)) fits = absurd (omega (arith, leb-true (suc (suc b)) 1 fits.1))

pub flag_law : IsFormat flag
flag_law = formats.mapped_law (λ b. b == 1) flag_byte (such_that (λ b. nat_le b 1) byte) (such_that_law (λ b. nat_le b 1) byte byte_law) flag_back

kind_back : (b : ℕ) (p q : Bool) → eqb b 1 ≡ p → eqb b 2 ≡ q → (p || q) ≡ true → kind_byte (kind_of_byte b) ≡ b
kind_back b true q e f is = rw e (sym (eqb-true b 1 e))
kind_back b false true e f is = rw e (sym (eqb-true b 2 f))
kind_back b false false e f is = absurd cc

pub kind_law : IsFormat kind
kind_law = formats.mapped_law kind_of_byte kind_byte (such_that (λ b. b == 1 || b == 2) byte) (such_that_law (λ b. b == 1 || b == 2) byte byte_law) (λ b fits. kind_back b (b == 1) (b == 2) refl refl fits.1)

test_law : {A : Type 0} (test : A → Bool) (f : Format A) → IsFormat f → IsLayout (field (such_that test f))
test_law test f law = field_law (such_that test f) (such_that_law test f law)

-- ---- layouts

column_law : (before : List Column) → IsLayout (column before)
column_law before =
    mapped_law (λ p. record { name = p.0; kind = p.1 }) (λ c. (c.name, c.kind)) (pair (field (column_name before)) (field kind))
    (pair_law (field (column_name before)) (field kind) (test_law _ name name_law) (field_law kind kind_law)) (λ x fits. refl)

columns_law : IsLayout columns
columns_law = list_law column_count column (such_that_law _ number16 number16_law) column_law

key_law : (cs : List Column) → IsLayout (key cs)
key_law cs = test_law (λ k. nat_lt k (length cs)) number16 number16_law

schema_law : (before : Option (List ℕ)) → IsLayout (schema before)
schema_law before =
    mapped_law (λ p. record { table = p.0; columns = p.1.0; key = p.1.1 }) (λ s. (s.table, (s.columns, s.key))) (pair (rising_field free_name (rises_above before)) (followed columns key))
    (pair_law (rising_field free_name (rises_above before)) (followed columns key) (rising_law free_name (rises_above before) (such_that_law is_free name name_law)) (followed_law columns key columns_law key_law)) (λ x fits. refl)

row_law : (s : Schema) (before : List (List Value)) → IsLayout (row s before)
row_law s before = listed_law (row_value s (last_key s.key before)) (length s.columns) (λ seen. rising_law (column_value s.columns (length seen)) _ (such_that_law _ value value_law))

rows_law : (s : Schema) → IsLayout (rows s)
rows_law s = list_law row_count (row s) (such_that_law _ number64 number64_law) (row_law s)

draft_behind_law : (s : Schema) (some : Bool) → IsLayout (draft_behind s some)
draft_behind_law s false = known_law None
draft_behind_law s true =
    mapped_law (λ p. Some (record { tx = p.0; table = record { schema = s; rows = p.1 } })) (λ d. (tx_in d, rows_in d)) (pair (field transaction) (rows s))
    (pair_law (field transaction) (rows s) (test_law (nat_lt 0) number64 number64_law) (rows_law s)) (λ x fits. refl)

drafted : (s : Schema) (some : Bool) (d : Option Draft) → (draft_behind s some).fits d → is_some d ≡ some
drafted s false d fits = ap is_some fits
drafted s true d fits = ap is_some (sym fits.1)

draft_law : (s : Schema) → IsLayout (draft s)
draft_law s = behind_law (field flag) is_some (draft_behind s) (field_law flag flag_law) (draft_behind_law s) (drafted s)

slot_behind_law : (s : Schema) → IsLayout (slot_behind s)
slot_behind_law s =
    mapped_law (λ p. record { base = record { schema = s; rows = p.0 }; draft = p.1 }) (λ t. (t.base.rows, t.draft)) (pair (rows s) (draft s))
    (pair_law (rows s) (draft s) (rows_law s) (draft_law s)) (λ x fits. refl)

slot_law : (before : List Slot) → IsLayout (slot before)
slot_law before = behind_law (schema _) (λ t. t.base.schema) slot_behind (schema_law _) slot_behind_law (λ s t fits. ap (λ (u : Slot). u.base.schema) (sym fits.1))

covers_law : (all : Bool) → IsLayout (covers all)
covers_law all = list_law (covers_count all) covered (such_that_law _ number64 number64_law) (λ before. rising_law name _ name_law)

slots_law : IsLayout slots
slots_law = list_law number64 slot number64_law slot_law

pub dump_law : IsLayout dump
dump_law =
    mapped_law
    (λ p. record { position = p.0; source = p.1.0; name = p.1.1.0; all = p.1.1.1.0.0; covers = p.1.1.1.0.1; db = p.1.1.1.1 })
    (λ d. (d.position, (d.source, (d.name, ((d.all, d.covers), d.db)))))
    (pair (field number64) (pair (field byte) (pair (field name) (pair (followed (field flag) covers) slots))))
    (pair_law (field number64) (pair (field byte) (pair (field name) (pair (followed (field flag) covers) slots))) (field_law number64 number64_law)
    (pair_law (field byte) (pair (field name) (pair (followed (field flag) covers) slots)) (field_law byte byte_law)
    (pair_law (field name) (pair (followed (field flag) covers) slots) (field_law name name_law)
    (pair_law (followed (field flag) covers) slots (followed_law (field flag) covers (field_law flag flag_law) covers_law) slots_law))))
    (λ x fits. refl)

-- ---- bytes

listed_flat : {A : Type 0} (item : List A → FieldLayout A) (spelled : A → List ℕ) → ((before : List A) (x : A) → (item before).bytes x ≡ spelled x) → (before xs : List A) → listed_bytes item before xs ≡ flat_map spelled xs
listed_flat item spelled each before [] = refl
listed_flat {A} item spelled each before (x ∷ xs) =
    ap (λ (t : List ℕ). t ++ listed_bytes item (before ++ x ∷ []) xs) (each before x)
    ∙ ap (λ (t : List ℕ). spelled x ++ t) (listed_flat item spelled each (before ++ x ∷ []) xs)
    ∙ sym (flat_map-cons spelled x xs)

columns_spelled : (cs : List Column) → listed_bytes column [] cs ≡ flat_map column_bytes cs
columns_spelled cs = listed_flat column column_bytes (λ before c. refl) [] cs

schema_spelled : (before : Option (List ℕ)) (s : Schema) → (schema before).bytes s ≡ schema_bytes s
schema_spelled before s = ap (λ (t : List ℕ). str16 s.table ++ ((to_be_bytes w16 (length s.columns) ++ t) ++ to_be_bytes w16 s.key)) (columns_spelled s.columns)

row_spelled : (s : Schema) (before : List (List Value)) (r : List Value) → (row s before).bytes r ≡ row_bytes r
row_spelled s before r = listed_flat (row_value s (last_key s.key before)) value_bytes (λ seen v. value_same v) [] r

rows_spelled : (s : Schema) (rs : List (List Value)) → (rows s).bytes rs ≡ rows_bytes rs
rows_spelled s rs = ap (λ (t : List ℕ). to_be_bytes w64 (length rs) ++ t) (listed_flat (row s) row_bytes (row_spelled s) [] rs)

draft_spelled : (s : Schema) (d : Option Draft) → (draft s).bytes d ≡ draft_bytes d
draft_spelled s None = refl
draft_spelled s (Some d) = ap (λ (t : List ℕ). 1 ∷ (to_be_bytes w64 d.tx ++ t)) (rows_spelled s d.table.rows)

slot_spelled : (before : List Slot) (t : Slot) → (slot before).bytes t ≡ slot_bytes t
slot_spelled before t =
    ap (λ (x : List ℕ). x ++ ((rows t.base.schema).bytes t.base.rows ++ (draft t.base.schema).bytes t.draft)) (schema_spelled (option_map table_of (last_of before)) t.base.schema)
    ∙ ap (λ (x : List ℕ). schema_bytes t.base.schema ++ (x ++ (draft t.base.schema).bytes t.draft)) (rows_spelled t.base.schema t.base.rows)
    ∙ ap (λ (x : List ℕ). schema_bytes t.base.schema ++ (rows_bytes t.base.rows ++ x)) (draft_spelled t.base.schema t.draft)

covers_spelled : (all : Bool) (ns : List (List ℕ)) → (covers all).bytes ns ≡ names_bytes ns
covers_spelled all ns = ap (λ (t : List ℕ). to_be_bytes w64 (length ns) ++ t) (listed_flat covered str16 (λ before n. refl) [] ns)

slots_spelled : (db : List Slot) → slots.bytes db ≡ db_bytes db
slots_spelled db = ap (λ (t : List ℕ). to_be_bytes w64 (length db) ++ t) (listed_flat slot slot_bytes slot_spelled [] db)

pub dump_spelled : (d : Dump) → dump.bytes d ≡ dump_bytes d
dump_spelled d =
    ap (λ (t : List ℕ). to_be_bytes w64 d.position ++ (d.source ∷ (str16 d.name ++ (flag_byte d.all ∷ (t ++ slots.bytes d.db))))) (covers_spelled d.all d.covers)
    ∙ ap (λ (t : List ℕ). to_be_bytes w64 d.position ++ (d.source ∷ (str16 d.name ++ (flag_byte d.all ∷ (names_bytes d.covers ++ t))))) (slots_spelled d.db)
