-- What a storable database holds can be written in statements.
use Rattle.std.proofs.Common.{◌≡◌, ◌∙◌, refl, ap, subst, ℕ, ◌<◌, ◌≤◌, true, false, nat_le, List, [], ◌∷◌, length, map, ◌+◌, pos, negsuc, Option, Some, None, arith}
use Rattle.std.specs.Prelude.{All, IfSome, option_map, option_to_list, slice_index_or}
use Rattle.std.specs.List.{list_all, enumerate_from}
use Rattle.std.proofs.lemmas.Bool.{and_parts, leb-true}
use Rattle.std.proofs.lemmas.List.Elements.{All-nil, All-cons, All-head, All-tail, All-append}
use Rattle.std.proofs.lemmas.List.FromFn.{length-enumerate_from}
use Rattle.cj_print.proofs.Common.{Request, Term, Value, append-nil, canonical, length-map, nat_tests}
use Rattle.cj_model.specs.declared.value.Value.TheVariants.{Int, Text}
use Rattle.cj_model.specs.declared.term.Term.TheVariants.{Lit}
use Rattle.cj_model.specs.declared.schema.Column.{Column}
use Rattle.cj_model.specs.declared.schema.Schema.{Schema}
use Rattle.cj_model.specs.declared.database.Table.{Table}
use Rattle.cj_model.specs.declared.database.Draft.{Draft}
use Rattle.cj_model.specs.declared.database.Slot.{Slot}
use Rattle.cj_model.specs.declared.write.Write.TheVariants.{Insert}
use Rattle.cj_model.specs.declared.request.Request.TheVariants as request
use Rattle.cj_model.specs.Sql.Names.{lower, begins_name, continues_name, is_spelled_as_name, is_name}
use Rattle.cj_model.specs.Sql.Lexical.{is_letter, is_word, EachByte, IsWordSpelling, Tokens}
use Rattle.cj_model.specs.Sql.Literals.{form_of, IsConstant}
use Rattle.cj_model.specs.Sql.TermForms.{ConstForm, EachFits, SomeFit, AnyFits, const_meant, ConstFits}
use Rattle.cj_model.specs.Sql.Grammar.{statement_tokens, statement_meant, StatementFits}
use Rattle.cj_model.specs.Database.Tables.{IsTable, IsSlot, column_names}
use Rattle.cj_model.specs.Sql.PlainRequests.{is_plain, is_plain_term}
use Rattle.cj_model.specs.Sql.WrittenRequests.{IsWritten}
use Rattle.cj_model.specs.Database.Storable.{IsFreeName, IsStorableTable, IsStorableSlot}
use Rattle.cj_model.proofs.Spellable.{FineName, FineTerm, FineConst, FineColDef, FineRequest}
use Rattle.cj_model.proofs.TableLaws.{table_is_even}
use Rattle.cj_print.specs.Stored.{coldef_of, create_of, insert_of, tables_in, IsWrittenTable, StorableIsWritten}
use Rattle.cj_print.proofs.CanonicalTokens.{canonical_spelled}
use Rattle.cj_print.proofs.Forms.{const_form, form}
use Rattle.cj_print.proofs.ReadBack.{literals_read_back}

-- ---- names

-- what begins a name is a letter, in lower case
begin_is_letter : (b : ℕ) → begins_name b ≡ true → is_letter b ≡ true
begin_is_letter b h = grind (arith, nat_tests, h)

begin_is_lower : (b : ℕ) → begins_name b ≡ true → b ≡ lower b
begin_is_lower b h = grind (arith, nat_tests, h)

-- what goes on with it goes on with a word, in lower case
continuation_is_word : (b : ℕ) → continues_name b ≡ true → is_word b ≡ true
continuation_is_word b h = grind (arith, nat_tests, h)

continuation_is_lower : (b : ℕ) → continues_name b ≡ true → b ≡ lower b
continuation_is_lower b h = grind (arith, nat_tests, h)

all_are_words : (z : List ℕ) → list_all continues_name z ≡ true → EachByte is_word z
all_are_words [] h = tt
all_are_words (b ∷ z) h = let parts = and_parts (continues_name b) (list_all continues_name z) h in (continuation_is_word b parts.0, all_are_words z parts.1)

all_are_lower : (z : List ℕ) → list_all continues_name z ≡ true → z ≡ map lower z
all_are_lower [] h = refl
all_are_lower (b ∷ z) h =
    let parts = and_parts (continues_name b) (list_all continues_name z) h in
    let first : b ≡ lower b = continuation_is_lower b parts.0 in
    let others : z ≡ map lower z = all_are_lower z parts.1 in
    cc

-- what is spelled as a name is a word
spelled_is_word : (z : List ℕ) → is_spelled_as_name z ≡ true → IsWordSpelling z
spelled_is_word [] h = cc h
spelled_is_word (b ∷ z) h = let parts = and_parts (begins_name b) (list_all continues_name z) h in (begin_is_letter b parts.0, all_are_words z parts.1)

-- and in lower case
spelled_is_lower : (z : List ℕ) → is_spelled_as_name z ≡ true → z ≡ map lower z
spelled_is_lower [] h = refl
spelled_is_lower (b ∷ z) h =
    let parts = and_parts (begins_name b) (list_all continues_name z) h in
    let first : b ≡ lower b = begin_is_lower b parts.0 in
    let others : z ≡ map lower z = all_are_lower z parts.1 in
    cc

-- a name that is no reserved word can be spelled
free_is_fine : (n : List ℕ) → IsFreeName n → FineName n
unfolding is_name
free_is_fine n h =
    let parts = and_parts (nat_le (length n) 32) (is_spelled_as_name n) h.0 in
    (spelled_is_word n parts.1, leb-true (length n) 32 parts.0, h.1, spelled_is_lower n parts.1)

-- ---- requests

-- a plain request is written in its canonical text, where its parts are fine and its form fits and means it
pub written_in_canonical : (r : Request) → is_plain r ≡ true → FineRequest r → StatementFits (form r) → r ≡ statement_meant (form r) → IsWritten r
written_in_canonical r plain fine fits meant =
    let text = canonical r in
    let tokens = statement_tokens (form r) [] in
    record {
      plain = plain;
      text = text;
      reads =
          record {
            tokens = tokens;
            tokens_of = subst (λ z. Tokens z tokens) (append-nil text) ((canonical_spelled r fine).before [] [] tt tt);
            reads = record { statement = form r; semicolon = false; tokens_are = refl; fits = fits; meant = meant };
          };
    }

-- ---- CREATE

coldefs_fine : (key n : ℕ) (cs : List Column) → All (λ (c : Column). IsFreeName c.name) cs → EachFits FineColDef (map (coldef_of key) (enumerate_from n cs))
coldefs_fine key n [] h = tt
coldefs_fine key n (c ∷ cs) h =
    (free_is_fine c.name (All-head (λ (c : Column). IsFreeName c.name) c cs h), coldefs_fine key (n + 1) cs (All-tail (λ (c : Column). IsFreeName c.name) c cs h))

each_any : {A : Type 0} (xs : List A) → EachFits AnyFits xs
each_any [] = tt
each_any (x ∷ xs) = (tt, each_any xs)

-- the CREATE of a schema whose names are free
create_written : (s : Schema) → IsFreeName s.table → All (λ (c : Column). IsFreeName c.name) s.columns → 0 < length s.columns → length s.columns ≤ 16 → IsWritten (request.Create (create_of s))
create_written s table columns some few =
    let width : length (create_of s).columns ≡ length s.columns = length-map (enumerate_from 0 s.columns) (coldef_of s.key) ∙ length-enumerate_from 0 s.columns in
    written_in_canonical (request.Create (create_of s)) refl (free_is_fine s.table table, coldefs_fine s.key 0 s.columns columns) (omega (arith, width, some), omega (arith, width, few), each_any (create_of s).columns) refl

-- ---- INSERT

-- the literal of a constant can be spelled
pub literal_fine : (v : Value) → IsConstant v → FineTerm (Lit v)
literal_fine (Int (pos n)) h = omega (arith, h)
literal_fine (Int (negsuc n)) h = omega (arith, h)
literal_fine (Text x) h = h

literals_fine : (row : List Value) → All IsConstant row → EachFits FineConst (map (λ v. Lit v) row)
literals_fine [] h = tt
literals_fine (v ∷ vs) h = ((tt, literal_fine v (All-head IsConstant v vs h)), literals_fine vs (All-tail IsConstant v vs h))

literals_plain : (row : List Value) → list_all is_plain_term (map (λ v. Lit v) row) ≡ true
literals_plain [] = refl
literals_plain (v ∷ vs) = literals_plain vs

-- their forms fit
literals_fit : (row : List Value) → All IsConstant row → EachFits ConstFits (map const_form (map (λ v. Lit v) row))
literals_fit [] h = tt
literals_fit (v ∷ vs) h = ((literals_read_back v (All-head IsConstant v vs h)).fits, literals_fit vs (All-tail IsConstant v vs h))

-- and mean them
literals_meant : (row : List Value) → All IsConstant row → map (λ v. Lit v) row ≡ map const_meant (map const_form (map (λ v. Lit v) row))
literals_meant [] h = refl
literals_meant (v ∷ vs) h =
    let first : const_meant (form_of v) ≡ Lit v = (literals_read_back v (All-head IsConstant v vs h)).meant in
    let others : map (λ v. Lit v) vs ≡ map const_meant (map const_form (map (λ v. Lit v) vs)) = literals_meant vs (All-tail IsConstant v vs h) in
    cc

-- the INSERT of a row of constants
insert_written : (table : List ℕ) (row : List Value) → IsFreeName table → All IsConstant row → 0 < length row → length row ≤ 16 → IsWritten (request.Write (insert_of table row))
insert_written table row name constants some few =
    let terms : List Term = map (λ v. Lit v) row in
    let forms : List ConstForm = map const_form terms in
    let width : length forms ≡ length row = length-map terms const_form ∙ length-map row (λ v. Lit v) in
    let plain : is_plain (request.Write (insert_of table row)) ≡ true = rw (literals_plain row) refl in
    let fits : SomeFit ConstFits 16 forms = (omega (arith, width, some), omega (arith, width, few), literals_fit row constants) in
    written_in_canonical (request.Write (insert_of table row)) plain
    (free_is_fine table name, tt, (literals_fine row constants, tt))
    (tt, (omega arith, omega arith, (fits, tt)))
    (ap (λ (u : List Term). request.Write (Insert table None (u ∷ []))) (literals_meant row constants))

-- ---- databases

-- a table's rows have 1 to 16 values, since it has 1 to 16 columns
table_written : (t : Table) → IsTable t → IsStorableTable t → IsWrittenTable t
table_written t is stored =
    let even = table_is_even t is in
    let width : length (column_names t.schema.columns) ≡ length t.schema.columns = length-map t.schema.columns (λ (c : Column). c.name) in
    record {
      create = create_written t.schema stored.table stored.columns (omega (arith, is.key)) is.few;
      inserts =
          λ k d l. let long : length (slice_index_or t.rows k d) ≡ length (column_names t.schema.columns) = even.each k d l in
          insert_written t.schema.table (slice_index_or t.rows k d) stored.table (stored.values k d l) (omega (arith, long, width, is.key)) (omega (arith, long, width, is.few));
    }

draft_written : (base : Table) (draft : Option Draft) → IfSome draft (λ (d : Draft). (0 < d.tx) × IsTable d.table × (d.table.schema ≡ base.schema)) → IfSome draft (λ (d : Draft). IsStorableTable d.table)
    → All IsWrittenTable (option_to_list (option_map (λ (d : Draft). d.table) draft))
draft_written base None is stored = All-nil IsWrittenTable
draft_written base (Some d) is stored = All-cons IsWrittenTable d.table [] (table_written d.table is.1 stored) (All-nil IsWrittenTable)

slot_written : (s : Slot) → IsSlot s → IsStorableSlot s → All IsWrittenTable (s.base ∷ option_to_list (option_map (λ (d : Draft). d.table) s.draft))
slot_written s is stored = All-cons IsWrittenTable s.base _ (table_written s.base is.base stored.base) (draft_written s.base s.draft is.draft stored.draft)

slots_written : (db : List Slot) → All IsSlot db → All IsStorableSlot db → All IsWrittenTable (tables_in db)
slots_written [] is stored = All-nil IsWrittenTable
slots_written (s ∷ db) is stored =
    All-append IsWrittenTable (s.base ∷ option_to_list (option_map (λ (d : Draft). d.table) s.draft)) (tables_in db)
    (slot_written s (All-head IsSlot s db is) (All-head IsStorableSlot s db stored))
    (slots_written db (All-tail IsSlot s db is) (All-tail IsStorableSlot s db stored))

pub storable_is_written : StorableIsWritten
storable_is_written db is = slots_written db is.database.slots is.slots
