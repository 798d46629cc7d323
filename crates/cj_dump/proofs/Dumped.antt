-- What fits the layout of a dump is a dump, and a dump fits it.
use Rattle.std.proofs.Common.{◌≡◌, ℕ, ◌^◌, ◌<◌, Bool, true, false, ◌||◌, ◌==◌, not, List, [], length, refl, sym, ap, subst, ◌∙◌, arith}
use Rattle.std.proofs.lemmas.Bool.{eq-eqb, eqb-true, lt-ltb, ltb-true}
use Rattle.std.proofs.lemmas.List.{nil_from_length}
use Rattle.cj_dump.proofs.Common.{All, All-nil, All-weaker, Draft, Dump, IfSome, IsConstant, None, Option, Schema, Slot, Some, Value, fields_hold, nat_list_cmp_total, option_map}
use Rattle.cj_model.specs.declared.database.Table.{Table}
use Rattle.cj_model.specs.Database.Storable.{IsStorableSlot, IsStorableTable}
use Rattle.cj_model.specs.Database.Tables.{IsTable, IsSlot, by_table, fits_columns, name_cmp, table_of}
use Rattle.cj_model.specs.Sql.Names.{is_name}
use Rattle.cj_model.proofs.DatabaseLaws.{by_table_total}
use Rattle.cj_dump.specs.DumpLayout.{last_of, rises_above, flag, rows, draft, slot, covered, covers, slots, dump}
use Rattle.cj_dump.specs.Dumps.{HasSmallTransaction, IsDump}
use Rattle.cj_dump.proofs.ColumnLaws.{IsSchema, schema_to, schema_from}
use Rattle.cj_dump.proofs.RowLaws.{AreRows, rows_to, rows_from}
use Rattle.cj_dump.proofs.Rising.{above, all_rise, each_rises, split, merge}

-- ---- tables

table_is : (s : Schema) (rs : List (List Value)) → IsSchema s → AreRows s rs → IsTable (record { schema = s; rows = rs }) × IsStorableTable (record { schema = s; rows = rs })
table_is s rs is are = (
  record {
    few = is.few;
    distinct = is.distinct;
    key = is.key;
    kinds = All-weaker (λ r. (fits_columns s.columns r ≡ true) × All IsConstant r) (λ r. fits_columns s.columns r ≡ true) (λ r t. t.0) rs are.each;
    rises = are.rises;
    room = are.room;
  },
  record {
    table = is.table;
    columns = is.columns;
    values = All-weaker (λ r. (fits_columns s.columns r ≡ true) × All IsConstant r) (λ r. All IsConstant r) (λ r t. t.1) rs are.each;
  },
)

schema_is : (t : Table) → IsTable t → IsStorableTable t → IsSchema t.schema
schema_is t is storable = record { table = storable.table; columns = storable.columns; few = is.few; distinct = is.distinct; key = is.key }

rows_are : (t : Table) → IsTable t → IsStorableTable t → AreRows t.schema t.rows
rows_are t is storable = record { each = λ k d lt. (is.kinds k d lt, storable.values k d lt); rises = is.rises; room = is.room }

-- ---- drafts

abbrev IsDraft : Schema → Option Draft → Type 0
IsDraft s None = Unit {0}
IsDraft s (Some d) = (0 < d.tx) × IsTable d.table × (d.table.schema ≡ s) × IsStorableTable d.table × (d.tx < 2 ^ 64)

some_is : (d e : Draft) → Some d ≡ Some e → d ≡ e
some_is d e h = cc

draft_to : (s : Schema) → IsSchema s → (o : Option Draft) → (draft s).fits o → IsDraft s o
draft_to s is None fits = tt
draft_to s is (Some d) fits =
    let made : Draft = record { tx = d.tx; table = record { schema = s; rows = d.table.rows } } in
    let t = table_is s d.table.rows is (rows_to s is.key d.table.rows fits.1.0.1.0) in
    subst (λ (e : Draft). (0 < e.tx) × IsTable e.table × (e.table.schema ≡ s) × IsStorableTable e.table × (e.tx < 2 ^ 64)) (some_is made d fits.1.1) (ltb-true 0 d.tx fits.1.0.0.0.1, t.0, refl, t.1, fits.1.0.0.0.0)

flag_fits : (b : Bool) → flag.fits b
flag_fits true = ((omega arith, refl), refl)
flag_fits false = ((omega arith, refl), refl)

draft_from : (s : Schema) → (o : Option Draft) → IsDraft s o → (draft s).fits o
draft_from s None is = ((flag_fits false, refl), refl)
draft_from s (Some d) is =
    let rs : (rows s).fits d.table.rows = subst (λ (u : Schema). (rows u).fits d.table.rows) is.2 (rows_from d.table.schema is.1.key d.table.rows (rows_are d.table is.1 is.3)) in
    ((flag_fits true, refl), ((((is.4, lt-ltb 0 d.tx is.0), refl), (rs, refl)), ap (λ (u : Schema). Some (record { tx = d.tx; table = record { schema = u; rows = d.table.rows } })) (sym is.2)))

-- ---- slots

same_above : (o : Option Slot) (t : Slot) → rises_above (option_map table_of o) (table_of t) ≡ above by_table o t
same_above None t = refl
same_above (Some l) t = refl

abbrev HoldsSlot : Slot → Type 0
HoldsSlot t = IsSlot t × IsStorableSlot t × HasSmallTransaction t

-- what is said of a draft, of the one that a slot has
for_draft : (t : Slot) (P : Draft → Type 0) (o : Option Draft) → t.draft ≡ o → IfSome o P → IfSome t.draft P
for_draft t P o e h = subst (λ (p : Option Draft). IfSome p P) (sym e) h

of_draft : (t : Slot) (P : Draft → Type 0) (d : Draft) → t.draft ≡ Some d → IfSome t.draft P → P d
of_draft t P d e h = subst (λ (p : Option Draft). IfSome p P) e h

slot_made : (t : Slot) → IsTable t.base → IsStorableTable t.base → (o : Option Draft) → t.draft ≡ o → IsDraft t.base.schema o → HoldsSlot t
slot_made t is storable None e h = (
  record { base = is; draft = for_draft t (λ d. (0 < d.tx) × IsTable d.table × (d.table.schema ≡ t.base.schema)) None e tt },
  record { base = storable; draft = for_draft t (λ d. IsStorableTable d.table) None e tt },
  for_draft t (λ d. d.tx < 2 ^ 64) None e tt,
)
slot_made t is storable (Some d) e h = (
  record { base = is; draft = for_draft t (λ d. (0 < d.tx) × IsTable d.table × (d.table.schema ≡ t.base.schema)) (Some d) e (h.0, h.1, h.2) },
  record { base = storable; draft = for_draft t (λ d. IsStorableTable d.table) (Some d) e h.3 },
  for_draft t (λ d. d.tx < 2 ^ 64) (Some d) e h.4,
)

slot_to : (before : List Slot) (t : Slot) → All HoldsSlot before → (slot before).fits t → HoldsSlot t × (above by_table (last_of before) t ≡ true)
slot_to before t seen fits =
    let s = schema_to (option_map table_of (last_of before)) t.base.schema fits.0 in
    let base = table_is t.base.schema t.base.rows s.0 (rows_to t.base.schema s.0.key t.base.rows fits.1.0.0) in
    (slot_made t base.0 base.1 t.draft refl (draft_to t.base.schema s.0 t.draft fits.1.0.1.0), sym (same_above (last_of before) t) ∙ s.1)

draft_held : (t : Slot) → HoldsSlot t → (o : Option Draft) → t.draft ≡ o → IsDraft t.base.schema o
draft_held t h None e = tt
draft_held t h (Some d) e =
    let is = of_draft t (λ d. (0 < d.tx) × IsTable d.table × (d.table.schema ≡ t.base.schema)) d e h.0.draft in
    (is.0, is.1, is.2, of_draft t (λ d. IsStorableTable d.table) d e h.1.draft, of_draft t (λ d. d.tx < 2 ^ 64) d e h.2)

slot_from : (before : List Slot) (t : Slot) → All HoldsSlot before → HoldsSlot t → above by_table (last_of before) t ≡ true → (slot before).fits t
slot_from before t seen is rises =
    let s = schema_is t.base is.0.base is.1.base in (
      schema_from (option_map table_of (last_of before)) t.base.schema s (same_above (last_of before) t ∙ rises),
      ((rows_from t.base.schema s.key t.base.rows (rows_are t.base is.0.base is.1.base), (draft_from t.base.schema t.draft (draft_held t is t.draft refl), refl)), refl),
    )

-- ---- names covered

name_to : (before : List (List ℕ)) (n : List ℕ) → All (λ m. is_name m ≡ true) before → (covered before).fits n → (is_name n ≡ true) × (above name_cmp (last_of before) n ≡ true)
name_to before n seen fits = ((fields_hold.of_name n).0 fits.0, fits.1)

name_from : (before : List (List ℕ)) (n : List ℕ) → All (λ m. is_name m ≡ true) before → is_name n ≡ true → above name_cmp (last_of before) n ≡ true → (covered before).fits n
name_from before n seen is rises = ((fields_hold.of_name n).1 is, rises)

none_covered : (all : Bool) (ns : List (List ℕ)) → (not all || length ns == 0) ≡ true → all ≡ true → ns ≡ []
none_covered true ns e is = nil_from_length ns (eqb-true (length ns) 0 e)
none_covered false ns e is = absurd cc

count_allowed : (all : Bool) (ns : List (List ℕ)) → (all ≡ true → ns ≡ []) → (not all || length ns == 0) ≡ true
count_allowed true ns h = eq-eqb (length ns) 0 (ap length (h refl))
count_allowed false ns h = refl

-- ---- dumps

pub fits_dump : (d : Dump) → dump.fits d → IsDump d
fits_dump d fits =
    let names = split covered (λ m. is_name m ≡ true) name_cmp name_to [] d.covers (All-nil (λ m. is_name m ≡ true)) fits.0.1.0.1.0.1.0.0.1.0.1.1 in
    let tables = split slot HoldsSlot by_table slot_to [] d.db (All-nil HoldsSlot) fits.0.1.0.1.0.1.0.1.0.1.1 in
    record {
      position = fits.0.0.0;
      source = fits.0.1.0.0.0;
      name = (fields_hold.of_name d.name).0 fits.0.1.0.1.0.0.0;
      covers = names.0;
      rises = all_rise name_cmp nat_list_cmp_total d.covers names.1;
      none = none_covered d.all d.covers fits.0.1.0.1.0.1.0.0.1.0.0.0.1;
      few_covers = fits.0.1.0.1.0.1.0.0.1.0.0.0.0;
      db = record {
        database = record { slots = All-weaker HoldsSlot IsSlot (λ t h. h.0) d.db tables.0; rises = all_rise by_table by_table_total d.db tables.1 };
        slots = All-weaker HoldsSlot IsStorableSlot (λ t h. h.1) d.db tables.0;
      };
      few_slots = fits.0.1.0.1.0.1.0.1.0.0.0;
      transactions = All-weaker HoldsSlot HasSmallTransaction (λ t h. h.2) d.db tables.0;
    }

pub dump_fits : (d : Dump) → IsDump d → dump.fits d
dump_fits d is =
    let names = merge covered (λ m. is_name m ≡ true) name_cmp name_from [] d.covers (All-nil (λ m. is_name m ≡ true)) is.covers (each_rises name_cmp d.covers is.rises) in
    let held : All HoldsSlot d.db = λ k e lt. (is.db.database.slots k e lt, is.db.slots k e lt, is.transactions k e lt) in
    let tables = merge slot HoldsSlot by_table slot_from [] d.db (All-nil HoldsSlot) held (each_rises by_table d.db is.db.database.rises) in
    let covers_fit : (covers d.all).fits d.covers = (((is.few_covers, count_allowed d.all d.covers is.none), refl), (refl, names)) in
    let slots_fit : slots.fits d.db = ((is.few_slots, refl), (refl, tables)) in
    (((is.position, refl), (((is.source, refl), ((((fields_hold.of_name d.name).1 is.name, refl), ((((flag_fits d.all, refl), (covers_fit, refl)), (slots_fit, refl)), refl)), refl)), refl)), refl)
