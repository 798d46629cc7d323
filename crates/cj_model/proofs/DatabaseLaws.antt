-- A step leaves a database a database.
use Rattle.std.proofs.Common.{◌≡◌, ℕ, ◌<◌, ◌≤◌, true, not, eqb, nat_lt, List, [], ◌∷◌, length, map, refl, ap, sym, ◌∙◌, subst, is_eq, arith}
use Rattle.std.specs.Prelude.{IfOk, IfSome, count_by, position, unwrap_or, is_some}
use Rattle.std.specs.List.{position_or_len}
use Rattle.std.specs.declared.option.Option.{Option}
use Rattle.std.specs.declared.option.Option.TheVariants.{None, Some}
use Rattle.std.specs.declared.result.Result.TheVariants.{Ok, Err}
use Rattle.std.proofs.lemmas.Bool.{and_parts, eqb-true, eqb-false, ltb-true, cond_both}
use Rattle.std.proofs.lemmas.Cmp.{on_total, nat_list_cmp_total}
use Rattle.std.proofs.lemmas.Map.Text.{is_eq-slice_cmp}
use Rattle.cj_model.proofs.Common.{All-filter, All-map, All-nil, All-weaker, COLUMN_LIMIT, Changed, ColDef, Create, Draft, IsTotalOrder, Slot, Table, Write, bytes_eq, change, length-map}
use Rattle.cj_model.specs.Database.Tables.{IsTable, IsSlot, IsDatabase, by_table, name_cmp, table_of, slot_of, is_distinct, column_names}
use Rattle.cj_model.specs.Database.Steps.{Stepped, seen_behind, seen, other_writer, with_table, table_written, write_done, write_unless_locked, write_in, written, make_schema, schema_of, empty_slot, created, drop_unless_locked, drop_in, dropped, commit_behind, committed, abort_behind, aborted}
use Rattle.cj_model.proofs.RisingLaws.{found_All, all_put, rises_put, rises_filter, rises_map}
use Rattle.cj_model.proofs.TableLaws.{IsTableWith}
use Rattle.cj_model.proofs.UpdateLaws.{change_keeps}

-- slots have a total order by the names of their tables
pub by_table_total : IsTotalOrder by_table
by_table_total = on_total table_of nat_list_cmp_total

-- the name of a table is its place in this order
pub is_eq-by_table : (s t : Slot) → is_eq (by_table s t) ≡ bytes_eq (table_of s) (table_of t)
is_eq-by_table s t = is_eq-slice_cmp (table_of s) (table_of t)

-- what is found of a table is a slot
pub found_is_slot : (db : List Slot) (name : List ℕ) → IsDatabase db → IfSome (slot_of db name) IsSlot
found_is_slot db name is = found_All IsSlot (λ s. bytes_eq (table_of s) name) db is.slots

-- a draft of a table with this schema, if there is one
abbrev IfDraft : Table → Option Draft → Type 0
IfDraft base draft = IfSome draft (λ d. (0 < d.tx) × IsTable d.table × (d.table.schema ≡ base.schema))

-- what a transaction sees is a table
seen_behind_is_table : (base : Table) (tx : ℕ) (draft : Option Draft) → IsTable base → IfDraft base draft → IsTable (seen_behind base tx draft)
seen_behind_is_table base tx None is h = is
seen_behind_is_table base tx (Some d) is h = cond_both (eqb d.tx tx) d.table base IsTable (λ _. h.1) (λ _. is)

pub seen_is_table : (s : Slot) (tx : ℕ) → IsSlot s → IsTable (seen s tx)
seen_is_table s tx is = seen_behind_is_table s.base tx s.draft is.base is.draft

-- and has the schema of the base
seen_behind-schema : (base : Table) (tx : ℕ) (draft : Option Draft) → IfDraft base draft → (seen_behind base tx draft).schema ≡ base.schema
seen_behind-schema base tx None h = refl
seen_behind-schema base tx (Some d) h = cond_both (eqb d.tx tx) d.table base (λ (t : Table). t.schema ≡ base.schema) (λ _. h.2) (λ _. refl)

pub seen-schema : (s : Slot) (tx : ℕ) → IsSlot s → (seen s tx).schema ≡ s.base.schema
seen-schema s tx is = seen_behind-schema s.base tx s.draft is.draft

-- ---- writes

-- the draft is one of each table of its schema
rebased : (t base : Table) (draft : Option Draft) → t.schema ≡ base.schema → IfDraft base draft → IfDraft t draft
rebased t base None same h = tt
rebased t base (Some d) same h = (h.0, h.1, h.2 ∙ sym same)

above_zero : (n : ℕ) → (n ≡ 0 → ⊥) → 0 < n
above_zero n h = omega arith

-- a slot with another table of its schema
pub with_table_is_slot : (s : Slot) (tx : ℕ) (t : Table) → IsSlot s → IsTable t → t.schema ≡ s.base.schema → IsSlot (with_table s tx t)
with_table_is_slot s tx t is table same = cond_both (eqb tx 0) (record { base = t; draft = s.draft }) (record { base = s.base; draft = Some (record { tx = tx; table = t }) }) IsSlot
    (λ _. record { base = table; draft = rebased t s.base s.draft same is.draft })
    (λ other. record { base = is.base; draft = (above_zero tx (eqb-false tx 0 other), table, same) })

-- it keeps its name
pub with_table-name : (s : Slot) (tx : ℕ) (t : Table) → t.schema ≡ s.base.schema → table_of (with_table s tx t) ≡ table_of s
with_table-name s tx t same = cond_both (eqb tx 0) (record { base = t; draft = s.draft }) (record { base = s.base; draft = Some (record { tx = tx; table = t }) }) (λ (u : Slot). table_of u ≡ table_of s) (λ _. ap (λ c. c.table) same) (λ _. refl)

write_done_keeps : (db : List Slot) (s : Slot) (tx : ℕ) (c : Changed) → IsDatabase db → IsSlot s → IfOk c (IsTableWith s.base.schema) → IsDatabase (write_done db s tx c).db
write_done_keeps db s tx (Ok p) is slot h = record {
  slots = all_put by_table IsSlot db _ is.slots (with_table_is_slot s tx (record { schema = s.base.schema; rows = p.0 }) slot h refl);
  rises = rises_put by_table by_table_total db _ is.rises;
}
write_done_keeps db s tx (Err r) is slot h = is

write_unless_locked_keeps : (db : List Slot) (s : Slot) (tx : ℕ) (w : Write) (o : Option ℕ) → IsDatabase db → IsSlot s → IsDatabase (write_unless_locked db s tx w o).db
write_unless_locked_keeps db s tx w None is slot =
    write_done_keeps db s tx (change (seen s tx) w) is slot
    (subst (λ c. IfOk (change (seen s tx) w) (IsTableWith c)) (seen-schema s tx slot) (change_keeps (seen s tx) w (seen_is_table s tx slot)))
write_unless_locked_keeps db s tx w (Some other) is slot = is

write_in_keeps : (db : List Slot) (tx : ℕ) (w : Write) (found : Option Slot) → IsDatabase db → IfSome found IsSlot → IsDatabase (write_in db tx w found).db
write_in_keeps db tx w None is h = is
write_in_keeps db tx w (Some s) is h = write_unless_locked_keeps db s tx w (other_writer tx s.draft) is h

-- any write
pub written_keeps : (db : List Slot) (tx : ℕ) (w : Write) → IsDatabase db → IsDatabase (written db tx w).db
written_keeps db tx w is = write_in_keeps db tx w (slot_of db (table_written w)) is (found_is_slot db (table_written w) is)

-- ---- CREATE and DROP

-- where the only primary key stands is one of the columns
key_within : (cs : List ColDef) → count_by (λ (c : ColDef). c.key) cs ≡ 1 → unwrap_or (position (λ (c : ColDef). c.key) cs) 0 < length cs
key_within cs one = cond_both (nat_lt (position_or_len (λ (c : ColDef). c.key) cs) (length cs)) (Some (position_or_len (λ (c : ColDef). c.key) cs)) None (λ o. unwrap_or o 0 < length cs)
    (λ t. ltb-true _ _ t)
    (λ _. some cs one) where
      some : (ds : List ColDef) → count_by (λ (c : ColDef). c.key) ds ≡ 1 → 0 < length ds
      some [] h = cc h
      some (d ∷ ds) h = omega arith

names_kept : (cs : List ColDef) → column_names (map (λ (d : ColDef). record { name = d.name; kind = d.kind }) cs) ≡ map (λ (c : ColDef). c.name) cs
names_kept [] = refl
names_kept (c ∷ cs) = ap (λ ns. c.name ∷ ns) (names_kept cs)

-- the table that CREATE makes, within the limit of columns
pub empty_slot_is_slot : (c : Create) → length c.columns ≤ COLUMN_LIMIT → make_schema c.columns ≡ true → IsSlot (empty_slot c)
empty_slot_is_slot c few made =
    let parts = and_parts (is_distinct (map (λ (d : ColDef). d.name) c.columns)) (eqb (count_by (λ (d : ColDef). d.key) c.columns) 1) made in
    let width : length (schema_of c).columns ≡ length c.columns = length-map c.columns _ in
    record {
      base = record {
        few = omega (arith, width, few);
        distinct = ap is_distinct (names_kept c.columns) ∙ parts.0;
        key = omega (arith, width, key_within c.columns (eqb-true _ _ parts.1));
        kinds = All-nil _;
        rises = tt;
        room = omega arith;
      };
      draft = tt;
    }

pub created_keeps : (db : List Slot) (c : Create) → length c.columns ≤ COLUMN_LIMIT → IsDatabase db → IsDatabase (created db c).db
created_keeps db c few is = cond_both (is_some (slot_of db c.table)) _ _ (λ (s : Stepped). IsDatabase s.db)
    (λ _. is)
    (λ _. cond_both (make_schema c.columns) _ _ (λ (s : Stepped). IsDatabase s.db)
    (λ made. record {
      slots = all_put by_table IsSlot db (empty_slot c) is.slots (empty_slot_is_slot c few made);
      rises = rises_put by_table by_table_total db (empty_slot c) is.rises;
    })
    (λ _. is))

drop_unless_locked_keeps : (db : List Slot) (name : List ℕ) (draft : Option Draft) → IsDatabase db → IsDatabase (drop_unless_locked db name draft).db
drop_unless_locked_keeps db name None is = record {
  slots = All-filter (λ s. not (bytes_eq (table_of s) name)) IsSlot db is.slots;
  rises = rises_filter by_table (λ s. not (bytes_eq (table_of s) name)) db is.rises;
}
drop_unless_locked_keeps db name (Some d) is = is

drop_in_keeps : (db : List Slot) (name : List ℕ) (found : Option Slot) → IsDatabase db → IsDatabase (drop_in db name found).db
drop_in_keeps db name None is = is
drop_in_keeps db name (Some s) is = drop_unless_locked_keeps db name s.draft is

pub dropped_keeps : (db : List Slot) (name : List ℕ) → IsDatabase db → IsDatabase (dropped db name).db
dropped_keeps db name is = drop_in_keeps db name (slot_of db name) is

-- ---- the end of a transaction

-- every slot stays a slot, and keeps its name
commit_behind_is_slot : (base : Table) (tx : ℕ) (draft : Option Draft) → IsTable base → IfDraft base draft → IsSlot (commit_behind base tx draft)
commit_behind_is_slot base tx None is h = record { base = is; draft = tt }
commit_behind_is_slot base tx (Some d) is h = cond_both (eqb d.tx tx) (record { base = d.table; draft = None }) (record { base = base; draft = Some d }) IsSlot
    (λ _. record { base = h.1; draft = tt })
    (λ _. record { base = is; draft = h })

pub commit_behind-name : (base : Table) (tx : ℕ) (draft : Option Draft) → IfDraft base draft → table_of (commit_behind base tx draft) ≡ base.schema.table
commit_behind-name base tx None h = refl
commit_behind-name base tx (Some d) h = cond_both (eqb d.tx tx) (record { base = d.table; draft = None }) (record { base = base; draft = Some d }) (λ (s : Slot). table_of s ≡ base.schema.table)
    (λ _. ap (λ c. c.table) h.2)
    (λ _. refl)

abort_behind_is_slot : (base : Table) (tx : ℕ) (draft : Option Draft) → IsTable base → IfDraft base draft → IsSlot (abort_behind base tx draft)
abort_behind_is_slot base tx None is h = record { base = is; draft = tt }
abort_behind_is_slot base tx (Some d) is h = cond_both (eqb d.tx tx) (record { base = base; draft = None }) (record { base = base; draft = Some d }) IsSlot
    (λ _. record { base = is; draft = tt })
    (λ _. record { base = is; draft = h })

pub abort_behind-name : (base : Table) (tx : ℕ) (draft : Option Draft) → table_of (abort_behind base tx draft) ≡ base.schema.table
abort_behind-name base tx None = refl
abort_behind-name base tx (Some d) = cond_both (eqb d.tx tx) (record { base = base; draft = None }) (record { base = base; draft = Some d }) (λ (s : Slot). table_of s ≡ base.schema.table) (λ _. refl) (λ _. refl)

-- slots that stay slots of their names
each_keeps : (f : Slot → Slot) → ((s : Slot) → IsSlot s → IsSlot (f s)) → ((s : Slot) → IsSlot s → table_of (f s) ≡ table_of s) → (db : List Slot) → IsDatabase db → IsDatabase (map f db)
each_keeps f keeps name db is = record {
  slots = All-map IsSlot f db (All-weaker IsSlot (λ s. IsSlot (f s)) keeps db is.slots);
  rises = rises_map by_table IsSlot f (λ s t p q. ap (λ n. name_cmp n (table_of (f t))) (name s p) ∙ ap (λ n. name_cmp (table_of s) n) (name t q)) db is.slots is.rises;
}

pub committed_keeps : (tx : ℕ) (db : List Slot) → IsDatabase db → IsDatabase (map (committed tx) db)
committed_keeps tx db is = each_keeps (committed tx) (λ s p. commit_behind_is_slot s.base tx s.draft p.base p.draft) (λ s p. commit_behind-name s.base tx s.draft p.draft) db is

pub aborted_keeps : (tx : ℕ) (db : List Slot) → IsDatabase db → IsDatabase (map (aborted tx) db)
aborted_keeps tx db is = each_keeps (aborted tx) (λ s p. abort_behind_is_slot s.base tx s.draft p.base p.draft) (λ s p. abort_behind-name s.base tx s.draft) db is
