-- The base of each table is all that queries outside transactions see, and an act leaves the base of each table that it doesn't touch.
use Rattle.std.proofs.Common.{◌≡◌, ◌≢◌, ℕ, ◌<◌, Bool, true, false, cond, ◌&&◌, ◌||◌, ◌==◌, List, [], ◌∷◌, map, get_or, All, Option, option_map, None, Some, IfSome, Ok, Err, refl, ap, sym, ◌∙◌, subst, arith, ⊎_elim, is_eq}
use Rattle.std.specs.Prelude.{is_none, find}
use Rattle.std.specs.List.{list_any, cons_option}
use Rattle.std.proofs.lemmas.Bool.{both_ways, cond_both, cond-false, ne_eqb, and_cases, eqb-false, or_parts}
use Rattle.std.proofs.lemmas.Bool.Decides.{same_from_decides}
use Rattle.std.proofs.lemmas.List.Elements.{All-head, All-tail}
use Rattle.std.proofs.lemmas.Slice.Eq.{bytes_eq-Decides}
use Rattle.cj_cluster.specs.History.Histories.{database_of}
use Rattle.cj_model.specs.declared.codes.TheConstants.{NO_TABLE}
use Rattle.cj_model.specs.declared.request.Act.{Act}
use Rattle.cj_model.specs.declared.request.Entry.{Entry}
use Rattle.cj_model.specs.declared.select.Select.{Select}
use Rattle.std.specs.Str.{bytes_eq}
use Rattle.cj_model.specs.declared.database.Table.{Table}
use Rattle.cj_model.specs.declared.database.Draft.{Draft}
use Rattle.cj_model.specs.declared.database.Slot.{Slot}
use Rattle.cj_model.specs.declared.write.Write.{Write}
use Rattle.cj_model.specs.declared.request.Act.TheVariants as act
use Rattle.cj_model.specs.Cluster.Placements.{Placement, hosts}
use Rattle.cj_model.specs.Database.Tables.{IsTable, IsSlot, IsDatabase, by_table, table_of, slot_of, put_by}
use Rattle.cj_model.specs.Database.Inserts.{Changed, refusal_of_code, refuse_if}
use Rattle.cj_model.specs.Database.Updates.{change}
use Rattle.cj_model.specs.Database.Steps.{seen_behind, seen, other_writer, table_written, write_done, write_unless_locked, write_in, written, empty_slot, commit_behind, committed, abort_behind, aborted, acted}
use Rattle.cj_model.specs.Database.Queries.{answer_over, tables_seen, asked_by, ask}
use Rattle.cj_model.proofs.RisingLaws.{found_All, found_put}
use Rattle.cj_model.proofs.DatabaseLaws.{by_table_total, is_eq-by_table, found_is_slot, commit_behind-name, abort_behind-name}
use Rattle.cj_model.proofs.PartLaws.{found_name, found_in_part, IsElsewhere, acted_elsewhere}
use Rattle.cj_cluster.specs.History.Transactions.{AreFit, has_written}
use Rattle.cj_cluster.proofs.DraftLaws.{OpenWriter, IsDrafted, all_drafted, run_storable}
use Rattle.cj_cluster.specs.History.Freshness.{touches_behind}

-- the base of a table
abbrev pub base_of : List Slot → List ℕ → Option Table
base_of db name = option_map (λ (s : Slot). s.base) (slot_of db name)

-- ---- queries

-- outside transactions the base is seen
seen_outside : (base : Table) (draft : Option Draft) → IfSome draft (λ d. (0 < d.tx) × IsTable d.table × (d.table.schema ≡ base.schema)) → seen_behind base 0 draft ≡ base
seen_outside base None h = refl
seen_outside base (Some d) h =
    let some : 0 < d.tx = h.0 in
    cond-false (d.tx == 0) d.table base (ne_eqb d.tx 0 (λ none. omega arith))

seen_found : (o : Option Slot) → IfSome o IsSlot → option_map (λ s. seen s 0) o ≡ option_map (λ (s : Slot). s.base) o
seen_found None h = refl
seen_found (Some s) h = ap (λ t. Some t) (seen_outside s.base s.draft h.draft)

none_based : (o : Option Slot) → is_none o ≡ is_none (option_map (λ (s : Slot). s.base) o)
none_based None = refl
none_based (Some s) = refl

module _ (a b : List Slot) (is : IsDatabase a) (also : IsDatabase b) (touched : List ℕ → Bool) (same : (name : List ℕ) → touched name ≡ false → base_of a name ≡ base_of b name) where
  -- what is seen of the tables, and whether one of them is missing
  names_same : (names : List (List ℕ)) → list_any touched names ≡ false
      → (tables_seen a 0 names ≡ tables_seen b 0 names) × (list_any (λ n. is_none (slot_of a n)) names ≡ list_any (λ n. is_none (slot_of b n)) names)
  names_same [] off = (refl, refl)
  names_same (n ∷ names) off =
      let parts = or_parts (touched n) (list_any touched names) off in
      let rest = names_same names parts.1 in
      let seen_alike = seen_found (slot_of a n) (found_is_slot a n is) ∙ same n parts.0 ∙ sym (seen_found (slot_of b n) (found_is_slot b n also)) in
      let none_alike = none_based (slot_of a n) ∙ ap is_none (same n parts.0) ∙ sym (none_based (slot_of b n)) in (
        ap (λ o. cons_option o (tables_seen a 0 names)) seen_alike ∙ ap (λ ts. cons_option (option_map (λ s. seen s 0) (slot_of b n)) ts) rest.0,
        ap (λ c. c || list_any (λ m. is_none (slot_of a m)) names) none_alike ∙ ap (λ c. is_none (slot_of b n) || c) rest.1,
      )

  -- databases with the same bases of the tables that a query needs answer it the same outside transactions
  pub ask_same : (s : Select) → list_any touched s.tables ≡ false → ask a 0 s ≡ ask b 0 s
  ask_same s off =
      let both = names_same s.tables off in
      ap (λ c. asked_by (refuse_if c (refusal_of_code NO_TABLE) (answer_over (tables_seen a 0 s.tables) s))) both.1
      ∙ ap (λ ts. asked_by (refuse_if (list_any (λ n. is_none (slot_of b n)) s.tables) (refusal_of_code NO_TABLE) (answer_over ts s))) both.0

-- ---- names

-- the order of two names doesn't matter
swapped : (x y : List ℕ) → bytes_eq x y ≡ bytes_eq y x
swapped x y = same_from_decides {P = x ≡ y} (bytes_eq x y) (bytes_eq y x) (bytes_eq-Decides x y)
    ((λ on. sym ((bytes_eq-Decides y x).0 on)), (λ same. (bytes_eq-Decides y x).1 (sym same)))

-- tests that agree find the same
found_agree : {A : Type 0} (p q : A → Bool) → ((x : A) → p x ≡ q x) → (xs : List A) → find p xs ≡ find q xs
found_agree p q same [] = refl
found_agree p q same (x ∷ xs) = ap (λ c. cond c (Some x) (find p xs)) (same x) ∙ ap (λ o. cond (q x) (Some x) o) (found_agree p q same xs)

module _ (name : List ℕ) where
  -- ---- acts on other tables

  -- one backend that hosts this table alone: an act on another table leaves its part
  abbrev alone : Placement
  alone = record { backends = 1; full = false; hostings = record { table = name; backend = 0 } ∷ [] }

  hosts_alone : (table : List ℕ) → hosts alone 0 table ≡ bytes_eq table name
  hosts_alone table = one (bytes_eq name table) ∙ swapped name table
    where
      one : (c : Bool) → ((c && true) || false) ≡ c
      one true = refl
      one false = refl

  base_elsewhere : (db : List Slot) (tx : ℕ) (a : Act) → IsElsewhere alone 0 a → base_of (acted db tx a).db name ≡ base_of db name
  base_elsewhere db tx a off =
      let here : hosts alone 0 name ≡ true = hosts_alone name ∙ (bytes_eq-Decides name name).1 refl in
      ap (option_map (λ (s : Slot). s.base)) (sym (found_in_part alone 0 (acted db tx a).db name here) ∙ ap (λ d. slot_of d name) (acted_elsewhere alone 0 db tx a off) ∙ found_in_part alone 0 db name here)

  -- ---- writes of transactions

  -- where a slot was put in
  found_put_in : (db : List Slot) (x : Slot) → slot_of (put_by by_table db x) name ≡ cond (bytes_eq (table_of x) name) (Some x) (slot_of db name)
  found_put_in db x =
      let q : Slot = empty_slot (record { table = name; columns = [] }) in
      let test : (y : Slot) → bytes_eq (table_of y) name ≡ is_eq (by_table q y) = λ y. swapped (table_of y) name ∙ sym (is_eq-by_table q y) in
      found_agree (λ y. bytes_eq (table_of y) name) (λ y. is_eq (by_table q y)) test (put_by by_table db x)
      ∙ found_put by_table by_table_total q db x
      ∙ ap (λ c. cond c (Some x) (find (λ y. is_eq (by_table q y)) db)) (sym (test x))
      ∙ ap (λ o. cond (bytes_eq (table_of x) name) (Some x) o) (sym (found_agree (λ y. bytes_eq (table_of y) name) (λ y. is_eq (by_table q y)) test db))

  -- one with the base that its table had
  base_put_in : (db : List Slot) (x : Slot) → base_of db (table_of x) ≡ Some x.base → base_of (put_by by_table db x) name ≡ base_of db name
  base_put_in db x there =
      ap (option_map (λ (s : Slot). s.base)) (found_put_in db x)
      ∙ cond_both (bytes_eq (table_of x) name) (Some x) (slot_of db name) (λ o. option_map (λ (s : Slot). s.base) o ≡ base_of db name)
      (λ here. sym (subst (λ n. base_of db n ≡ Some x.base) ((bytes_eq-Decides (table_of x) name).0 here) there))
      (λ _. refl)

  module _ (db : List Slot) (tx : ℕ) (some : tx ≢ 0) (w : Write) where
    base_write_done : (s : Slot) → base_of db (table_of s) ≡ Some s.base → (c : Changed) → base_of (write_done db s tx c).db name ≡ base_of db name
    base_write_done s there (Ok (rows, count)) =
        let t : Table = record { schema = s.base.schema; rows = rows } in
        let x : Slot = record { base = s.base; draft = Some (record { tx = tx; table = t }) } in
        ap (λ y. base_of (put_by by_table db y) name) (cond-false (tx == 0) (record { base = t; draft = s.draft }) x (ne_eqb tx 0 some)) ∙ base_put_in db x there
    base_write_done s there (Err refusal) = refl

    base_unless_locked : (s : Slot) → base_of db (table_of s) ≡ Some s.base → (o : Option ℕ) → base_of (write_unless_locked db s tx w o).db name ≡ base_of db name
    base_unless_locked s there None = base_write_done s there (change (seen s tx) w)
    base_unless_locked s there (Some other) = refl

    base_write_in : (o : Option Slot) → slot_of db (table_written w) ≡ o → IfSome o (λ s. table_of s ≡ table_written w) → base_of (write_in db tx w o).db name ≡ base_of db name
    base_write_in None is named = refl
    base_write_in (Some s) is named = base_unless_locked s (ap (base_of db) named ∙ ap (option_map (λ (t : Slot). t.base)) is) (other_writer tx s.draft)

    -- they leave each base
    base_written : base_of (written db tx w).db name ≡ base_of db name
    base_written = base_write_in (slot_of db (table_written w)) refl (found_name db (table_written w))

  -- ---- the end of a transaction

  -- what is found among changed slots, which keep their names
  found_changed : (f : Slot → Slot) → ((s : Slot) → IsSlot s → table_of (f s) ≡ table_of s) → (db : List Slot) → All IsSlot db → slot_of (map f db) name ≡ option_map f (slot_of db name)
  found_changed f keeps [] all = refl
  found_changed f keeps (s ∷ db) all =
      ap (λ n. cond (bytes_eq n name) (Some (f s)) (slot_of (map f db) name)) (keeps s (All-head IsSlot s db all))
      ∙ ap (λ o. cond (bytes_eq (table_of s) name) (Some (f s)) o) (found_changed f keeps db (All-tail IsSlot s db all))
      ∙ one (bytes_eq (table_of s) name) (slot_of db name)
    where
      one : (c : Bool) (o : Option Slot) → cond c (Some (f s)) (option_map f o) ≡ option_map f (cond c (Some s) o)
      one true o = refl
      one false o = refl

  -- where the change leaves the base of this table
  base_changed : (f : Slot → Slot) → ((s : Slot) → IsSlot s → table_of (f s) ≡ table_of s) → (db : List Slot) → IsDatabase db → IfSome (slot_of db name) (λ s. (f s).base ≡ s.base) → base_of (map f db) name ≡ base_of db name
  base_changed f keeps db is left = ap (option_map (λ (s : Slot). s.base)) (found_changed f keeps db is.slots) ∙ one (slot_of db name) left
    where
      one : (o : Option Slot) → IfSome o (λ s. (f s).base ≡ s.base) → option_map (λ (s : Slot). s.base) (option_map f o) ≡ option_map (λ (s : Slot). s.base) o
      one None h = refl
      one (Some s) h = ap (λ t. Some t) h

  -- a ROLLBACK leaves each base
  base_aborted : (tx : ℕ) (db : List Slot) → IsDatabase db → base_of (map (aborted tx) db) name ≡ base_of db name
  base_aborted tx db is =
      base_changed (aborted tx) (λ s p. abort_behind-name s.base tx s.draft) db is
      (found_All (λ s. (aborted tx s).base ≡ s.base) (λ s. bytes_eq (table_of s) name) db (λ k d lt. let s : Slot = get_or db k d in left s.base s.draft))
    where
      left : (base : Table) (draft : Option Draft) → (abort_behind base tx draft).base ≡ base
      left base None = refl
      left base (Some d) = cond_both (d.tx == tx) (record { base = base; draft = None }) (record { base = base; draft = Some d }) (λ (s : Slot). s.base ≡ base) (λ _. refl) (λ _. refl)

  -- ---- any act

  module _ (before : List Entry) (fits : AreFit before) where
    is_database : IsDatabase (database_of before)
    is_database = (run_storable before fits).database

    -- a COMMIT leaves the base of a table that its transaction didn't write, since it has no draft of it
    base_committed : (tx : ℕ) → has_written name tx before ≡ false → base_of (map (committed tx) (database_of before)) name ≡ base_of (database_of before) name
    base_committed tx off =
        base_changed (committed tx) (λ s p. commit_behind-name s.base tx s.draft p.draft) (database_of before) is_database
        (one (slot_of (database_of before) name) (found_name (database_of before) name) (found_All (IsDrafted before) (λ s. bytes_eq (table_of s) name) (database_of before) (all_drafted before fits)))
      where
        left : (s : Slot) → table_of s ≡ name → (draft : Option Draft) → IfSome draft (λ (d : Draft). OpenWriter before (table_of s) d.tx) → (commit_behind s.base tx draft).base ≡ s.base
        left s named None h = refl
        left s named (Some d) h =
            let other : d.tx ≢ tx = λ same. both_ways (has_written name tx before) off (subst (λ n. has_written n tx before ≡ true) named (subst (λ t. has_written (table_of s) t before ≡ true) same h.wrote)) in
            ap (λ (t : Slot). t.base) (cond-false (d.tx == tx) (record { base = d.table; draft = None }) (record { base = s.base; draft = Some d }) (ne_eqb d.tx tx other))

        one : (o : Option Slot) → IfSome o (λ s. table_of s ≡ name) → IfSome o (IsDrafted before) → IfSome o (λ s. (committed tx s).base ≡ s.base)
        one None named h = tt
        one (Some s) named h = left s named s.draft h

    -- the base of a table that the act doesn't touch stays
    pub base_untouched : (tx : ℕ) (a : Act) → touches_behind before tx a name ≡ false → base_of (acted (database_of before) tx a).db name ≡ base_of (database_of before) name
    base_untouched tx act.Begin off = refl
    base_untouched tx (act.Write w) off = ⊎_elim
        (λ (inside : (tx == 0) ≡ false). base_written (database_of before) tx (eqb-false tx 0 inside) w)
        (λ (other : bytes_eq (table_written w) name ≡ false). base_elsewhere (database_of before) tx (act.Write w) (hosts_alone (table_written w) ∙ other))
        (and_cases (tx == 0) (bytes_eq (table_written w) name) off)
    base_untouched tx (act.Create c) off = base_elsewhere (database_of before) tx (act.Create c) (hosts_alone c.table ∙ off)
    base_untouched tx (act.Drop table) off = base_elsewhere (database_of before) tx (act.Drop table) (hosts_alone table ∙ off)
    base_untouched tx act.Commit off = base_committed tx off
    base_untouched tx act.Abort off = base_aborted tx (database_of before) is_database
