-- What a backend holds of a database: acts on its tables do to its part what they do to the whole, and queries over them are answered the same.
use Rattle.std.proofs.Common.{◌≡◌, ℕ, Bool, true, false, cond, not, ◌||◌, List, [], ◌∷◌, map, refl, ap, sym, ◌∙◌, subst, Equal, is_eq}
use Rattle.std.specs.Prelude.{IfSome, is_some, is_none, option_map}
use Rattle.std.specs.declared.option.Option.{Option}
use Rattle.std.specs.declared.option.Option.TheVariants.{None, Some}
use Rattle.std.specs.declared.result.Result.TheVariants.{Ok, Err}
use Rattle.std.proofs.lemmas.Bool.{and_parts, cond_both, not-false}
use Rattle.std.proofs.lemmas.Slice.Eq.{bytes_eq-Decides}
use Rattle.cj_model.proofs.Common.{Act, All-filter, Changed, Create, Draft, Select, Slot, Table, Write, answer_over, ask, asked_by, bytes_eq, change, cons_option, list_any, refusal_of_code, refuse_if, tables_seen}
use Rattle.cj_model.specs.declared.answer.Outcome.TheVariants.{Done}
use Rattle.cj_model.specs.declared.request.Act.TheVariants as act
use Rattle.cj_model.specs.declared.codes.TheConstants.{NO_TABLE, TABLE_EXISTS, BAD_COLUMNS}
use Rattle.cj_model.specs.Database.Tables.{IsSlot, IsDatabase, by_table, table_of, slot_of, put_by}
use Rattle.cj_model.specs.Database.Storable.{IsStorableSlot, IsStorable}
use Rattle.cj_model.specs.Cluster.Placements.{Placement, hosts, hosts_all, part}
use Rattle.cj_model.specs.Database.Steps.{Stepped, refuse, seen, other_writer, with_table, table_written, write_done, write_unless_locked, write_in, written, make_schema, empty_slot, created, drop_unless_locked, drop_in, dropped, committed, aborted, acted}
use Rattle.cj_model.proofs.RisingLaws.{rises_filter}
use Rattle.cj_model.proofs.FilterLaws.{found_passes, find-filter, filter-map, filter_swap, filter_after, filter-put_goes, filter-put_stays}
use Rattle.cj_model.proofs.DatabaseLaws.{by_table_total, is_eq-by_table, with_table-name, commit_behind-name, abort_behind-name}

-- what is found by a name has it
pub found_name : (db : List Slot) (name : List ℕ) → IfSome (slot_of db name) (λ s. table_of s ≡ name)
found_name db name = one (slot_of db name) (found_passes (λ s. bytes_eq (table_of s) name) db)
  where
    one : (o : Option Slot) → IfSome o (λ s. bytes_eq (table_of s) name ≡ true) → IfSome o (λ s. table_of s ≡ name)
    one None h = tt
    one (Some s) h = (bytes_eq-Decides (table_of s) name).0 h

module _ (p : Placement) (b : ℕ) where
  -- the backend hosts the table of a slot
  abbrev hosted : Slot → Bool
  hosted s = hosts p b (table_of s)

  -- slots that stand at one place are of one table
  tied : (s t : Slot) → by_table s t ≡ Equal → hosted s ≡ hosted t
  tied s t e = ap (hosts p b) ((bytes_eq-Decides (table_of s) (table_of t)).0 (sym (is_eq-by_table s t) ∙ ap is_eq e))

  -- ---- the part by itself

  -- a database
  pub part_is_database : (db : List Slot) → IsDatabase db → IsDatabase (part p b db)
  part_is_database db is = record { slots = All-filter hosted IsSlot db is.slots; rises = rises_filter by_table hosted db is.rises }

  -- one that can be dumped and loaded
  pub part_is_storable : (db : List Slot) → IsStorable db → IsStorable (part p b db)
  part_is_storable db is = record { database = part_is_database db is.database; slots = All-filter hosted IsStorableSlot db is.slots }

  -- a table that is hosted is in it as in the whole
  pub found_in_part : (db : List Slot) (name : List ℕ) → hosts p b name ≡ true → slot_of (part p b db) name ≡ slot_of db name
  found_in_part db name on = find-filter hosted (λ s. bytes_eq (table_of s) name) (λ s e. ap (hosts p b) ((bytes_eq-Decides (table_of s) name).0 e) ∙ on) db

  -- ---- queries

  -- its tables are seen as in the whole
  seen_in_part : (db : List Slot) (tx : ℕ) (names : List (List ℕ)) → hosts_all p b names ≡ true → tables_seen (part p b db) tx names ≡ tables_seen db tx names
  seen_in_part db tx [] on = refl
  seen_in_part db tx (n ∷ names) on =
      let both = and_parts (hosts p b n) (hosts_all p b names) on in
      ap (λ o. cons_option (option_map (λ s. seen s tx) o) (tables_seen (part p b db) tx names)) (found_in_part db n both.0)
      ∙ ap (λ ts. cons_option (option_map (λ s. seen s tx) (slot_of db n)) ts) (seen_in_part db tx names both.1)

  -- one of the names is missing in both or in neither
  missing_in_part : (db : List Slot) (names : List (List ℕ)) → hosts_all p b names ≡ true
      → list_any (λ n. is_none (slot_of (part p b db) n)) names ≡ list_any (λ n. is_none (slot_of db n)) names
  missing_in_part db [] on = refl
  missing_in_part db (n ∷ names) on =
      let both = and_parts (hosts p b n) (hosts_all p b names) on in
      ap (λ o. is_none o || (list_any (λ m. is_none (slot_of (part p b db) m)) names)) (found_in_part db n both.0)
      ∙ ap (λ c. is_none (slot_of db n) || c) (missing_in_part db names both.1)

  -- a query over hosted tables is answered as by the whole
  pub ask_part : (db : List Slot) (tx : ℕ) (s : Select) → hosts_all p b s.tables ≡ true → ask (part p b db) tx s ≡ ask db tx s
  ask_part db tx s on =
      ap (λ c. asked_by (refuse_if c (refusal_of_code NO_TABLE) (answer_over (tables_seen (part p b db) tx s.tables) s))) (missing_in_part db s.tables on)
      ∙ ap (λ ts. asked_by (refuse_if (list_any (λ n. is_none (slot_of db n)) s.tables) (refusal_of_code NO_TABLE) (answer_over ts s))) (seen_in_part db tx s.tables on)

  -- ---- acts on hosted tables

  -- a step of the whole and one of the part leave the part the same, and come to the same
  abbrev pub SameAtPart : Stepped → Stepped → Type 0
  SameAtPart whole held = (part p b whole.db ≡ held.db) × (held.outcome ≡ whole.outcome)

  -- a slot of a hosted table is put in
  put_hosted : (db : List Slot) (s : Slot) → IsDatabase db → hosted s ≡ true → part p b (put_by by_table db s) ≡ put_by by_table (part p b db) s
  put_hosted db s is on = filter-put_stays hosted by_table tied by_table_total s on db is.rises

  -- what a write that was carried out leaves
  write_done_hosted : (db : List Slot) (s : Slot) (tx : ℕ) (c : Changed) → IsDatabase db → hosted s ≡ true → SameAtPart (write_done db s tx c) (write_done (part p b db) s tx c)
  write_done_hosted db s tx (Ok (rows, count)) is on =
      let t : Table = record { schema = s.base.schema; rows = rows } in
      (put_hosted db (with_table s tx t) is (ap (hosts p b) (with_table-name s tx t refl) ∙ on), refl)
  write_done_hosted db s tx (Err refusal) is on = (refl, refl)

  -- where no other transaction has a draft
  write_unless_locked_hosted : (db : List Slot) (s : Slot) (tx : ℕ) (w : Write) (o : Option ℕ) → IsDatabase db → hosted s ≡ true
      → SameAtPart (write_unless_locked db s tx w o) (write_unless_locked (part p b db) s tx w o)
  write_unless_locked_hosted db s tx w None is on = write_done_hosted db s tx (change (seen s tx) w) is on
  write_unless_locked_hosted db s tx w (Some other) is on = (refl, refl)

  -- where the table is found
  write_in_hosted : (db : List Slot) (tx : ℕ) (w : Write) (found : Option Slot) → IsDatabase db → IfSome found (λ s. hosted s ≡ true) → SameAtPart (write_in db tx w found) (write_in (part p b db) tx w found)
  write_in_hosted db tx w None is on = (refl, refl)
  write_in_hosted db tx w (Some s) is on = write_unless_locked_hosted db s tx w (other_writer tx s.draft) is on

  -- what is found by a hosted name is hosted
  found_hosted : (db : List Slot) (name : List ℕ) (c : Bool) → hosts p b name ≡ c → IfSome (slot_of db name) (λ s. hosted s ≡ c)
  found_hosted db name c on = one (slot_of db name) (found_name db name)
    where
      one : (o : Option Slot) → IfSome o (λ s. table_of s ≡ name) → IfSome o (λ s. hosted s ≡ c)
      one None h = tt
      one (Some s) h = ap (hosts p b) h ∙ on

  -- a write to a hosted table
  pub written_hosted : (db : List Slot) (tx : ℕ) (w : Write) → IsDatabase db → hosts p b (table_written w) ≡ true → SameAtPart (written db tx w) (written (part p b db) tx w)
  written_hosted db tx w is on =
      subst (λ o. SameAtPart (written db tx w) (write_in (part p b db) tx w o)) (sym (found_in_part db (table_written w) on))
      (write_in_hosted db tx w (slot_of db (table_written w)) is (found_hosted db (table_written w) true on))

  -- a CREATE of one
  pub created_hosted : (db : List Slot) (c : Create) → IsDatabase db → hosts p b c.table ≡ true → SameAtPart (created db c) (created (part p b db) c)
  created_hosted db c is on =
      subst (λ o. SameAtPart (created db c) (by (part p b db) (is_some o) (make_schema c.columns))) (sym (found_in_part db c.table on))
      (same (is_some (slot_of db c.table)) (make_schema c.columns))
    where
      by : List Slot → Bool → Bool → Stepped
      by x there fits = cond there (refuse x (refusal_of_code TABLE_EXISTS)) (cond fits (record { db = put_by by_table x (empty_slot c); outcome = Done 0 }) (refuse x (refusal_of_code BAD_COLUMNS)))

      same : (there fits : Bool) → SameAtPart (by db there fits) (by (part p b db) there fits)
      same true fits = (refl, refl)
      same false true = (put_hosted db (empty_slot c) is on, refl)
      same false false = (refl, refl)

  -- where no transaction has a draft of it
  drop_unless_locked_hosted : (db : List Slot) (name : List ℕ) (draft : Option Draft) → SameAtPart (drop_unless_locked db name draft) (drop_unless_locked (part p b db) name draft)
  drop_unless_locked_hosted db name None = (filter_swap hosted (λ s. not (bytes_eq (table_of s) name)) db, refl)
  drop_unless_locked_hosted db name (Some d) = (refl, refl)

  -- where the table of a DROP is found
  drop_in_hosted : (db : List Slot) (name : List ℕ) (found : Option Slot) → SameAtPart (drop_in db name found) (drop_in (part p b db) name found)
  drop_in_hosted db name None = (refl, refl)
  drop_in_hosted db name (Some s) = drop_unless_locked_hosted db name s.draft

  -- a DROP of a hosted table
  pub dropped_hosted : (db : List Slot) (name : List ℕ) → hosts p b name ≡ true → SameAtPart (dropped db name) (dropped (part p b db) name)
  dropped_hosted db name on =
      subst (λ o. SameAtPart (dropped db name) (drop_in (part p b db) name o)) (sym (found_in_part db name on)) (drop_in_hosted db name (slot_of db name))

  -- COMMIT does to the part what it does to the whole
  pub committed_part : (db : List Slot) (tx : ℕ) → IsDatabase db → part p b (map (committed tx) db) ≡ map (committed tx) (part p b db)
  committed_part db tx is = filter-map hosted IsSlot (committed tx) (λ s h. ap (hosts p b) (commit_behind-name s.base tx s.draft h.draft)) db is.slots

  -- ROLLBACK does to the part what it does to the whole
  pub aborted_part : (db : List Slot) (tx : ℕ) → IsDatabase db → part p b (map (aborted tx) db) ≡ map (aborted tx) (part p b db)
  aborted_part db tx is = filter-map hosted IsSlot (aborted tx) (λ s h. ap (hosts p b) (abort_behind-name s.base tx s.draft)) db is.slots

  -- the table that the act names, if it names one, is hosted
  abbrev pub IsHosted : Act → Type 0
  IsHosted act.Begin = Unit {0}
  IsHosted (act.Write w) = hosts p b (table_written w) ≡ true
  IsHosted (act.Create c) = hosts p b c.table ≡ true
  IsHosted (act.Drop name) = hosts p b name ≡ true
  IsHosted act.Commit = Unit {0}
  IsHosted act.Abort = Unit {0}

  -- any act whose tables are hosted, and BEGIN, COMMIT and ABORT
  pub acted_hosted : (db : List Slot) (tx : ℕ) (a : Act) → IsDatabase db → IsHosted a → SameAtPart (acted db tx a) (acted (part p b db) tx a)
  acted_hosted db tx act.Begin is on = (refl, refl)
  acted_hosted db tx (act.Write w) is on = written_hosted db tx w is on
  acted_hosted db tx (act.Create c) is on = created_hosted db c is on
  acted_hosted db tx (act.Drop name) is on = dropped_hosted db name on
  acted_hosted db tx act.Commit is on = (committed_part db tx is, refl)
  acted_hosted db tx act.Abort is on = (aborted_part db tx is, refl)

  -- ---- acts on other tables

  -- a slot of a table that is not hosted is put in
  put_elsewhere : (db : List Slot) (s : Slot) → hosted s ≡ false → part p b (put_by by_table db s) ≡ part p b db
  put_elsewhere db s off = filter-put_goes hosted by_table tied s off db

  -- what a write that was carried out leaves of the part
  write_done_elsewhere : (db : List Slot) (s : Slot) (tx : ℕ) (c : Changed) → hosted s ≡ false → part p b (write_done db s tx c).db ≡ part p b db
  write_done_elsewhere db s tx (Ok (rows, count)) off =
      let t : Table = record { schema = s.base.schema; rows = rows } in
      put_elsewhere db (with_table s tx t) (ap (hosts p b) (with_table-name s tx t refl) ∙ off)
  write_done_elsewhere db s tx (Err refusal) off = refl

  -- where no other transaction has a draft of it
  write_unless_locked_elsewhere : (db : List Slot) (s : Slot) (tx : ℕ) (w : Write) (o : Option ℕ) → hosted s ≡ false → part p b (write_unless_locked db s tx w o).db ≡ part p b db
  write_unless_locked_elsewhere db s tx w None off = write_done_elsewhere db s tx (change (seen s tx) w) off
  write_unless_locked_elsewhere db s tx w (Some other) off = refl

  -- where the other table is found
  write_in_elsewhere : (db : List Slot) (tx : ℕ) (w : Write) (found : Option Slot) → IfSome found (λ s. hosted s ≡ false) → part p b (write_in db tx w found).db ≡ part p b db
  write_in_elsewhere db tx w None off = refl
  write_in_elsewhere db tx w (Some s) off = write_unless_locked_elsewhere db s tx w (other_writer tx s.draft) off

  -- a write to another table
  pub written_elsewhere : (db : List Slot) (tx : ℕ) (w : Write) → hosts p b (table_written w) ≡ false → part p b (written db tx w).db ≡ part p b db
  written_elsewhere db tx w off = write_in_elsewhere db tx w (slot_of db (table_written w)) (found_hosted db (table_written w) false off)

  -- a CREATE of one
  pub created_elsewhere : (db : List Slot) (c : Create) → hosts p b c.table ≡ false → part p b (created db c).db ≡ part p b db
  created_elsewhere db c off =
      cond_both (is_some (slot_of db c.table)) _ _ (λ (s : Stepped). part p b s.db ≡ part p b db) (λ _. refl)
      (λ _. cond_both (make_schema c.columns) _ _ (λ (s : Stepped). part p b s.db ≡ part p b db) (λ _. put_elsewhere db (empty_slot c) off) (λ _. refl))

  -- a DROP, where the other table is found
  drop_in_elsewhere : (db : List Slot) (name : List ℕ) (found : Option Slot) → hosts p b name ≡ false → part p b (drop_in db name found).db ≡ part p b db
  drop_in_elsewhere db name None off = refl
  drop_in_elsewhere db name (Some s) off = unlocked s.draft
    where
      other : (t : Slot) → not (bytes_eq (table_of t) name) ≡ false → hosted t ≡ false
      other t e = ap (hosts p b) ((bytes_eq-Decides (table_of t) name).0 (not-false (bytes_eq (table_of t) name) e)) ∙ off

      unlocked : (draft : Option Draft) → part p b (drop_unless_locked db name draft).db ≡ part p b db
      unlocked None = filter_after hosted (λ t. not (bytes_eq (table_of t) name)) other db
      unlocked (Some d) = refl

  -- a DROP of a table that is not hosted
  pub dropped_elsewhere : (db : List Slot) (name : List ℕ) → hosts p b name ≡ false → part p b (dropped db name).db ≡ part p b db
  dropped_elsewhere db name off = drop_in_elsewhere db name (slot_of db name) off

  -- the act names a table, which is not hosted
  abbrev pub IsElsewhere : Act → Type 0
  IsElsewhere act.Begin = ⊥
  IsElsewhere (act.Write w) = hosts p b (table_written w) ≡ false
  IsElsewhere (act.Create c) = hosts p b c.table ≡ false
  IsElsewhere (act.Drop name) = hosts p b name ≡ false
  IsElsewhere act.Commit = ⊥
  IsElsewhere act.Abort = ⊥

  -- any act on a table that is not hosted leaves the part
  pub acted_elsewhere : (db : List Slot) (tx : ℕ) (a : Act) → IsElsewhere a → part p b (acted db tx a).db ≡ part p b db
  acted_elsewhere db tx act.Begin off = absurd off
  acted_elsewhere db tx (act.Write w) off = written_elsewhere db tx w off
  acted_elsewhere db tx (act.Create c) off = created_elsewhere db c off
  acted_elsewhere db tx (act.Drop name) off = dropped_elsewhere db name off
  acted_elsewhere db tx act.Commit off = absurd off
  acted_elsewhere db tx act.Abort off = absurd off
