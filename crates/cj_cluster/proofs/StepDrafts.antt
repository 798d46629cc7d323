-- Drafts: what each act leaves of them, and that the end of a transaction without any leaves the database.
use Rattle.std.proofs.Common.{◌≡◌, ◌≢◌, ℕ, eqb, not, List, map, All, Option, None, Some, IfSome, Ok, Err, is_some, sym, refl, subst}
use Rattle.std.proofs.lemmas.Bool.{cond_both, cond-false, eqb-false, ne_eqb}
use Rattle.std.proofs.lemmas.List.Elements.{All-map, All-weaker, All-filter}
use Rattle.cj_cluster.proofs.Common.{Draft, Slot, Write, bytes_eq}
use Rattle.cj_model.specs.declared.schema.Create.{Create}
use Rattle.cj_model.specs.declared.database.Table.{Table}
use Rattle.cj_model.specs.Database.Tables.{by_table, table_of, slot_of}
use Rattle.cj_model.specs.Database.Inserts.{Changed}
use Rattle.cj_model.specs.Database.Updates.{change}
use Rattle.cj_model.specs.Database.Steps.{Stepped, seen, other_writer, with_table, table_written, write_done, write_unless_locked, write_in, written, make_schema, empty_slot, created, drop_unless_locked, drop_in, dropped, commit_behind, committed, abort_behind, aborted}
use Rattle.cj_model.proofs.RisingLaws.{all_put, found_All}
use Rattle.cj_model.proofs.FilterLaws.{map_same}
use Rattle.cj_model.proofs.PartLaws.{found_name}

-- the slot's draft, if there is one, is by a transaction that may have one of the table
abbrev pub HasDraftBy : (List ℕ → ℕ → Type 0) → Slot → Type 0
HasDraftBy May s = IfSome s.draft (λ (d : Draft). May (table_of s) d.tx)

-- ---- writes, CREATE and DROP

module _ (May : List ℕ → ℕ → Type 0) where
  module _ (tx : ℕ) (w : Write) (own : tx ≢ 0 → May (table_written w) tx) where
    -- the slot that a write changed
    with_table_drafts : (s : Slot) (rows : List (List _)) → table_of s ≡ table_written w → HasDraftBy May s → HasDraftBy May (with_table s tx (record { schema = s.base.schema; rows = rows }))
    with_table_drafts s rows name is =
        let t : Table = record { schema = s.base.schema; rows = rows } in
        cond_both (eqb tx 0) (record { base = t; draft = s.draft }) (record { base = s.base; draft = Some (record { tx = tx; table = t }) }) (HasDraftBy May) (λ _. is)
        (λ other. subst (λ n. May n tx) (sym name) (own (eqb-false tx 0 other)))

    -- what a write that was carried out leaves
    write_done_drafts : (db : List Slot) (s : Slot) (c : Changed) → All (HasDraftBy May) db → table_of s ≡ table_written w → HasDraftBy May s → All (HasDraftBy May) (write_done db s tx c).db
    write_done_drafts db s (Ok (rows, count)) all name is = all_put by_table (HasDraftBy May) db _ all (with_table_drafts s rows name is)
    write_done_drafts db s (Err refusal) all name is = all

    -- where no other transaction has a draft
    write_unless_locked_drafts : (db : List Slot) (s : Slot) (o : Option ℕ) → All (HasDraftBy May) db → table_of s ≡ table_written w → HasDraftBy May s → All (HasDraftBy May) (write_unless_locked db s tx w o).db
    write_unless_locked_drafts db s None all name is = write_done_drafts db s (change (seen s tx) w) all name is
    write_unless_locked_drafts db s (Some other) all name is = all

    -- where the table is found
    write_in_drafts : (db : List Slot) (found : Option Slot) → All (HasDraftBy May) db → IfSome found (λ s. table_of s ≡ table_written w) → IfSome found (HasDraftBy May) → All (HasDraftBy May) (write_in db tx w found).db
    write_in_drafts db None all name is = all
    write_in_drafts db (Some s) all name is = write_unless_locked_drafts db s (other_writer tx s.draft) all name is

    -- a write leaves the drafts and its own
    pub written_drafts : (db : List Slot) → All (HasDraftBy May) db → All (HasDraftBy May) (written db tx w).db
    written_drafts db all =
        write_in_drafts db (slot_of db (table_written w)) all (found_name db (table_written w)) (found_All (HasDraftBy May) (λ s. bytes_eq (table_of s) (table_written w)) db all)

  -- a new table has no draft
  pub created_drafts : (db : List Slot) (c : Create) → All (HasDraftBy May) db → All (HasDraftBy May) (created db c).db
  created_drafts db c all = cond_both (is_some (slot_of db c.table)) _ _ (λ (s : Stepped). All (HasDraftBy May) s.db) (λ _. all)
      (λ _. cond_both (make_schema c.columns) _ _ (λ (s : Stepped). All (HasDraftBy May) s.db) (λ _. all_put by_table (HasDraftBy May) db (empty_slot c) all tt) (λ _. all))

  -- where the table of a DROP is found
  drop_in_drafts : (db : List Slot) (name : List ℕ) (found : Option Slot) → All (HasDraftBy May) db → All (HasDraftBy May) (drop_in db name found).db
  drop_in_drafts db name None all = all
  drop_in_drafts db name (Some s) all = unlocked s.draft
    where
      unlocked : (draft : Option Draft) → All (HasDraftBy May) (drop_unless_locked db name draft).db
      unlocked None = All-filter (λ t. not (bytes_eq (table_of t) name)) (HasDraftBy May) db all
      unlocked (Some d) = all

  -- the other tables keep theirs
  pub dropped_drafts : (db : List Slot) (name : List ℕ) → All (HasDraftBy May) db → All (HasDraftBy May) (dropped db name).db
  dropped_drafts db name all = drop_in_drafts db name (slot_of db name) all

-- drafts by transactions that may have them for another reason too
pub drafts_weaker : (May Might : List ℕ → ℕ → Type 0) → ((table : List ℕ) (tx : ℕ) → May table tx → Might table tx) → (db : List Slot) → All (HasDraftBy May) db → All (HasDraftBy Might) db
drafts_weaker May Might weaker db all = All-weaker (HasDraftBy May) (HasDraftBy Might) (λ s. one s s.draft) db all
  where
    one : (s : Slot) (draft : Option Draft) → IfSome draft (λ (d : Draft). May (table_of s) d.tx) → IfSome draft (λ (d : Draft). Might (table_of s) d.tx)
    one s None h = tt
    one s (Some d) h = weaker (table_of s) d.tx h

-- ---- the end of a transaction

module _ (May Might : List ℕ → ℕ → Type 0) (tx : ℕ) (stays : (table : List ℕ) (other : ℕ) → May table other → other ≢ tx → Might table other) where
  -- a slot after COMMIT
  commit_drafts : (base : Table) (draft : Option Draft) → IfSome draft (λ (d : Draft). May base.schema.table d.tx) → HasDraftBy Might (commit_behind base tx draft)
  commit_drafts base None h = tt
  commit_drafts base (Some d) h = cond_both (eqb d.tx tx) (record { base = d.table; draft = None }) (record { base = base; draft = Some d }) (HasDraftBy Might) (λ _. tt)
      (λ ne. stays base.schema.table d.tx h (eqb-false d.tx tx ne))

  -- a slot after ROLLBACK
  abort_drafts : (base : Table) (draft : Option Draft) → IfSome draft (λ (d : Draft). May base.schema.table d.tx) → HasDraftBy Might (abort_behind base tx draft)
  abort_drafts base None h = tt
  abort_drafts base (Some d) h = cond_both (eqb d.tx tx) (record { base = base; draft = None }) (record { base = base; draft = Some d }) (HasDraftBy Might) (λ _. tt)
      (λ ne. stays base.schema.table d.tx h (eqb-false d.tx tx ne))

  -- COMMIT leaves the drafts of other transactions
  pub committed_drafts : (db : List Slot) → All (HasDraftBy May) db → All (HasDraftBy Might) (map (committed tx) db)
  committed_drafts db all =
      All-map (HasDraftBy Might) (committed tx) db (All-weaker (HasDraftBy May) (λ s. HasDraftBy Might (committed tx s)) (λ s h. commit_drafts s.base s.draft h) db all)

  -- and so does ROLLBACK
  pub aborted_drafts : (db : List Slot) → All (HasDraftBy May) db → All (HasDraftBy Might) (map (aborted tx) db)
  aborted_drafts db all =
      All-map (HasDraftBy Might) (aborted tx) db (All-weaker (HasDraftBy May) (λ s. HasDraftBy Might (aborted tx s)) (λ s h. abort_drafts s.base s.draft h) db all)

module _ (tx : ℕ) where
  -- drafts of other transactions
  abbrev pub IsOther : List ℕ → ℕ → Type 0
  IsOther table other = other ≢ tx

  -- COMMIT leaves such a slot
  commit_other : (base : Table) (draft : Option Draft) → IfSome draft (λ (d : Draft). d.tx ≢ tx) → commit_behind base tx draft ≡ record { base = base; draft = draft }
  commit_other base None h = refl
  commit_other base (Some d) h = cond-false (eqb d.tx tx) (record { base = d.table; draft = None }) (record { base = base; draft = Some d }) (ne_eqb d.tx tx h)

  -- and so does ROLLBACK
  abort_other : (base : Table) (draft : Option Draft) → IfSome draft (λ (d : Draft). d.tx ≢ tx) → abort_behind base tx draft ≡ record { base = base; draft = draft }
  abort_other base None h = refl
  abort_other base (Some d) h = cond-false (eqb d.tx tx) (record { base = base; draft = None }) (record { base = base; draft = Some d }) (ne_eqb d.tx tx h)

  -- so where the transaction has no draft, its COMMIT leaves the database
  pub committed_other : (db : List Slot) → All (HasDraftBy IsOther) db → map (committed tx) db ≡ db
  committed_other db all = map_same (committed tx) db (All-weaker (HasDraftBy IsOther) (λ s. committed tx s ≡ s) (λ s. commit_other s.base s.draft) db all)

  -- and its ROLLBACK does
  pub aborted_other : (db : List Slot) → All (HasDraftBy IsOther) db → map (aborted tx) db ≡ db
  aborted_other db all = map_same (aborted tx) db (All-weaker (HasDraftBy IsOther) (λ s. aborted tx s ≡ s) (λ s. abort_other s.base s.draft) db all)
