-- Drafts of a log's database: each is of an open transaction that wrote its table. What is there can be dumped and loaded.
use Rattle.std.proofs.Common.{◌≡◌, ◌≢◌, ℕ, ◌==◌, Bool, true, false, ◌&&◌, List, [], ◌∷◌, ◌++◌, All, refl, ap, sym, ◌∙◌, subst, ⊎_elim}
use Rattle.std.proofs.lemmas.Bool.{eq-eqb, and_from, or_left, or_right}
use Rattle.std.proofs.lemmas.List.Elements.{All-nil}
use Rattle.std.proofs.lemmas.Slice.Eq.{bytes_eq-Decides}
use Rattle.cj_cluster.proofs.Common.{Act, Entry, FitsTx, IsAdministratorEntry, IsFitEntry, IsSessionEntry, Slot, Write, database_of, fold-append, list_any, list_any-append, tx_of}
use Rattle.cj_model.specs.declared.request.Act.TheVariants as act
use Rattle.cj_model.specs.Database.Steps.{table_written, acted, step}
use Rattle.cj_cluster.specs.History.Transactions.{AreFit, is_begin, is_end, is_write_of, has_written}
use Rattle.cj_model.specs.Database.Storable.{IsStorable}
use Rattle.cj_model.proofs.StorableLaws.{empty_storable, acted_storable}
use Rattle.cj_cluster.proofs.StepDrafts.{HasDraftBy, drafts_weaker, written_drafts, created_drafts, dropped_drafts, committed_drafts, aborted_drafts}
use Rattle.cj_cluster.proofs.TransactionLaws.{by_fit_entries, tx_of_begin_other, tx_of_end_other, tx_of_else}

-- an open transaction that wrote a table
pub record OpenWriter (entries : List Entry) (table : List ℕ) (tx : ℕ) : Type 0 where
  pub session : ℕ
  pub is_open : tx_of entries session ≡ tx
  pub some : tx ≢ 0
  pub wrote : has_written table tx entries ≡ true

-- the slot's draft, if there is one, is of an open transaction that wrote the table
abbrev pub IsDrafted : List Entry → Slot → Type 0
IsDrafted entries s = HasDraftBy (OpenWriter entries) s

-- ---- what a fit entry says of transactions

-- a BEGIN comes where the session has no transaction open
pub begins_free : (before : List Entry) (e : Entry) → IsFitEntry before e → e.act ≡ act.Begin → tx_of before e.session ≡ 0
begins_free before e fit is =
    ⊎_elim (λ (o : IsSessionEntry before e). (subst (FitsTx (tx_of before e.session) e.tx) is o.tx).1)
    (λ (a : IsAdministratorEntry before e). let bad : act.Begin ≡ act.Abort = sym is ∙ a.aborts in absurd (cc bad)) fit.by

-- a write within a transaction is within its session's open one
pub writes_within : (before : List Entry) (e : Entry) (w : Write) → IsFitEntry before e → e.act ≡ act.Write w → e.tx ≢ 0 → tx_of before e.session ≡ e.tx
writes_within before e w fit is some =
    ⊎_elim (λ (o : IsSessionEntry before e). ⊎_elim (λ (z : e.tx ≡ 0). absurd (some z)) (λ (same : e.tx ≡ tx_of before e.session). sym same) (subst (FitsTx (tx_of before e.session) e.tx) is o.tx))
    (λ (a : IsAdministratorEntry before e). let bad : act.Write w ≡ act.Abort = sym is ∙ a.aborts in absurd (cc bad)) fit.by

module _ (before : List Entry) (e : Entry) where
  -- the entries with this one
  abbrev after : List Entry
  after = before ++ e ∷ []

  -- what was written stays written
  still_written : (table : List ℕ) (tx : ℕ) → has_written table tx before ≡ true → has_written table tx after ≡ true
  still_written table tx h =
      let test : Entry → Bool = λ (d : Entry). d.tx == tx && is_write_of table d.act in
      list_any-append test before (e ∷ []) ∙ or_left (list_any test before) (list_any test (e ∷ [])) h

  -- a writer whose transaction stays open
  still_open : (table : List ℕ) (tx : ℕ) (o : OpenWriter before table tx) → tx_of after o.session ≡ tx_of before o.session → OpenWriter after table tx
  still_open table tx o same = record { session = o.session; is_open = same ∙ o.is_open; some = o.some; wrote = still_written table tx o.wrote }

  -- drafts where every transaction stays open
  all_still : (db : List Slot) → ((s : ℕ) → tx_of after s ≡ tx_of before s) → All (IsDrafted before) db → All (IsDrafted after) db
  all_still db same all = drafts_weaker (OpenWriter before) (OpenWriter after) (λ table tx o. still_open table tx o (same o.session)) db all

  -- ---- one more entry

  -- the writer itself
  own_writer : (w : Write) → IsFitEntry before e → e.act ≡ act.Write w → e.tx ≢ 0 → OpenWriter after (table_written w) e.tx
  own_writer w fit is some =
      let test : Entry → Bool = λ (d : Entry). d.tx == e.tx && is_write_of (table_written w) d.act in
      let here : is_write_of (table_written w) e.act ≡ true = ap (is_write_of (table_written w)) is ∙ (bytes_eq-Decides (table_written w) (table_written w)).1 refl in
      let last : list_any test (e ∷ []) ≡ true = or_left (test e) false (and_from (e.tx == e.tx) (is_write_of (table_written w) e.act) (eq-eqb e.tx e.tx refl) here) in
      record {
        session = e.session;
        is_open = tx_of_else before e e.session (ap is_begin is) (ap is_end is) ∙ writes_within before e w fit is some;
        some = some;
        wrote = list_any-append test before (e ∷ []) ∙ or_right (list_any test before) (list_any test (e ∷ [])) last;
      }

  -- a draft that stays is of a transaction that stays open
  other_stays : is_end e.act ≡ true → (table : List ℕ) (tx : ℕ) (o : OpenWriter before table tx) → tx ≢ e.tx → OpenWriter after table tx
  other_stays ends table tx o ne = still_open table tx o (tx_of_end_other before e o.session ends (λ same. ne (sym o.is_open ∙ sym same)))

  -- any act of a fit entry
  act_drafted : (a : Act) → e.act ≡ a → IsFitEntry before e → (db : List Slot) → All (IsDrafted before) db → All (IsDrafted after) (acted db e.tx a).db
  act_drafted act.Begin is fit db all =
      let free : tx_of before e.session ≡ 0 = begins_free before e fit is in
      drafts_weaker (OpenWriter before) (OpenWriter after)
      (λ table tx o. still_open table tx o (tx_of_begin_other before e o.session is (λ same. o.some (sym o.is_open ∙ (ap (tx_of before) (sym same) ∙ free))))) db all
  act_drafted (act.Write w) is fit db all =
      written_drafts (OpenWriter after) e.tx w (own_writer w fit is) db (all_still db (λ s. tx_of_else before e s (ap is_begin is) (ap is_end is)) all)
  act_drafted (act.Create c) is fit db all = created_drafts (OpenWriter after) db c (all_still db (λ s. tx_of_else before e s (ap is_begin is) (ap is_end is)) all)
  act_drafted (act.Drop name) is fit db all = dropped_drafts (OpenWriter after) db name (all_still db (λ s. tx_of_else before e s (ap is_begin is) (ap is_end is)) all)
  act_drafted act.Commit is fit db all = committed_drafts (OpenWriter before) (OpenWriter after) e.tx (other_stays (ap is_end is)) db all
  act_drafted act.Abort is fit db all = aborted_drafts (OpenWriter before) (OpenWriter after) e.tx (other_stays (ap is_end is)) db all

-- fit entries make a database that can be dumped and loaded
pub run_storable : (entries : List Entry) → AreFit entries → IsStorable (database_of entries)
run_storable =
    by_fit_entries (λ (l : List Entry). IsStorable (database_of l)) empty_storable
    (λ before e fits fit is.
    subst IsStorable (sym (fold-append (λ (db : List Slot) (d : Entry). (step db d).db) [] before (e ∷ []))) (acted_storable (database_of before) e.tx e.act is fit.written))

-- every draft is of an open transaction that wrote its table
pub all_drafted : (entries : List Entry) → AreFit entries → All (IsDrafted entries) (database_of entries)
all_drafted =
    by_fit_entries (λ (l : List Entry). All (IsDrafted l) (database_of l)) (All-nil (IsDrafted []))
    (λ before e fits fit all.
    subst (All (IsDrafted (before ++ e ∷ []))) (sym (fold-append (λ (db : List Slot) (d : Entry). (step db d).db) [] before (e ∷ [])))
    (act_drafted before e e.act refl fit (database_of before) all))
