-- What a backend holds after one more entry of a log, and that it has begun the transactions whose drafts it holds.
use Rattle.std.proofs.Common.{◌≡◌, ◌≢◌, ℕ, ◌+◌, ◌<◌, ◌==◌, ◌||◌, not, true, false, List, [], ◌∷◌, ◌++◌, length, take, filter, slice_get, All, Some, refl, ap, sym, ◌∙◌, subst, ⊎_elim}
use Rattle.std.proofs.lemmas.Bool.{both_ways, cond_both, not_from_false, eqb-true, eq-eqb, ne_eqb, or_cases, or_left, or_right}
use Rattle.std.proofs.lemmas.List.{take_more}
use Rattle.std.proofs.lemmas.Map.Views.{any-filter_same}
use Rattle.cj_cluster.proofs.Common.{Act, CoversDrafts, Entry, Placement, Slot, Write, database_after, database_of, fold-append, get_or_from_slice_get, list_any, list_any-append, part, slice_get_within}
use Rattle.cj_model.specs.declared.request.Act.TheVariants as act
use Rattle.cj_model.specs.Database.Tables.{IsDatabase}
use Rattle.cj_model.specs.Database.Steps.{acted, step}
use Rattle.cj_cluster.specs.History.Transactions.{AreFit, has_begun, takes_part, begun_after}
use Rattle.cj_model.proofs.PartLaws.{SameAtPart, acted_hosted, acted_elsewhere, committed_part, aborted_part}
use Rattle.cj_cluster.proofs.StepDrafts.{HasDraftBy, drafts_weaker, written_drafts, created_drafts, dropped_drafts, committed_drafts, aborted_drafts, IsOther, committed_other, aborted_other}
use Rattle.cj_cluster.proofs.TransactionLaws.{fit_take}
use Rattle.cj_cluster.proofs.DraftLaws.{run_storable}

-- the first items, with the one at the next place
pub take_next : {A : Type 0} (xs : List A) (k : ℕ) (x : A) → slice_get xs k ≡ Some x → take (k + 1) xs ≡ take k xs ++ x ∷ []
take_next xs k x is =
    let lt : k < length xs = slice_get_within xs k x is in
    take_more xs k x lt ∙ ap (λ y. take k xs ++ y ∷ []) (get_or_from_slice_get xs k x x is)

-- the database after one more entry
pub run-push : (entries : List Entry) (e : Entry) → database_of (entries ++ e ∷ []) ≡ (step (database_of entries) e).db
run-push entries e = fold-append (λ (db : List Slot) (d : Entry). (step db d).db) [] entries (e ∷ [])

-- the same at the next place of a log
pub at_next : (entries : List Entry) (k : ℕ) (e : Entry) → slice_get entries k ≡ Some e → database_after entries (k + 1) ≡ (step (database_after entries k) e).db
at_next entries k e is = ap database_of (take_next entries k e is) ∙ run-push (take k entries) e

-- ---- the transactions that are begun

-- a write begins its transaction, and leaves the others
begun_write : (begun : List ℕ) (tx : ℕ) (w : Write) → tx ≢ 0 → has_begun (begun_after begun tx (act.Write w)) tx ≡ true
begun_write begun tx w some =
    cond_both (tx == 0 || has_begun begun tx) begun (begun ++ tx ∷ []) (λ ts. has_begun ts tx ≡ true)
    (λ there. ⊎_elim (λ (z : (tx == 0) ≡ true). absurd (some (eqb-true tx 0 z))) (λ (h : has_begun begun tx ≡ true). h) (or_cases (tx == 0) (has_begun begun tx) there))
    (λ _.
    list_any-append (λ t. t == tx) begun (tx ∷ [])
    ∙ or_right (has_begun begun tx) (list_any (λ t. t == tx) (tx ∷ [])) (or_left (tx == tx) false (eq-eqb tx tx refl)))

begun_write_others : (begun : List ℕ) (tx : ℕ) (w : Write) (t : ℕ) → has_begun begun t ≡ true → has_begun (begun_after begun tx (act.Write w)) t ≡ true
begun_write_others begun tx w t there =
    cond_both (tx == 0 || has_begun begun tx) begun (begun ++ tx ∷ []) (λ ts. has_begun ts t ≡ true) (λ _. there)
    (λ _. list_any-append (λ u. u == t) begun (tx ∷ []) ∙ or_left (has_begun begun t) (list_any (λ u. u == t) (tx ∷ [])) there)

-- the end of a transaction leaves the others
begun_end_others : (begun : List ℕ) (tx t : ℕ) → has_begun begun t ≡ true → t ≢ tx → has_begun (filter (λ u. not (u == tx)) begun) t ≡ true
begun_end_others begun tx t there ne =
    any-filter_same (λ u. u == t) (λ u. not (u == tx)) true (λ u same. not_from_false (u == tx) (ne_eqb u tx (λ is. ne (sym (eqb-true u t same) ∙ is)))) begun ∙ there

-- ---- one step

-- where a backend holds its part of a database, and has begun the transactions whose drafts it holds
module _ (p : Placement) (b : ℕ) (begun : List ℕ) (db : List Slot) (is : IsDatabase db) (covers : CoversDrafts begun (part p b db)) (tx : ℕ) where
  -- the transactions of drafts
  abbrev Begun : List ℕ → List ℕ → ℕ → Type 0
  Begun ts table t = has_begun ts t ≡ true

  -- an act in which it takes part does to the part what it does to the whole
  act_taken : (a : Act) → takes_part p b begun tx a ≡ true → SameAtPart p b (acted db tx a) (acted (part p b db) tx a)
  act_taken act.Begin on = absurd (cc on)
  act_taken (act.Write w) on = acted_hosted p b db tx (act.Write w) is on
  act_taken (act.Create c) on = acted_hosted p b db tx (act.Create c) is on
  act_taken (act.Drop name) on = acted_hosted p b db tx (act.Drop name) is on
  act_taken act.Commit on = acted_hosted p b db tx act.Commit is tt
  act_taken act.Abort on = acted_hosted p b db tx act.Abort is tt

  -- and leaves drafts of transactions that it has begun then
  act_covered : (a : Act) → takes_part p b begun tx a ≡ true → CoversDrafts (begun_after begun tx a) (acted (part p b db) tx a).db
  act_covered act.Begin on = absurd (cc on)
  act_covered (act.Write w) on =
      let after : List ℕ = begun_after begun tx (act.Write w) in
      written_drafts (Begun after) tx w (begun_write begun tx w) (part p b db) (drafts_weaker (Begun begun) (Begun after) (λ table t h. begun_write_others begun tx w t h) (part p b db) covers)
  act_covered (act.Create c) on = created_drafts (Begun begun) (part p b db) c covers
  act_covered (act.Drop name) on = dropped_drafts (Begun begun) (part p b db) name covers
  act_covered act.Commit on = committed_drafts (Begun begun) (Begun (begun_after begun tx act.Commit)) tx (λ table t h ne. begun_end_others begun tx t h ne) (part p b db) covers
  act_covered act.Abort on = aborted_drafts (Begun begun) (Begun (begun_after begun tx act.Abort)) tx (λ table t h ne. begun_end_others begun tx t h ne) (part p b db) covers

  -- of a transaction that it has not begun it holds no draft
  others : has_begun begun tx ≡ false → All (HasDraftBy (IsOther tx)) (part p b db)
  others off = drafts_weaker (Begun begun) (IsOther tx) (λ table t h same. both_ways (has_begun begun tx) off (subst (λ u. has_begun begun u ≡ true) same h)) (part p b db) covers

  -- so any other act leaves the part
  act_passed : (a : Act) → takes_part p b begun tx a ≡ false → part p b (acted db tx a).db ≡ part p b db
  act_passed act.Begin off = refl
  act_passed (act.Write w) off = acted_elsewhere p b db tx (act.Write w) off
  act_passed (act.Create c) off = acted_elsewhere p b db tx (act.Create c) off
  act_passed (act.Drop name) off = acted_elsewhere p b db tx (act.Drop name) off
  act_passed act.Commit off = committed_part p b db tx is ∙ committed_other tx (part p b db) (others off)
  act_passed act.Abort off = aborted_part p b db tx is ∙ aborted_other tx (part p b db) (others off)

module _ (p : Placement) (b : ℕ) (begun : List ℕ) (db : List Slot) (is : IsDatabase db) (covers : CoversDrafts begun (part p b db)) (e : Entry) where
  -- the step that an entry is for the part, where the backend takes part in it
  pub step_taken : takes_part p b begun e.tx e.act ≡ true → SameAtPart p b (step db e) (step (part p b db) e)
  step_taken on = act_taken p b begun db is covers e.tx e.act on

  -- the transactions that it has begun then
  pub step_covered : takes_part p b begun e.tx e.act ≡ true → CoversDrafts (begun_after begun e.tx e.act) (part p b (step db e).db)
  step_covered on = subst (CoversDrafts (begun_after begun e.tx e.act)) (sym (step_taken on).0) (act_covered p b begun db is covers e.tx e.act on)

  -- any other entry leaves the part
  pub step_passed : takes_part p b begun e.tx e.act ≡ false → part p b (step db e).db ≡ part p b db
  step_passed off = act_passed p b begun db is covers e.tx e.act off

  -- and the transactions
  pub step_passed_covered : takes_part p b begun e.tx e.act ≡ false → CoversDrafts begun (part p b (step db e).db)
  step_passed_covered off = subst (CoversDrafts begun) (sym (step_passed off)) covers

-- ---- at the next place of a log

module _ (p : Placement) (b : ℕ) (begun : List ℕ) (entries : List Entry) (fits : AreFit entries) (k : ℕ) (covers : CoversDrafts begun (part p b (database_after entries k))) (e : Entry)
    (is : slice_get entries k ≡ Some e) where
  db : IsDatabase (database_after entries k)
  db = (run_storable (take k entries) (fit_take entries k fits)).database

  -- the part after an entry in which the backend takes part
  pub part_at_taken : takes_part p b begun e.tx e.act ≡ true
      → (part p b (database_after entries (k + 1)) ≡ (step (part p b (database_after entries k)) e).db) × ((step (part p b (database_after entries k)) e).outcome ≡ (step (database_after entries k) e).outcome)
  part_at_taken on =
      let same = step_taken p b begun (database_after entries k) db covers e on in
      (ap (part p b) (at_next entries k e is) ∙ same.0, same.1)

  -- and what it has begun then
  pub covers_at_taken : takes_part p b begun e.tx e.act ≡ true → CoversDrafts (begun_after begun e.tx e.act) (part p b (database_after entries (k + 1)))
  covers_at_taken on = subst (λ x. CoversDrafts (begun_after begun e.tx e.act) (part p b x)) (sym (at_next entries k e is)) (step_covered p b begun (database_after entries k) db covers e on)

  -- the part after any other
  pub part_at_passed : takes_part p b begun e.tx e.act ≡ false → part p b (database_after entries (k + 1)) ≡ part p b (database_after entries k)
  part_at_passed off = ap (part p b) (at_next entries k e is) ∙ step_passed p b begun (database_after entries k) db covers e off

  -- and what it has begun then
  pub covers_at_passed : takes_part p b begun e.tx e.act ≡ false → CoversDrafts begun (part p b (database_after entries (k + 1)))
  covers_at_passed off = subst (λ x. CoversDrafts begun (part p b x)) (sym (at_next entries k e is)) (step_passed_covered p b begun (database_after entries k) db covers e off)
