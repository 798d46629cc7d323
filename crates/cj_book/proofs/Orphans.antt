-- Which of the open transactions are orphans.
use Rattle.std.proofs.Common.{◌≡◌, ◌≢◌, ℕ, ◌<◌, not, true, false, List, Option, None, Some, is_some, ap, sym, ◌∙◌, refl, arith, ⊎_elim}
use Rattle.std.proofs.lemmas.Bool.{cases_eq, ne_eqb}
use Rattle.cj_book.proofs.Common.{BookState, Entry, KeepsTransactions, OpenTransaction, Placement, both_ways, entry_numbered, eq-eqb, has_session, is_orphan, is_orphan_of, log, numbered, tx_number, tx_of}
use Rattle.cj_transactions.proofs.Numbered.{found_by_test, found_holds, found_number}
use Rattle.cj_transactions.proofs.TransactionSteps.{began_entry}
use Rattle.cj_transactions.specs.Kept.{IsKeptTransaction}

-- a transaction of the list is an orphan where its session isn't open, and no other is one
module _ (p : Placement) (book : BookState) (ts : List OpenTransaction) (k : KeepsTransactions p (log book.history) ts) where
  abbrev entries : List Entry
  entries = log book.history

  pub orphan_found : (tx : ℕ) (t : OpenTransaction) → numbered tx_number ts tx ≡ Some t → is_orphan book tx ≡ not (has_session book t.session)
  orphan_found tx t is =
      let h = found_holds tx_number (IsKeptTransaction p entries) ts tx t k.each is in
      let number : t.number ≡ tx = found_number tx_number ts tx t is in
      let now : tx_of entries t.session ≡ tx = h.is_open ∙ number in
      let low : 0 < t.number = h.number in
      let some : tx_of entries t.session ≢ 0 = omega arith in
      let q = began_entry entries t.session some in
      let found : entry_numbered entries tx ≡ Some q.0 = ap (entry_numbered entries) (sym now) ∙ q.1 in
      ap (is_orphan_of book tx) found ∙ rw (q.2, eq-eqb (tx_of entries t.session) tx now) refl

  pub orphan_none : (tx : ℕ) → numbered tx_number ts tx ≡ None → is_orphan book tx ≡ false
  orphan_none tx none = one (entry_numbered entries tx) refl
    where
      absent : (begin : Entry) → entry_numbered entries tx ≡ Some begin → tx_of entries begin.session ≡ tx → ⊥
      absent begin is now =
          ⊎_elim (λ (z : tx ≡ 0). let e : entry_numbered entries 0 ≡ Some begin = ap (entry_numbered entries) (sym z) ∙ is in absurd (cc e))
          (λ (some : tx ≡ 0 → ⊥).
          let here : is_some (numbered tx_number ts (tx_of entries begin.session)) ≡ true = sym (found_by_test tx_number ts (tx_of entries begin.session)) ∙ k.complete begin.session (λ z. some (sym now ∙ z)) in
          both_ways (is_some (numbered tx_number ts tx)) (ap is_some none) (ap (λ n. is_some (numbered tx_number ts n)) (sym now) ∙ here))
          (cases_eq tx 0)

      one : (o : Option Entry) → entry_numbered entries tx ≡ o → is_orphan_of book tx o ≡ false
      one None is = refl
      one (Some begin) is = rw (ne_eqb (tx_of entries begin.session) tx (absent begin is)) refl
