-- What an entry makes of the transaction of each session: its own session's, another's, and where it is the administrator's.
use Rattle.std.proofs.Common.{◌≡◌, ◌≢◌, ◌⊎◌, inl, inr, ℕ, ◌+◌, ◌<◌, ◌==◌, Bool, true, false, cond, List, [], ◌∷◌, ◌++◌, length, fold, All, refl, ap, sym, ◌∙◌, arith, ⊎_elim}
use mathlib.Core.List.{IsPrefix}
use Rattle.std.proofs.lemmas.Bool.{ne_eqb}
use Rattle.cj_cluster.proofs.Common.{Act, All-head, All-tail, Entry, Event, FitsTx, IsAdministratorEntry, IsFitEntry, IsSessionEntry, TxState, log, tx_after_act, tx_of, tx_state_after}
use Rattle.cj_model.specs.declared.request.Act.TheVariants as act
use Rattle.cj_cluster.specs.History.Transactions.{is_begin, is_end}
use Rattle.cj_cluster.specs.History.Turns.{tx_after_entry}
use Rattle.cj_cluster.proofs.Pushed.{all_begin}
use Rattle.cj_cluster.proofs.TransactionLaws.{tx_of_begin, tx_of_begin_other, tx_of_end, tx_of_end_other, tx_of_else, one_session}

-- a fit entry of a session is that session's next one
pub session_fit : (before : List Entry) (e : Entry) → IsFitEntry before e → 0 < e.session → IsSessionEntry before e
session_fit before e fit some =
    ⊎_elim (λ (x : IsSessionEntry before e). x) (λ (x : IsAdministratorEntry before e). let none : e.session ≡ 0 = x.session in absurd (omega arith)) fit.by

-- an act has no transaction, or the one that its session is in
pub own_tx : (t tx : ℕ) (a : Act) → FitsTx t tx a → (tx ≡ 0) ⊎ (tx ≡ t)
own_tx t tx act.Begin fits = inl fits.0
own_tx t tx (act.Write w) fits = fits
own_tx t tx (act.Create c) fits = inl fits
own_tx t tx (act.Drop table) fits = inl fits
own_tx t tx act.Commit fits = inr fits.1
own_tx t tx act.Abort fits = inr fits.1

module _ (entries : List Entry) (e : Entry) where
  -- the end of the transaction of session u leaves those of the others
  pub tx_of_end_of : (u s : ℕ) → is_end e.act ≡ true → e.tx ≢ 0 → e.tx ≡ tx_of entries u → u ≢ s → tx_of (entries ++ e ∷ []) s ≡ tx_of entries s
  tx_of_end_of u s is some its other = tx_of_end_other entries e s is (λ same. other (one_session entries u s (sym its ∙ same) (λ none. some (its ∙ none))))

  -- a session's entry leaves the transactions of the others
  pub tx_of_other : (s : ℕ) → FitsTx (tx_of entries e.session) e.tx e.act → e.session ≢ s → tx_of (entries ++ e ∷ []) s ≡ tx_of entries s
  tx_of_other s fits other = by e.act refl fits
    where
      by : (a : Act) → e.act ≡ a → FitsTx (tx_of entries e.session) e.tx a → tx_of (entries ++ e ∷ []) s ≡ tx_of entries s
      by act.Begin is fits = tx_of_begin_other entries e s is other
      by (act.Write w) is fits = tx_of_else entries e s (ap is_begin is) (ap is_end is)
      by (act.Create c) is fits = tx_of_else entries e s (ap is_begin is) (ap is_end is)
      by (act.Drop table) is fits = tx_of_else entries e s (ap is_begin is) (ap is_end is)
      by act.Commit is fits = tx_of_end_of e.session s (ap is_end is) fits.0 fits.1 other
      by act.Abort is fits = tx_of_end_of e.session s (ap is_end is) fits.0 fits.1 other

  -- a session's own entry makes of its transaction what the act says
  pub tx_of_own : FitsTx (tx_of entries e.session) e.tx e.act → tx_of (entries ++ e ∷ []) e.session ≡ tx_after_entry (length entries + 1) (tx_of entries e.session) e.act
  tx_of_own fits = by e.act refl fits
    where
      by : (a : Act) → e.act ≡ a → FitsTx (tx_of entries e.session) e.tx a → tx_of (entries ++ e ∷ []) e.session ≡ tx_after_entry (length entries + 1) (tx_of entries e.session) a
      by act.Begin is fits = tx_of_begin entries e is
      by (act.Write w) is fits = tx_of_else entries e e.session (ap is_begin is) (ap is_end is)
      by (act.Create c) is fits = tx_of_else entries e e.session (ap is_begin is) (ap is_end is)
      by (act.Drop table) is fits = tx_of_else entries e e.session (ap is_begin is) (ap is_end is)
      by act.Commit is fits = tx_of_end entries e e.session (ap is_end is) fits.1
      by act.Abort is fits = tx_of_end entries e e.session (ap is_end is) fits.1

-- ---- a session that has no entry yet

-- an entry of another session begins no transaction
still_none : (s : ℕ) (t : TxState) (e : Entry) (a : Act) → e.session ≢ s → t.tx ≡ 0 → tx_after_act s t e a ≡ 0
still_none s t e act.Begin other none = rw (ne_eqb e.session s other) none
still_none s t e (act.Write w) other none = none
still_none s t e (act.Create c) other none = none
still_none s t e (act.Drop table) other none = none
still_none s t e act.Commit other none = one (e.tx == t.tx)
  where
    one : (b : Bool) → cond b 0 t.tx ≡ 0
    one true = refl
    one false = none
still_none s t e act.Abort other none = one (e.tx == t.tx)
  where
    one : (b : Bool) → cond b 0 t.tx ≡ 0
    one true = refl
    one false = none

-- so none is begun by entries of other sessions
none_from : (s : ℕ) (t : TxState) (entries : List Entry) → t.tx ≡ 0 → All (λ (e : Entry). e.session < s) entries → (fold (tx_state_after s) t entries).tx ≡ 0
none_from s t [] none all = none
none_from s t (e ∷ entries) none all =
    let lt : e.session < s = All-head (λ (x : Entry). x.session < s) e entries all in
    none_from s (tx_state_after s t e) entries (still_none s t e e.act (omega arith) none) (All-tail (λ (x : Entry). x.session < s) e entries all)

-- a session above all that the log knows has no transaction
pub tx_of_unknown : (s : ℕ) (entries : List Entry) → All (λ (e : Entry). e.session < s) entries → tx_of entries s ≡ 0
tx_of_unknown s entries all = none_from s (record { count = 0; tx = 0 }) entries refl all

-- nor had it one in what the history began as
pub tx_of_unknown_begin : (s : ℕ) (front h : List Event) → IsPrefix front h → All (λ (e : Entry). e.session < s) (log h) → tx_of (log front) s ≡ 0
tx_of_unknown_begin s front h longer all = tx_of_unknown s (log front) (all_begin (λ (e : Entry). e.session < s) front h longer all)
