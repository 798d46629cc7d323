-- Transactions of a log: what one more entry makes of them, whose drafts a database has, and what their ends leave.
use Rattle.std.proofs.Common.{◌≡◌, ◌≢◌, ◌⊎◌, inl, inr, ℕ, ◌+◌, ◌<◌, ◌≤◌, ◌==◌, suc, Bool, true, false, cond, List, [], ◌∷◌, ◌++◌, length, take, get_or, fold, None, refl, ap, sym, ◌∙◌, subst, arith, length-append, append_assoc, ⊎_elim, zero, slice_get, Some}
use Rattle.std.proofs.lemmas.Bool.{eqb-true, eq-eqb, ne_eqb, cond-true, cond-false}
use Rattle.std.proofs.lemmas.List.{append-nil}
use Rattle.cj_cluster.proofs.Common.{Act, Disabled, Enabled, Ended, Entry, Event, IsAllowedEvent, IsFitEntry, IsLegal, LogFailed, Marker, ReadFailed, Sched, TxState, fold-append, get_or_from_slice_get, log, scheduled_entry, slice_get_within, tx_after_act, tx_of, tx_state_after}
use Rattle.cj_model.specs.declared.request.Act.TheVariants as act
use Rattle.cj_cluster.specs.History.Transactions.{AreFitBehind, AreFit, is_begin, is_end}
use Rattle.cj_cluster.proofs.Pushed.{log-sched, log-same}

-- ---- from entry to entry

-- what one more item keeps holds of each list
module _ {A : Type 0} (P : List A → Type 0) (none : P []) (more : (before : List A) (x : A) → P before → P (before ++ x ∷ [])) where
  -- from any list on
  from_item : (before rest : List A) → P before → P (before ++ rest)
  from_item before [] h = subst P (sym (append-nil before)) h
  from_item before (x ∷ rest) h = subst P (append_assoc before (x ∷ []) rest) (from_item (before ++ x ∷ []) rest (more before x h))

  -- so it holds of every list
  pub by_items : (xs : List A) → P xs
  by_items xs = from_item [] xs none

-- a fit entry more
push_behind : (before rest : List Entry) (e : Entry) → AreFitBehind before rest → IsFitEntry (before ++ rest) e → AreFitBehind before (rest ++ e ∷ [])
push_behind before [] e fits fit = (subst (λ (l : List Entry). IsFitEntry l e) (append-nil before) fit, tt)
push_behind before (d ∷ rest) e fits fit = (fits.0, push_behind (before ++ d ∷ []) rest e fits.1 (subst (λ (l : List Entry). IsFitEntry l e) (sym (append_assoc before (d ∷ []) rest)) fit))

-- so a fit entry more leaves the log fit
pub fit_push : (entries : List Entry) (e : Entry) → AreFit entries → IsFitEntry entries e → AreFit (entries ++ e ∷ [])
fit_push entries e fits fit = push_behind [] entries e fits fit

-- the first entries of fit ones
take_behind : (before rest : List Entry) (n : ℕ) → AreFitBehind before rest → AreFitBehind before (take n rest)
take_behind before rest zero fits = tt
take_behind before [] (suc n) fits = tt
take_behind before (e ∷ rest) (suc n) fits = (fits.0, take_behind (before ++ e ∷ []) rest n fits.1)

-- so each beginning of a fit log is fit
pub fit_take : (entries : List Entry) (n : ℕ) → AreFit entries → AreFit (take n entries)
fit_take entries n fits = take_behind [] entries n fits

-- an entry is fit behind the first ones
get_behind : (before rest : List Entry) (k : ℕ) (d : Entry) → AreFitBehind before rest → k < length rest → IsFitEntry (before ++ take k rest) (get_or rest k d)
get_behind before [] k d fits lt = absurd (omega arith)
get_behind before (e ∷ rest) zero d fits lt = subst (λ (l : List Entry). IsFitEntry l e) (sym (append-nil before)) fits.0
get_behind before (e ∷ rest) (suc k) d fits lt = subst (λ (l : List Entry). IsFitEntry l (get_or rest k d)) (append_assoc before (e ∷ []) (take k rest)) (get_behind (before ++ e ∷ []) rest k d fits.1 (omega arith))

-- so each entry of a fit log is fit behind those before it
pub fit_at : (entries : List Entry) (k : ℕ) (e : Entry) → AreFit entries → slice_get entries k ≡ Some e → IsFitEntry (take k entries) e
fit_at entries k e fits is = subst (λ (d : Entry). IsFitEntry (take k entries) d) (get_or_from_slice_get entries k e e is) (get_behind [] entries k e fits (slice_get_within entries k e is))

-- what one more fit entry keeps holds of each log of fit entries
module _ (P : List Entry → Type 0) (none : P []) (more : (before : List Entry) (e : Entry) → AreFit before → IsFitEntry before e → P before → P (before ++ e ∷ [])) where
  -- from any fit entries on
  from_fit : (before rest : List Entry) → AreFit before → AreFitBehind before rest → P before → P (before ++ rest)
  from_fit before [] old fits h = subst P (sym (append-nil before)) h
  from_fit before (e ∷ rest) old fits h =
      subst P (append_assoc before (e ∷ []) rest) (from_fit (before ++ e ∷ []) rest (fit_push before e old fits.0) fits.1 (more before e old fits.0 h))

  -- so it holds of every fit log
  pub by_fit_entries : (entries : List Entry) → AreFit entries → P entries
  by_fit_entries entries fits = from_fit [] entries tt fits none

-- ---- legal histories

-- the entries of events that are each allowed are fit
fit_behind : (before rest : List Event) → ((k : ℕ) (d : Event) → k < length rest → IsAllowedEvent (before ++ take k rest) (get_or rest k d)) → AreFitBehind (log before) (log rest)
fit_behind before [] each = tt
fit_behind before (d ∷ rest) each = one d (subst (λ (l : List Event). IsAllowedEvent l d) (append-nil before) (each 0 d (omega arith))) (fit_behind (before ++ d ∷ []) rest next)
  where
    next : (k : ℕ) (x : Event) → k < length rest → IsAllowedEvent ((before ++ d ∷ []) ++ take k rest) (get_or rest k x)
    next k x lt = subst (λ (l : List Event). IsAllowedEvent l (get_or rest k x)) (sym (append_assoc before (d ∷ []) (take k rest))) (each (suc k) x (omega arith))

    same : (x : Event) → scheduled_entry x ≡ None → AreFitBehind (log (before ++ x ∷ [])) (log rest) → AreFitBehind (log before) (log rest)
    same x is fits = subst (λ (l : List Entry). AreFitBehind l (log rest)) (log-same before x is) fits

    one : (x : Event) → IsAllowedEvent before x → AreFitBehind (log (before ++ x ∷ [])) (log rest) → AreFitBehind (log before) (log (x ∷ rest))
    one (Sched e) allowed fits = (allowed.1, subst (λ (l : List Entry). AreFitBehind l (log rest)) (log-sched before e) fits)
    one (Ended f s) allowed fits = same (Ended f s) refl fits
    one (ReadFailed s q b) allowed fits = same (ReadFailed s q b) refl fits
    one (LogFailed s q) allowed fits = same (LogFailed s q) refl fits
    one (Disabled b) allowed fits = same (Disabled b) refl fits
    one (Enabled b) allowed fits = same (Enabled b) refl fits
    one (Marker name b) allowed fits = same (Marker name b) refl fits

-- each entry of a legal history is fit behind those before it
pub legal_fit : (h : List Event) → IsLegal h → AreFit (log h)
legal_fit h l = fit_behind [] h l.each

-- ---- the open transaction behind one more entry

-- as many entries as came
counted : (s : ℕ) (entries : List Entry) → (fold (tx_state_after s) (record { count = 0; tx = 0 }) entries).count ≡ length entries
counted s entries =
    by_items (λ (l : List Entry). (fold (tx_state_after s) (record { count = 0; tx = 0 }) l).count ≡ length l) refl
    (λ before e h.
    let now = ap (λ (t : TxState). t.count) (fold-append (tx_state_after s) (record { count = 0; tx = 0 }) before (e ∷ [])) in
    now ∙ (let n = length-append before (e ∷ []) in omega arith)) entries

-- what is known of a session
abbrev now : List Entry → ℕ → TxState
now entries s = record { count = length entries; tx = tx_of entries s }

-- one more entry
pub tx_of-push : (entries : List Entry) (e : Entry) (s : ℕ) → tx_of (entries ++ e ∷ []) s ≡ tx_after_act s (now entries s) e e.act
tx_of-push entries e s =
    ap (λ (t : TxState). t.tx) (fold-append (tx_state_after s) (record { count = 0; tx = 0 }) entries (e ∷ []))
    ∙ ap (λ n. tx_after_act s (record { count = n; tx = tx_of entries s }) e e.act) (counted s entries)

-- BEGIN opens a transaction of its session, which has the entry's number
pub tx_of_begin : (entries : List Entry) (e : Entry) → e.act ≡ act.Begin → tx_of (entries ++ e ∷ []) e.session ≡ length entries + 1
tx_of_begin entries e is =
    tx_of-push entries e e.session ∙ ap (tx_after_act e.session (now entries e.session) e) is
    ∙ cond-true (e.session == e.session) (length entries + 1) (tx_of entries e.session) (eq-eqb e.session e.session refl)

-- and leaves the others
pub tx_of_begin_other : (entries : List Entry) (e : Entry) (s : ℕ) → e.act ≡ act.Begin → e.session ≢ s → tx_of (entries ++ e ∷ []) s ≡ tx_of entries s
tx_of_begin_other entries e s is ne =
    tx_of-push entries e s ∙ ap (tx_after_act s (now entries s) e) is ∙ cond-false (e.session == s) (length entries + 1) (tx_of entries s) (ne_eqb e.session s ne)

-- what an end makes of a transaction
now_end : (s : ℕ) (t : TxState) (e : Entry) (a : Act) → is_end a ≡ true → tx_after_act s t e a ≡ cond (e.tx == t.tx) 0 t.tx
now_end s t e act.Begin is = absurd (cc is)
now_end s t e (act.Write w) is = absurd (cc is)
now_end s t e (act.Create c) is = absurd (cc is)
now_end s t e (act.Drop table) is = absurd (cc is)
now_end s t e act.Commit is = refl
now_end s t e act.Abort is = refl

-- COMMIT and ABORT end their transaction
pub tx_of_end : (entries : List Entry) (e : Entry) (s : ℕ) → is_end e.act ≡ true → e.tx ≡ tx_of entries s → tx_of (entries ++ e ∷ []) s ≡ 0
tx_of_end entries e s is same = tx_of-push entries e s ∙ now_end s (now entries s) e e.act is ∙ cond-true (e.tx == tx_of entries s) 0 (tx_of entries s) (eq-eqb e.tx (tx_of entries s) same)

-- and leave the others
pub tx_of_end_other : (entries : List Entry) (e : Entry) (s : ℕ) → is_end e.act ≡ true → e.tx ≢ tx_of entries s → tx_of (entries ++ e ∷ []) s ≡ tx_of entries s
tx_of_end_other entries e s is ne = tx_of-push entries e s ∙ now_end s (now entries s) e e.act is ∙ cond-false (e.tx == tx_of entries s) 0 (tx_of entries s) (ne_eqb e.tx (tx_of entries s) ne)

-- what an act that begins and ends nothing makes of it
now_else : (s : ℕ) (t : TxState) (e : Entry) (a : Act) → is_begin a ≡ false → is_end a ≡ false → tx_after_act s t e a ≡ t.tx
now_else s t e act.Begin is on = absurd (cc is)
now_else s t e (act.Write w) is on = refl
now_else s t e (act.Create c) is on = refl
now_else s t e (act.Drop table) is on = refl
now_else s t e act.Commit is on = absurd (cc on)
now_else s t e act.Abort is on = absurd (cc on)

-- all other acts leave each transaction open
pub tx_of_else : (entries : List Entry) (e : Entry) (s : ℕ) → is_begin e.act ≡ false → is_end e.act ≡ false → tx_of (entries ++ e ∷ []) s ≡ tx_of entries s
tx_of_else entries e s is on = tx_of-push entries e s ∙ now_else s (now entries s) e e.act is on

-- ---- numbers of transactions

-- it is at most the number of entries
now_below : (s : ℕ) (t : TxState) (e : Entry) (a : Act) → t.tx ≤ t.count → tx_after_act s t e a ≤ t.count + 1
now_below s t e act.Begin le = one (e.session == s)
  where
    one : (c : Bool) → cond c (t.count + 1) t.tx ≤ t.count + 1
    one true = omega arith
    one false = omega arith
now_below s t e (act.Write w) le = omega arith
now_below s t e (act.Create c) le = omega arith
now_below s t e (act.Drop table) le = omega arith
now_below s t e act.Commit le = one (e.tx == t.tx)
  where
    one : (c : Bool) → cond c 0 t.tx ≤ t.count + 1
    one true = omega arith
    one false = omega arith
now_below s t e act.Abort le = one (e.tx == t.tx)
  where
    one : (c : Bool) → cond c 0 t.tx ≤ t.count + 1
    one true = omega arith
    one false = omega arith

-- a transaction's number is that of an entry which came
pub tx_of_below : (entries : List Entry) (s : ℕ) → tx_of entries s ≤ length entries
tx_of_below entries s =
    by_items (λ (l : List Entry). tx_of l s ≤ length l) (omega arith)
    (λ before e h.
    let n = length-append before (e ∷ []) in
    let is = tx_of-push before e s in
    let le : tx_after_act s (now before s) e e.act ≤ length before + 1 = now_below s (now before s) e e.act h in
    omega arith) entries

-- two sessions that began, or were as they are
begun_pair : (c d : Bool) (n x y : ℕ) → x ≤ n → y ≤ n → cond c (n + 1) x ≡ cond d (n + 1) y → cond c (n + 1) x ≢ 0 → ((c ≡ true) × (d ≡ true)) ⊎ ((x ≡ y) × (x ≢ 0))
begun_pair true true n x y a b same some = inl (refl, refl)
begun_pair true false n x y a b same some = absurd (omega arith)
begun_pair false true n x y a b same some = absurd (omega arith)
begun_pair false false n x y a b same some = inr (same, some)

-- two transactions that did not end
ended_pair : (c d : Bool) (x y : ℕ) → cond c 0 x ≡ cond d 0 y → cond c 0 x ≢ 0 → (x ≡ y) × (x ≢ 0)
ended_pair true d x y same some = absurd (some refl)
ended_pair false true x y same some = absurd (some same)
ended_pair false false x y same some = (same, some)

-- a transaction is of one session
pub one_session : (entries : List Entry) (s u : ℕ) → tx_of entries s ≡ tx_of entries u → tx_of entries s ≢ 0 → s ≡ u
one_session entries =
    by_items (λ (l : List Entry). (s u : ℕ) → tx_of l s ≡ tx_of l u → tx_of l s ≢ 0 → s ≡ u) (λ s u same some. absurd (some refl))
    (λ before e h s u same some.
    one before e h s u e.act (sym (tx_of-push before e s) ∙ (same ∙ tx_of-push before e u)) (λ z. some (tx_of-push before e s ∙ z))) entries
  where
    one : (before : List Entry) (e : Entry) → ((s u : ℕ) → tx_of before s ≡ tx_of before u → tx_of before s ≢ 0 → s ≡ u) → (s u : ℕ) (a : Act)
        → tx_after_act s (now before s) e a ≡ tx_after_act u (now before u) e a → tx_after_act s (now before s) e a ≢ 0 → s ≡ u
    one before e h s u act.Begin same some =
        ⊎_elim (λ (q : ((e.session == s) ≡ true) × ((e.session == u) ≡ true)). sym (eqb-true e.session s q.0) ∙ eqb-true e.session u q.1)
        (λ (q : (tx_of before s ≡ tx_of before u) × (tx_of before s ≢ 0)). h s u q.0 q.1)
        (begun_pair (e.session == s) (e.session == u) (length before) (tx_of before s) (tx_of before u) (tx_of_below before s) (tx_of_below before u) same some)
    one before e h s u (act.Write w) same some = h s u same some
    one before e h s u (act.Create c) same some = h s u same some
    one before e h s u (act.Drop table) same some = h s u same some
    one before e h s u act.Commit same some = let q = ended_pair (e.tx == tx_of before s) (e.tx == tx_of before u) (tx_of before s) (tx_of before u) same some in h s u q.0 q.1
    one before e h s u act.Abort same some = let q = ended_pair (e.tx == tx_of before s) (e.tx == tx_of before u) (tx_of before s) (tx_of before u) same some in h s u q.0 q.1
