-- Sessions and open transactions with one more entry of the log.
use Rattle.std.proofs.Common.{◌≡◌, ◌≢◌, ◌⊎◌, inl, inr, ℕ, zero, suc, ◌+◌, ◌-◌, ◌<◌, ◌≤◌, ◌==◌, ◌||◌, Bool, true, false, cond, List, [], ◌∷◌, ◌++◌, length, map, get_or, slice_get, Option, None, Some, is_some, All, refl, ap, sym, ◌∙◌, subst, arith, length-append, ⊎_elim, bit_or}
use Rattle.std.proofs.lemmas.Bool.{cases_eq, eqb-true, eq-eqb, ne_eqb, both_ways, cond-false}
use Rattle.std.proofs.lemmas.List.Folds.{list_any-append, list_any_none}
use Rattle.std.proofs.lemmas.List.Elements.{All-nil, All-push, All-weaker}
use Rattle.cj_model.proofs.Masks.{has-zero}
use Rattle.cj_model.specs.declared.request.Act.TheVariants as act
use Rattle.cj_model.specs.declared.write.Write.{Write}
use Rattle.cj_model.specs.Cluster.Placements.{Placement, writes_at, wrote_at, concerns}
use Rattle.cj_model.proofs.MaskBits.{has-or}
use Rattle.cj_cluster.proofs.Common.{Act, Entry, FitsTx, IsAdministratorEntry, IsFitEntry, IsSessionEntry, get_or_from_slice_get, in_mask, list_any, slice_get_within, tx_after_act, tx_of}
use Rattle.cj_cluster.specs.Moves.Moves.{entry_numbered}
use Rattle.cj_cluster.specs.History.Transactions.{AreFit, is_begin, is_end}
use Rattle.cj_cluster.proofs.Pushed.{get_left, get_seam}
use Rattle.cj_cluster.proofs.TransactionLaws.{by_items, by_fit_entries, tx_of-push, tx_of_begin, tx_of_begin_other, tx_of_end, tx_of_end_other, tx_of_else, tx_of_below, one_session}
use Rattle.cj_usage.specs.Changed.{table_changed}
use Rattle.cj_transactions.specs.declared.sessions.BookSession.{BookSession}
use Rattle.cj_transactions.specs.declared.transactions.OpenTransaction.{OpenTransaction}
use Rattle.cj_transactions.specs.Lists.{book_session, numbered, session_number, sessions_after, tx_number, transactions_after, new_tx, with_wrote, without, wrote_of}
use Rattle.cj_transactions.specs.Kept.{IsKeptSession, KeepsSessions, IsKeptTransaction, KeepsTransactions}
use Rattle.cj_transactions.proofs.Numbered.{found_number, found_holds, found_by_test, member_holds, all_changed, all_without, any_changed, any_without, numbers_changed}

-- ---- the entry that began a transaction

-- no transaction, or one that an entry of the session began
abbrev BeganBy : List Entry → ℕ → ℕ → Type 0
BeganBy entries s n = (n ≡ 0) ⊎ ((d : Entry) × (i : ℕ) × (n ≡ i + 1) × (slice_get entries i ≡ Some d) × (d.session ≡ s))

began_more : (before : List Entry) (e : Entry) (s n : ℕ) → BeganBy before s n → BeganBy (before ++ e ∷ []) s n
began_more before e s n b =
    ⊎_elim (λ (z : n ≡ 0). inl z)
    (λ (q : (d : Entry) × (i : ℕ) × (n ≡ i + 1) × (slice_get before i ≡ Some d) × (d.session ≡ s)). inr (q.0, q.1, q.2, get_left before (e ∷ []) q.1 q.0 q.3, q.4)) b

-- the open transaction of a session was begun by an entry of it
began : (entries : List Entry) (s : ℕ) → BeganBy entries s (tx_of entries s)
began entries = by_items (λ (l : List Entry). (s : ℕ) → BeganBy l s (tx_of l s)) (λ s. inl refl)
    (λ before e h s. subst (BeganBy (before ++ e ∷ []) s) (sym (tx_of-push before e s)) (one before e s (h s) e.act)) entries
  where
    one : (before : List Entry) (e : Entry) (s : ℕ) → BeganBy before s (tx_of before s) → (a : Act) → BeganBy (before ++ e ∷ []) s (tx_after_act s (record { count = length before; tx = tx_of before s }) e a)
    one before e s h act.Begin = two (e.session == s) refl
      where
        two : (b : Bool) → (e.session == s) ≡ b → BeganBy (before ++ e ∷ []) s (cond b (length before + 1) (tx_of before s))
        two true is = inr (e, length before, refl, get_seam before [] e, eqb-true _ _ is)
        two false is = began_more before e s (tx_of before s) h
    one before e s h (act.Write w) = began_more before e s (tx_of before s) h
    one before e s h (act.Create c) = began_more before e s (tx_of before s) h
    one before e s h (act.Drop table) = began_more before e s (tx_of before s) h
    one before e s h act.Commit = two (e.tx == tx_of before s)
      where
        two : (b : Bool) → BeganBy (before ++ e ∷ []) s (cond b 0 (tx_of before s))
        two true = inl refl
        two false = began_more before e s (tx_of before s) h
    one before e s h act.Abort = two (e.tx == tx_of before s)
      where
        two : (b : Bool) → BeganBy (before ++ e ∷ []) s (cond b 0 (tx_of before s))
        two true = inl refl
        two false = began_more before e s (tx_of before s) h

-- an entry by its number
pub numbered_entry : (entries : List Entry) (i : ℕ) → entry_numbered entries (i + 1) ≡ slice_get entries i
numbered_entry entries i =
    let ne : i + 1 ≢ 0 = omega arith in
    let e : i + 1 - 1 ≡ i = omega arith in
    cond-false (i + 1 == 0) None (slice_get entries (i + 1 - 1)) (ne_eqb (i + 1) 0 ne) ∙ ap (λ n. slice_get entries n) e

-- so it is the entry that has the transaction's number
pub began_entry : (entries : List Entry) (s : ℕ) → tx_of entries s ≢ 0 → (d : Entry) × (entry_numbered entries (tx_of entries s) ≡ Some d) × (d.session ≡ s)
began_entry entries s some =
    ⊎_elim (λ (z : tx_of entries s ≡ 0). absurd (some z))
    (λ (q : (d : Entry) × (i : ℕ) × (tx_of entries s ≡ i + 1) × (slice_get entries i ≡ Some d) × (d.session ≡ s)).
    (q.0, ap (entry_numbered entries) q.2 ∙ (numbered_entry entries q.1 ∙ q.3), q.4))
    (began entries s)

-- a session of which there is no entry has none
tx_unknown : (entries : List Entry) (greatest s : ℕ) → All (λ (d : Entry). d.session ≤ greatest) entries → greatest < s → tx_of entries s ≡ 0
tx_unknown entries greatest s known above =
    ⊎_elim (λ (z : tx_of entries s ≡ 0). z)
    (λ (q : (d : Entry) × (i : ℕ) × (tx_of entries s ≡ i + 1) × (slice_get entries i ≡ Some d) × (d.session ≡ s)).
    let le : q.0.session ≤ greatest = subst (λ (d : Entry). d.session ≤ greatest) (get_or_from_slice_get entries q.1 q.0 q.0 q.3) (known q.1 q.0 (slice_get_within entries q.1 q.0 q.3)) in
    let is : q.0.session ≡ s = q.4 in
    absurd (omega arith))
    (began entries s)

-- ---- what a fit entry says of its transaction

fits_begin : (t tx : ℕ) (a : Act) → a ≡ act.Begin → FitsTx t tx a → (tx ≡ 0) × (t ≡ 0)
fits_begin t tx a is fits = subst (FitsTx t tx) is fits

fits_end : (t tx : ℕ) (a : Act) → is_end a ≡ true → FitsTx t tx a → (tx ≢ 0) × (tx ≡ t)
fits_end t tx act.Begin is fits = absurd (cc is)
fits_end t tx (act.Write w) is fits = absurd (cc is)
fits_end t tx (act.Create c) is fits = absurd (cc is)
fits_end t tx (act.Drop table) is fits = absurd (cc is)
fits_end t tx act.Commit is fits = fits
fits_end t tx act.Abort is fits = fits

fits_below : (n t tx : ℕ) (a : Act) → t ≤ n → FitsTx t tx a → tx ≤ n
fits_below n t tx act.Begin le fits = let z : tx ≡ 0 = fits.0 in omega arith
fits_below n t tx (act.Write w) le fits = ⊎_elim (λ (z : tx ≡ 0). omega arith) (λ (z : tx ≡ t). omega arith) fits
fits_below n t tx (act.Create c) le fits = let z : tx ≡ 0 = fits in omega arith
fits_below n t tx (act.Drop table) le fits = let z : tx ≡ 0 = fits in omega arith
fits_below n t tx act.Commit le fits = let z : tx ≡ t = fits.1 in omega arith
fits_below n t tx act.Abort le fits = let z : tx ≡ t = fits.1 in omega arith

-- BEGIN is of no transaction, and its session has none
pub begin_fits : (entries : List Entry) (e : Entry) → IsFitEntry entries e → e.act ≡ act.Begin → (e.tx ≡ 0) × (tx_of entries e.session ≡ 0)
begin_fits entries e fit is =
    ⊎_elim (λ (s : IsSessionEntry entries e). fits_begin (tx_of entries e.session) e.tx e.act is s.tx)
    (λ (a : IsAdministratorEntry entries e). let both : act.Begin ≡ act.Abort = sym is ∙ a.aborts in absurd (cc both)) fit.by

-- COMMIT and ABORT of a session are of its transaction
pub own_end : (entries : List Entry) (e : Entry) → IsSessionEntry entries e → is_end e.act ≡ true → (e.tx ≢ 0) × (e.tx ≡ tx_of entries e.session)
own_end entries e s is = fits_end (tx_of entries e.session) e.tx e.act is s.tx

-- the transaction that the entry ends is some session's
pub ends_some : (entries : List Entry) (e : Entry) → IsFitEntry entries e → is_end e.act ≡ true → (owner : ℕ) × (tx_of entries owner ≡ e.tx) × (e.tx ≢ 0)
ends_some entries e fit is =
    ⊎_elim (λ (s : IsSessionEntry entries e). let q = own_end entries e s is in (e.session, sym q.1, q.0))
    (λ (a : IsAdministratorEntry entries e). let n : e.tx ≡ a.at + 1 = a.tx in let some : e.tx ≢ 0 = omega arith in (a.begin.session, a.is_open, some)) fit.by

-- no entry is of a transaction that begins later
tx_within : (entries : List Entry) → AreFit entries → All (λ (d : Entry). d.tx ≤ length entries) entries
tx_within entries fits =
    by_fit_entries (λ (l : List Entry). All (λ (d : Entry). d.tx ≤ length l) l) (All-nil (λ (d : Entry). d.tx ≤ 0))
    (λ before e old fit all.
    let n : length (before ++ e ∷ []) ≡ length before + 1 = length-append before (e ∷ []) in
    let own : e.tx ≤ length before = below before e fit in
    All-push (λ (d : Entry). d.tx ≤ length (before ++ e ∷ [])) before e
    (All-weaker (λ (d : Entry). d.tx ≤ length before) (λ (d : Entry). d.tx ≤ length (before ++ e ∷ [])) (λ d le. omega arith) before all) (omega arith)) entries fits
  where
    below : (before : List Entry) (e : Entry) → IsFitEntry before e → e.tx ≤ length before
    below before e fit =
        ⊎_elim (λ (s : IsSessionEntry before e). fits_below (length before) (tx_of before e.session) e.tx e.act (tx_of_below before e.session) s.tx)
        (λ (a : IsAdministratorEntry before e). let le = tx_of_below before a.begin.session in let is : tx_of before a.begin.session ≡ e.tx = a.is_open in omega arith) fit.by

-- ---- where a transaction wrote

or_false : (b : Bool) → (b || false) ≡ b
or_false true = refl
or_false false = refl

-- one more entry
wrote-push : (p : Placement) (b tx : ℕ) (entries : List Entry) (e : Entry) → wrote_at p b tx (entries ++ e ∷ []) ≡ (wrote_at p b tx entries || writes_at p b tx e.tx e.act)
wrote-push p b tx entries e =
    list_any-append (λ (d : Entry). writes_at p b tx d.tx d.act) entries (e ∷ []) ∙ ap (λ x. wrote_at p b tx entries || x) (or_false (writes_at p b tx e.tx e.act))

-- which writes nothing
wrote_same : (p : Placement) (b tx : ℕ) (entries : List Entry) (e : Entry) → writes_at p b tx e.tx e.act ≡ false → wrote_at p b tx (entries ++ e ∷ []) ≡ wrote_at p b tx entries
wrote_same p b tx entries e none = wrote-push p b tx entries e ∙ (ap (λ x. wrote_at p b tx entries || x) none ∙ or_false (wrote_at p b tx entries))

-- an entry of another transaction
writes_other : (p : Placement) (b tx of_tx : ℕ) (a : Act) → of_tx ≢ tx → writes_at p b tx of_tx a ≡ false
writes_other p b tx of_tx act.Begin ne = refl
writes_other p b tx of_tx (act.Write w) ne = rw (ne_eqb of_tx tx ne) refl
writes_other p b tx of_tx (act.Create c) ne = refl
writes_other p b tx of_tx (act.Drop table) ne = refl
writes_other p b tx of_tx act.Commit ne = refl
writes_other p b tx of_tx act.Abort ne = refl

-- a transaction that begins later wrote nowhere
wrote_none : (p : Placement) (b tx : ℕ) (entries : List Entry) → AreFit entries → length entries < tx → wrote_at p b tx entries ≡ false
wrote_none p b tx entries fits later =
    list_any_none (λ (d : Entry). writes_at p b tx d.tx d.act) entries
    (All-weaker (λ (d : Entry). d.tx ≤ length entries) (λ (d : Entry). writes_at p b tx d.tx d.act ≡ false) (λ d le. writes_other p b tx d.tx d.act (omega arith)) entries (tx_within entries fits))

-- what the end of a transaction concerns is the same with the end itself
pub concerns_push : (p : Placement) (b : ℕ) (entries : List Entry) (e : Entry) → concerns p b (entries ++ e ∷ []) e.tx e.act ≡ concerns p b entries e.tx e.act
concerns_push p b entries e = one e.act refl
  where
    one : (a : Act) → e.act ≡ a → concerns p b (entries ++ e ∷ []) e.tx a ≡ concerns p b entries e.tx a
    one act.Begin is = refl
    one (act.Write w) is = refl
    one (act.Create c) is = refl
    one (act.Drop table) is = refl
    one act.Commit is = wrote_same p b e.tx entries e (ap (writes_at p b e.tx e.tx) is)
    one act.Abort is = wrote_same p b e.tx entries e (ap (writes_at p b e.tx e.tx) is)

-- ---- sessions

-- Whose transaction an entry ends: that of its own session, or of one that is not open.
pub record EndsOf (entries : List Entry) (ss : List BookSession) (e : Entry) : Type 0 where
  pub owner : ℕ
  pub tx : tx_of entries owner ≡ e.tx
  pub some : e.tx ≢ 0
  pub whose : (owner ≡ e.session) ⊎ ((e.session ≡ 0) × (is_some (numbered session_number ss owner) ≡ false))

-- one more session, of the next number
pub sessions_opened : (entries : List Entry) (greatest : ℕ) (ss : List BookSession) → KeepsSessions entries greatest ss → KeepsSessions entries (greatest + 1) (ss ++ book_session (greatest + 1) ∷ [])
sessions_opened entries greatest ss k =
    record {
      each =
          All-push (IsKeptSession entries (greatest + 1)) ss (book_session (greatest + 1))
          (All-weaker (IsKeptSession entries greatest) (IsKeptSession entries (greatest + 1))
          (λ s h. let low : 0 < s.number = h.number.0 in let high : s.number ≤ greatest = h.number.1 in record { number = (omega arith, omega arith); tx = h.tx }) ss k.each)
          (record { number = (omega arith, omega arith); tx = sym (tx_unknown entries greatest (greatest + 1) k.known (omega arith)) });
      known = All-weaker (λ (d : Entry). d.session ≤ greatest) (λ (d : Entry). d.session ≤ greatest + 1) (λ d le. omega arith) entries k.known;
    }

module _ (entries : List Entry) (e : Entry) where
  abbrev more : List Entry
  more = entries ++ e ∷ []

  -- one more entry, after which each session's transaction is so
  known_push : (greatest : ℕ) → e.session ≤ greatest → All (λ (d : Entry). d.session ≤ greatest) entries → All (λ (d : Entry). d.session ≤ greatest) more
  known_push greatest le known = All-push (λ (d : Entry). d.session ≤ greatest) entries e known le

  module _ (greatest : ℕ) (ss : List BookSession) (k : KeepsSessions entries greatest ss) (given : e.session ≤ greatest) (ends : is_end e.act ≡ true → EndsOf entries ss e) where
    begun_session : (s : BookSession) → e.act ≡ act.Begin → session_number s ≡ e.session → IsKeptSession entries greatest s → IsKeptSession more greatest (record s { tx = length entries + 1 })
    begun_session s is same h = record { number = h.number; tx = sym (ap (tx_of more) same ∙ tx_of_begin entries e is) }

    begun_other : (s : BookSession) → e.act ≡ act.Begin → session_number s ≢ e.session → IsKeptSession entries greatest s → IsKeptSession more greatest s
    begun_other s is ne h = record { number = h.number; tx = h.tx ∙ sym (tx_of_begin_other entries e s.number is (λ q. ne (sym q))) }

    else_session : (s : BookSession) → is_begin e.act ≡ false → is_end e.act ≡ false → IsKeptSession entries greatest s → IsKeptSession more greatest s
    else_session s is on h = record { number = h.number; tx = h.tx ∙ sym (tx_of_else entries e s.number is on) }

    ended_session : (s : BookSession) → is_end e.act ≡ true → session_number s ≡ e.session → IsKeptSession entries greatest s → IsKeptSession more greatest (record s { tx = 0 })
    ended_session s is same h =
        let x = ends is in
        let some : 0 < s.number = h.number.0 in
        let own : x.owner ≡ s.number = ⊎_elim (λ (q : x.owner ≡ e.session). q ∙ sym same) (λ (q : (e.session ≡ 0) × (is_some (numbered session_number ss x.owner) ≡ false)). let z : e.session ≡ 0 = q.0 in absurd (omega arith)) x.whose in
        record { number = h.number; tx = sym (tx_of_end entries e s.number is (sym x.tx ∙ ap (tx_of entries) own)) }

    -- a session of the list whose number the entry doesn't have
    ended_other : (s : BookSession) → is_end e.act ≡ true → is_some (numbered session_number ss s.number) ≡ true → session_number s ≢ e.session → IsKeptSession entries greatest s → IsKeptSession more greatest s
    ended_other s is here ne h =
        let x = ends is in
        let others : e.tx ≢ tx_of entries s.number = λ (q : e.tx ≡ tx_of entries s.number).
        let own : x.owner ≡ s.number = one_session entries x.owner s.number (x.tx ∙ q) (λ z. x.some (sym x.tx ∙ z)) in
        ⊎_elim (λ (o : x.owner ≡ e.session). ne (sym own ∙ o))
        (λ (o : (e.session ≡ 0) × (is_some (numbered session_number ss x.owner) ≡ false)). both_ways (is_some (numbered session_number ss s.number)) (ap (λ n. is_some (numbered session_number ss n)) (sym own) ∙ o.1) here) x.whose in
        record { number = h.number; tx = h.tx ∙ sym (tx_of_end_other entries e s.number is others) }

    -- each session is found by its number
    abbrev Here : BookSession → Type 0
    Here s = (is_some (numbered session_number ss s.number) ≡ true) × IsKeptSession entries greatest s

    all_here : All Here ss
    all_here = λ i d lt. (present ss i d lt, k.each i d lt)
      where
        present : (xs : List BookSession) (i : ℕ) (d : BookSession) → i < length xs → is_some (numbered session_number xs (session_number (get_or xs i d))) ≡ true
        present [] i d lt = absurd (omega arith)
        present (y ∷ xs) zero d lt = rw (eq-eqb y.number y.number refl) refl
        present (y ∷ xs) (suc i) d lt = one (y.number == (get_or xs i d).number) (present xs i d (omega arith))
          where
            one : (b : Bool) → is_some (numbered session_number xs (session_number (get_or xs i d))) ≡ true → is_some (cond b (Some y) (numbered session_number xs (session_number (get_or xs i d)))) ≡ true
            one true rest = refl
            one false rest = rest

    ended_all : is_end e.act ≡ true → All (IsKeptSession more greatest) (map (λ (s : BookSession). cond (session_number s == e.session) (record s { tx = 0 }) s) ss)
    ended_all is = all_changed session_number Here (IsKeptSession more greatest) (λ s. record s { tx = 0 }) ss e.session (λ s same h. ended_session s is same h.1) (λ s ne h. ended_other s is h.0 ne h.1) all_here

    else_all : is_begin e.act ≡ false → is_end e.act ≡ false → All (IsKeptSession more greatest) ss
    else_all is on = All-weaker (IsKeptSession entries greatest) (IsKeptSession more greatest) (λ s h. else_session s is on h) ss k.each

    sessions_each : (a : Act) → e.act ≡ a → All (IsKeptSession more greatest) (sessions_after ss (length entries + 1) e a)
    sessions_each act.Begin is =
        all_changed session_number (IsKeptSession entries greatest) (IsKeptSession more greatest) (λ s. record s { tx = length entries + 1 }) ss e.session
        (λ s same h. begun_session s is same h) (λ s ne h. begun_other s is ne h) k.each
    sessions_each (act.Write w) is = else_all (ap is_begin is) (ap is_end is)
    sessions_each (act.Create c) is = else_all (ap is_begin is) (ap is_end is)
    sessions_each (act.Drop table) is = else_all (ap is_begin is) (ap is_end is)
    sessions_each act.Commit is = ended_all (ap is_end is)
    sessions_each act.Abort is = ended_all (ap is_end is)

    -- one more entry
    pub sessions_push : KeepsSessions more greatest (sessions_after ss (length entries + 1) e e.act)
    sessions_push = record { each = sessions_each e.act refl; known = known_push greatest given k.known }

  -- which leaves the numbers
  pub numbers_after : (ss : List BookSession) (n : ℕ) → map session_number (sessions_after ss n e e.act) ≡ map session_number ss
  numbers_after ss n = one e.act
    where
      one : (a : Act) → map session_number (sessions_after ss n e a) ≡ map session_number ss
      one act.Begin = numbers_changed session_number (λ s. record s { tx = n }) (λ s. refl) ss e.session
      one (act.Write w) = refl
      one (act.Create c) = refl
      one (act.Drop table) = refl
      one act.Commit = numbers_changed session_number (λ s. record s { tx = 0 }) (λ s. refl) ss e.session
      one act.Abort = numbers_changed session_number (λ s. record s { tx = 0 }) (λ s. refl) ss e.session

  -- ---- open transactions

  module _ (p : Placement) (ts : List OpenTransaction) (k : KeepsTransactions p entries ts) where
    -- each number is that of an entry which came
    pub numbers_below : All (λ (t : OpenTransaction). tx_number t < length entries + 1) ts
    numbers_below = All-weaker (IsKeptTransaction p entries) (λ (t : OpenTransaction). tx_number t < length entries + 1)
        (λ t h. let le = tx_of_below entries t.session in let is : tx_of entries t.session ≡ t.number = h.is_open in omega arith) ts k.each

    -- the mask of a transaction that is some session's
    wrote_there : (b s : ℕ) → tx_of entries s ≢ 0 → in_mask (wrote_of (numbered tx_number ts (tx_of entries s))) b ≡ wrote_at p b (tx_of entries s) entries
    wrote_there b s some =
        let q = member_holds tx_number (IsKeptTransaction p entries) ts (tx_of entries s) k.each (sym (found_by_test tx_number ts (tx_of entries s)) ∙ k.complete s some) in
        ap (λ o. in_mask (wrote_of o) b) q.1 ∙ (q.3.wrote b ∙ ap (λ n. wrote_at p b n entries) q.2)

    -- none has the number 0
    wrote_zero : (b : ℕ) → in_mask (wrote_of (numbered tx_number ts 0)) b ≡ false
    wrote_zero b = one (numbered tx_number ts 0) refl
      where
        one : (o : Option OpenTransaction) → numbered tx_number ts 0 ≡ o → in_mask (wrote_of o) b ≡ false
        one None is = has-zero b
        one (Some t) is =
            let some : 0 < t.number = (found_holds tx_number (IsKeptTransaction p entries) ts 0 t k.each is).number in
            let none : t.number ≡ 0 = found_number tx_number ts 0 t is in
            absurd (omega arith)

    -- what an entry of no table concerns
    pub concerns_tx : (b : ℕ) → IsFitEntry entries e → table_changed e.act ≡ None → in_mask (wrote_of (numbered tx_number ts e.tx)) b ≡ concerns p b entries e.tx e.act
    concerns_tx b fit none = one e.act refl none
      where
        ended : is_end e.act ≡ true → in_mask (wrote_of (numbered tx_number ts e.tx)) b ≡ wrote_at p b e.tx entries
        ended is = let x = ends_some entries e fit is in subst (λ n. in_mask (wrote_of (numbered tx_number ts n)) b ≡ wrote_at p b n entries) x.1 (wrote_there b x.0 (λ z. x.2 (sym x.1 ∙ z)))

        one : (a : Act) → e.act ≡ a → table_changed a ≡ None → in_mask (wrote_of (numbered tx_number ts e.tx)) b ≡ concerns p b entries e.tx a
        one act.Begin is changes = ap (λ n. in_mask (wrote_of (numbered tx_number ts n)) b) (begin_fits entries e fit is).0 ∙ wrote_zero b
        one (act.Write w) is changes = absurd (cc changes)
        one (act.Create c) is changes = absurd (cc changes)
        one (act.Drop table) is changes = absurd (cc changes)
        one act.Commit is changes = ended (ap is_end is)
        one act.Abort is changes = ended (ap is_end is)

    module _ (fits : AreFit entries) (fit : IsFitEntry entries e) (mask : ℕ) (concerned : (b : ℕ) → in_mask mask b ≡ concerns p b entries e.tx e.act) where
      -- an entry that begins and ends nothing, and writes nothing for this transaction
      else_tx : (t : OpenTransaction) → is_begin e.act ≡ false → is_end e.act ≡ false → ((b : ℕ) → writes_at p b t.number e.tx e.act ≡ false) → IsKeptTransaction p entries t → IsKeptTransaction p more t
      else_tx t is on none h = record { number = h.number; is_open = tx_of_else entries e t.session is on ∙ h.is_open; wrote = λ b. h.wrote b ∙ sym (wrote_same p b t.number entries e (none b)) }

      else_txs : is_begin e.act ≡ false → is_end e.act ≡ false → ((b n : ℕ) → writes_at p b n e.tx e.act ≡ false) → KeepsTransactions p more ts
      else_txs is on none = record {
        each = All-weaker (IsKeptTransaction p entries) (IsKeptTransaction p more) (λ t h. else_tx t is on (λ b. none b t.number) h) ts k.each;
        complete = λ s some. let same = tx_of_else entries e s is on in ap (λ n. list_any (λ t. tx_number t == n) ts) same ∙ k.complete s (λ z. some (same ∙ z));
      }

      -- a write
      written_tx : (t : OpenTransaction) → tx_number t ≡ e.tx → is_begin e.act ≡ false → is_end e.act ≡ false → ((b : ℕ) → writes_at p b e.tx e.tx e.act ≡ concerns p b entries e.tx e.act)
          → IsKeptTransaction p entries t → IsKeptTransaction p more (record t { wrote = bit_or t.wrote mask })
      written_tx t same is on writes h = record {
        number = h.number;
        is_open = tx_of_else entries e t.session is on ∙ h.is_open;
        wrote =
            λ b.
            let here : writes_at p b t.number e.tx e.act ≡ concerns p b entries e.tx e.act = ap (λ n. writes_at p b n e.tx e.act) same ∙ writes b in
            has-or t.wrote mask b ∙ rw (h.wrote b, concerned b, wrote-push p b t.number entries e, here) refl;
      }

      written_txs : (w : Write) → e.act ≡ act.Write w → KeepsTransactions p more (with_wrote e.tx mask ts)
      written_txs w is =
          let begins : is_begin e.act ≡ false = ap is_begin is in
          let ends : is_end e.act ≡ false = ap is_end is in
          let writes : (b : ℕ) → writes_at p b e.tx e.tx e.act ≡ concerns p b entries e.tx e.act = λ b. ap (writes_at p b e.tx e.tx) is ∙ (rw (eq-eqb e.tx e.tx refl) refl ∙ sym (ap (concerns p b entries e.tx) is)) in
          record {
            each =
                all_changed tx_number (IsKeptTransaction p entries) (IsKeptTransaction p more) (λ t. record t { wrote = bit_or t.wrote mask }) ts e.tx
                (λ t same h. written_tx t same begins ends writes h)
                (λ t ne h. else_tx t begins ends (λ b. writes_other p b t.number e.tx e.act (λ q. ne (sym q))) h) k.each;
            complete =
                λ s some.
                let same = tx_of_else entries e s begins ends in
                any_changed tx_number (λ t. record t { wrote = bit_or t.wrote mask }) (λ t. refl) ts e.tx (tx_of more s)
                ∙ (ap (λ n. list_any (λ t. tx_number t == n) ts) same ∙ k.complete s (λ z. some (same ∙ z)));
          }

      -- BEGIN
      begun_txs : e.act ≡ act.Begin → KeepsTransactions p more (ts ++ new_tx (length entries + 1) e.session ∷ [])
      begun_txs is =
          let none : (b n : ℕ) → writes_at p b n e.tx e.act ≡ false = λ b n. ap (writes_at p b n e.tx) is in
          let idle : tx_of entries e.session ≡ 0 = (begin_fits entries e fit is).1 in
          let old : (t : OpenTransaction) → IsKeptTransaction p entries t → IsKeptTransaction p more t = λ t h.
          let some : 0 < t.number = h.number in
          let open_now : tx_of entries t.session ≡ t.number = h.is_open in
          let other : e.session ≢ t.session = λ (q : e.session ≡ t.session). let both : t.number ≡ 0 = sym open_now ∙ (ap (tx_of entries) (sym q) ∙ idle) in omega arith in
          record { number = h.number; is_open = tx_of_begin_other entries e t.session is other ∙ h.is_open; wrote = λ b. h.wrote b ∙ sym (wrote_same p b t.number entries e (none b t.number)) } in
          let new : IsKeptTransaction p more (new_tx (length entries + 1) e.session) = record {
            number = omega arith;
            is_open = tx_of_begin entries e is;
            wrote = λ b. has-zero b ∙ sym (wrote_same p b (length entries + 1) entries e (none b (length entries + 1)) ∙ wrote_none p b (length entries + 1) entries fits (omega arith));
          } in
          record {
            each = All-push (IsKeptTransaction p more) ts (new_tx (length entries + 1) e.session) (All-weaker (IsKeptTransaction p entries) (IsKeptTransaction p more) old ts k.each) new;
            complete = λ s some. list_any-append (λ t. tx_number t == tx_of more s) ts (new_tx (length entries + 1) e.session ∷ []) ∙ complete s some;
          }
        where
          or_last : (c d : Bool) → d ≡ true → (c || (d || false)) ≡ true
          or_last true d is = refl
          or_last false true is = refl
          or_last false false is = absurd (cc is)

          or_first : (c d : Bool) → c ≡ true → (c || d) ≡ true
          or_first true d is = refl
          or_first false d is = absurd (cc is)

          complete : (s : ℕ) → tx_of more s ≢ 0 → (list_any (λ t. tx_number t == tx_of more s) ts || list_any (λ t. tx_number t == tx_of more s) (new_tx (length entries + 1) e.session ∷ [])) ≡ true
          complete s some =
              ⊎_elim
              (λ (own : e.session ≡ s).
              or_last (list_any (λ t. tx_number t == tx_of more s) ts) (length entries + 1 == tx_of more s) (eq-eqb _ _ (sym (ap (tx_of more) (sym own) ∙ tx_of_begin entries e is))))
              (λ (ne : e.session ≡ s → ⊥).
              let same = tx_of_begin_other entries e s is ne in
              or_first (list_any (λ t. tx_number t == tx_of more s) ts) _ (ap (λ n. list_any (λ t. tx_number t == n) ts) same ∙ k.complete s (λ z. some (same ∙ z))))
              (cases_eq e.session s)

      -- COMMIT and ABORT
      ended_txs : is_end e.act ≡ true → KeepsTransactions p more (without tx_number e.tx ts)
      ended_txs is =
          let none : (b n : ℕ) → writes_at p b n e.tx e.act ≡ false = λ b n. ends_nothing b n e.act is in
          record {
            each =
                all_without tx_number (IsKeptTransaction p entries) (IsKeptTransaction p more) ts e.tx
                (λ t ne h.
                record {
                  number = h.number;
                  is_open = tx_of_end_other entries e t.session is (λ q. ne (sym h.is_open ∙ sym q)) ∙ h.is_open;
                  wrote = λ b. h.wrote b ∙ sym (wrote_same p b t.number entries e (none b t.number));
                }) k.each;
            complete =
                λ s some.
                ⊎_elim (λ (own : e.tx ≡ tx_of entries s). absurd (some (tx_of_end entries e s is own)))
                (λ (ne : e.tx ≡ tx_of entries s → ⊥).
                let same : tx_of more s ≡ tx_of entries s = tx_of_end_other entries e s is ne in
                any_without tx_number ts e.tx (tx_of more s) (λ q. ne (sym q ∙ same))
                (ap (λ n. list_any (λ t. tx_number t == n) ts) same ∙ k.complete s (λ z. some (same ∙ z))))
                (cases_eq e.tx (tx_of entries s));
          }
        where
          ends_nothing : (b n : ℕ) (a : Act) → is_end a ≡ true → writes_at p b n e.tx a ≡ false
          ends_nothing b n act.Begin is = refl
          ends_nothing b n (act.Write w) is = absurd (cc is)
          ends_nothing b n (act.Create c) is = refl
          ends_nothing b n (act.Drop table) is = refl
          ends_nothing b n act.Commit is = refl
          ends_nothing b n act.Abort is = refl

      -- one more entry, after which each transaction is so
      pub transactions_push : KeepsTransactions p more (transactions_after ts (length entries + 1) mask e e.act)
      transactions_push = one e.act refl
        where
          one : (a : Act) → e.act ≡ a → KeepsTransactions p more (transactions_after ts (length entries + 1) mask e a)
          one act.Begin is = begun_txs is
          one (act.Write w) is = written_txs w is
          one (act.Create c) is = else_txs (ap is_begin is) (ap is_end is) (λ b n. ap (writes_at p b n e.tx) is)
          one (act.Drop table) is = else_txs (ap is_begin is) (ap is_end is) (λ b n. ap (writes_at p b n e.tx) is)
          one act.Commit is = ended_txs (ap is_end is)
          one act.Abort is = ended_txs (ap is_end is)

-- the numbers of the open transactions are below that of the next entry
pub numbers_before : (p : Placement) (entries : List Entry) (ts : List OpenTransaction) (n : ℕ) (e : Entry) → KeepsTransactions p entries ts → n ≡ length entries + 1 → All (λ (t : OpenTransaction). tx_number t < n) ts
numbers_before p entries ts n e k count = subst (λ m. All (λ (t : OpenTransaction). tx_number t < m) ts) (sym count) (numbers_below entries e p ts k)
