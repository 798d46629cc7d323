-- What follows from a history with one more event.
use Rattle.std.proofs.Common.{◌≡◌, ◌≢◌, inl, inr, ℕ, ◌+◌, ◌-◌, ◌*◌, ◌^◌, ◌<◌, ◌≤◌, ◌==◌, ◌&&◌, not, Bool, true, false, List, [], ◌∷◌, ◌++◌, length, map, Option, None, Some, is_some, bit_and, refl, ap, sym, ◌∙◌, subst, arith, ⊎_elim}
use Rattle.std.proofs.lemmas.List.Elements.{All-filter}
use Rattle.cj_book.proofs.Common.{and_parts, AreFitMasks, BookSession, BookState, bytes_eq, concerns, Disabled, Enabled, Ended, Entry, entry_numbered, eqb-false, Event, has-and, has-zero, has_session, in_mask, is_end, is_orphan, is_orphan_of, is_target_at, IsAdministratorEntry, IsAllowedEvent, IsFitEntry, IsOfGiven, IsOfKnown, IsSessionEntry, Layout, legal_fit, list_any, LogFailed, Marker, book_session, numbered, OpenTransaction, Placement, placement_of, ReadFailed, Sched, session_number, sessions_after, transactions_after, without}
use Rattle.cj_model.specs.Cluster.Caching.{CacheState}
use Rattle.cj_model.specs.Cluster.Balancing.{Balance}
use Rattle.cj_cluster.specs.History.Histories.{scheduled_entry, is_end_event, log, ended_count, is_free, open_entry_of, is_enabled, events_left, markers, tx_of}
use Rattle.cj_cluster.proofs.Pushed.{enabled-push, log-sched, log-same, legal_push, opened-sched, opened-same, opened-free, opened-ended}
use Rattle.cj_book.specs.Kept.{KeepsTargets, Follows}
use Rattle.cj_transactions.specs.Kept.{IsKeptSession, KeepsSessions, KeepsTransactions}
use Rattle.cj_transactions.proofs.Numbered.{found_among, found_holds, found_number, member_holds}
use Rattle.cj_transactions.proofs.TransactionSteps.{EndsOf, own_end, numbered_entry, concerns_push, sessions_opened, sessions_push, transactions_push}

-- the targets of an entry, where nothing changed for it
target_same : (p : Placement) (g h : List Event) (o : Option Entry) (k : ℕ) → is_enabled g k ≡ is_enabled h k → log g ≡ log h → is_target_at p g o k ≡ is_target_at p h o k
target_same p g h None k on entries = refl
target_same p g h (Some e) k on entries = rw (on, entries) refl

module _ (layout : Layout) (h : List Event) (greatest mask : ℕ) (ss : List BookSession) (ts : List OpenTransaction) (f : Follows layout h greatest mask ss ts) where
  abbrev p : Placement
  p = placement_of layout

  -- an event that schedules nothing
  follows_same : (new : Event) (mask' : ℕ) → scheduled_entry new ≡ None → length h < 2 ^ 62 → IsAllowedEvent h new → KeepsTargets p (h ++ new ∷ []) mask' → Follows layout (h ++ new ∷ []) greatest mask' ss ts
  follows_same new mask' no_entry space allowed for =
      let entries : log (h ++ new ∷ []) ≡ log h = log-same h new no_entry in
      record {
        legal = legal_push h new f.legal space allowed;
        sessions = subst (λ (l : List Entry). KeepsSessions l greatest ss) (sym entries) f.sessions;
        transactions = subst (λ (l : List Entry). KeepsTransactions p l ts) (sym entries) f.transactions;
        targets = for;
      }

  -- while no entry is open, there is no target
  no_targets : (new : Event) → scheduled_entry new ≡ None → is_end_event new ≡ false → is_free h ≡ true → KeepsTargets p (h ++ new ∷ []) mask
  no_targets new no_entry no_end idle b =
      let before : open_entry_of h ≡ None = opened-free h idle in
      f.targets b ∙ (ap (λ o. is_target_at p h o b) before ∙ sym (ap (λ o. is_target_at p (h ++ new ∷ []) o b) (opened-same h new no_entry no_end ∙ before)))

  pub follows_disabled : (b : ℕ) → 0 < events_left h → is_free h ≡ true → is_enabled h b ≡ true → Follows layout (h ++ Disabled b ∷ []) greatest mask ss ts
  follows_disabled b space idle on = follows_same (Disabled b) mask refl (omega arith) (idle, on) (no_targets (Disabled b) refl refl idle)

  pub follows_enabled : (b : ℕ) → 0 < events_left h → is_free h ≡ true → is_enabled h b ≡ false → Follows layout (h ++ Enabled b ∷ []) greatest mask ss ts
  follows_enabled b space idle off = follows_same (Enabled b) mask refl (omega arith) (idle, off) (no_targets (Enabled b) refl refl idle)

  pub follows_read_failed : (s q b : ℕ) → 0 < events_left h → Follows layout (h ++ ReadFailed s q b ∷ []) greatest mask ss ts
  follows_read_failed s q b space =
      follows_same (ReadFailed s q b) mask refl (omega arith) tt
      (λ k.
      f.targets k
      ∙ (sym (target_same p (h ++ ReadFailed s q b ∷ []) h (open_entry_of h) k (enabled-push h (ReadFailed s q b) k) (log-same h (ReadFailed s q b) refl))
      ∙ sym (ap (λ o. is_target_at p (h ++ ReadFailed s q b ∷ []) o k) (opened-same h (ReadFailed s q b) refl refl))))

  pub follows_log_failed : (s q : ℕ) → 0 < events_left h → is_free h ≡ true → Follows layout (h ++ LogFailed s q ∷ []) greatest mask ss ts
  follows_log_failed s q space idle = follows_same (LogFailed s q) mask refl (omega arith) idle (no_targets (LogFailed s q) refl refl idle)

  pub follows_marker : (name : List ℕ) (b : Option ℕ) → 0 < events_left h → is_free h ≡ true → list_any (bytes_eq name) (markers h) ≡ false → Follows layout (h ++ Marker name b ∷ []) greatest mask ss ts
  follows_marker name b space idle fresh = follows_same (Marker name b) mask refl (omega arith) (idle, fresh) (no_targets (Marker name b) refl refl idle)

  pub follows_ended : (failed starved : ℕ) → length h + 2 * (length (log h) - ended_count h) ≤ 2 ^ 62 → is_free h ≡ false → (ended_count h ≤ length (log h)) × (length (log h) ≤ ended_count h + 1) → AreFitMasks h failed starved
      → Follows layout (h ++ Ended failed starved ∷ []) greatest 0 ss ts
  follows_ended failed starved short is_open one_open masks =
      let ends : ended_count h ≢ length (log h) = eqb-false _ _ is_open in
      let most : ended_count h ≤ length (log h) = one_open.0 in
      follows_same (Ended failed starved) 0 refl (omega arith) (is_open, masks)
      (λ k. has-zero k ∙ sym (ap (λ o. is_target_at p (h ++ Ended failed starved ∷ []) o k) (opened-ended h failed starved is_open one_open.0 one_open.1)))

  -- ---- sessions

  -- one more
  pub follows_opened : Follows layout h (greatest + 1) mask (ss ++ book_session (greatest + 1) ∷ []) ts
  follows_opened = record { legal = f.legal; sessions = sessions_opened (log h) greatest ss f.sessions; transactions = f.transactions; targets = f.targets }

  -- one less
  pub follows_closed : (n : ℕ) → Follows layout h greatest mask (without session_number n ss) ts
  follows_closed n = record {
    legal = f.legal;
    sessions = record { each = All-filter (λ s. not (session_number s == n)) (IsKeptSession (log h) greatest) ss f.sessions.each; known = f.sessions.known };
    transactions = f.transactions;
    targets = f.targets;
  }

  -- the transaction of an open one
  pub tx_open : (n : ℕ) (s : BookSession) → numbered session_number ss n ≡ Some s → s.tx ≡ tx_of (log h) n
  tx_open n s is =
      (found_holds session_number (IsKeptSession (log h) greatest) ss n s f.sessions.each is).tx ∙ ap (tx_of (log h)) (found_number session_number ss n s is)

  -- ---- an entry that is scheduled

  module _ (balance : Balance) (cache : CacheState) (e : Entry) where
    abbrev book : BookState
    book = record { layout = layout; history = h; sessions = map session_number ss; greatest = greatest; balance = balance; cache = cache }

    -- an open session's number was given
    given_number : has_session book e.session ≡ true → (0 < e.session) × (e.session ≤ greatest)
    given_number here =
        let q = member_holds session_number (IsKeptSession (log h) greatest) ss e.session f.sessions.each (sym (found_among session_number ss e.session) ∙ here) in
        let same : q.0.number ≡ e.session = q.2 in
        let low : 0 < q.0.number = q.3.number.0 in
        let high : q.0.number ≤ greatest = q.3.number.1 in
        (omega arith, omega arith)

    pub given_session : IsOfKnown book e → e.session ≤ greatest
    given_session known = ⊎_elim (λ (here : has_session book e.session ≡ true). (given_number here).1) (λ (q : (e.session ≡ 0) × (is_orphan book e.tx ≡ true)). let z : e.session ≡ 0 = q.0 in omega arith) known

    -- the session of an orphan isn't open
    closed : (begin : Entry) (at : ℕ) → e.tx ≡ at + 1 → entry_numbered (log h) (at + 1) ≡ Some begin → is_orphan book e.tx ≡ true → is_some (numbered session_number ss begin.session) ≡ false
    closed begin at tx is orphan =
        let found : entry_numbered (log h) e.tx ≡ Some begin = ap (entry_numbered (log h)) tx ∙ is in
        let both : (tx_of (log h) begin.session == e.tx && not (has_session book begin.session)) ≡ true = sym (ap (is_orphan_of book e.tx) found) ∙ orphan in
        sym (found_among session_number ss begin.session) ∙ off (has_session book begin.session) (and_parts (tx_of (log h) begin.session == e.tx) (not (has_session book begin.session)) both).1
      where
        off : (b : Bool) → not b ≡ true → b ≡ false
        off true n = absurd (cc n)
        off false n = refl

    pub given_known : IsOfKnown book e → IsOfGiven book e
    given_known known = ⊎_elim (λ (here : has_session book e.session ≡ true). inl (given_number here)) (λ (q : (e.session ≡ 0) × (is_orphan book e.tx ≡ true)). inr q) known

    within : IsOfGiven book e → e.session ≤ greatest
    within given = ⊎_elim (λ (here : (0 < e.session) × (e.session ≤ greatest)). here.1) (λ (q : (e.session ≡ 0) × (is_orphan book e.tx ≡ true)). let z : e.session ≡ 0 = q.0 in omega arith) given

    -- whose transaction it ends
    pub ends_of : IsFitEntry (log h) e → IsOfGiven book e → is_end e.act ≡ true → EndsOf (log h) ss e
    ends_of fit given is =
        ⊎_elim
        (λ (s : IsSessionEntry (log h) e). let q = own_end (log h) e s is in record { owner = e.session; tx = sym q.1; some = q.0; whose = inl refl })
        (λ (a : IsAdministratorEntry (log h) e).
        let tx : e.tx ≡ a.at + 1 = a.tx in
        let none : e.session ≡ 0 = a.session in
        let some : e.tx ≢ 0 = omega arith in
        ⊎_elim
        (λ (here : (0 < e.session) × (e.session ≤ greatest)). let low : 0 < e.session = here.0 in absurd (omega arith))
        (λ (q : (e.session ≡ 0) × (is_orphan book e.tx ≡ true)).
        record { owner = a.begin.session; tx = a.is_open; some = some; whose = inr (none, closed a.begin a.at tx (numbered_entry (log h) a.at ∙ a.began) q.1) }) given)
        fit.by

    pub follows_sched : (hosts on : ℕ) → IsFitEntry (log h) e → IsOfGiven book e → is_free h ≡ true → length h < 2 ^ 62 → ((b : ℕ) → in_mask hosts b ≡ concerns p b (log h) e.tx e.act) → ((b : ℕ) → in_mask on b ≡ is_enabled h b)
        → Follows layout (h ++ Sched e ∷ []) greatest (bit_and on hosts) (sessions_after ss (length (log h) + 1) e e.act) (transactions_after ts (length (log h) + 1) hosts e e.act)
    follows_sched hosts on fit given idle space concerned enabled =
        let entries : log (h ++ Sched e ∷ []) ≡ log h ++ e ∷ [] = log-sched h e in
        record {
          legal = legal_push h (Sched e) f.legal space (idle, fit);
          sessions = subst (λ (l : List Entry). KeepsSessions l greatest (sessions_after ss (length (log h) + 1) e e.act)) (sym entries) (sessions_push (log h) e greatest ss f.sessions (within given) (ends_of fit given));
          transactions =
              subst (λ (l : List Entry). KeepsTransactions p l (transactions_after ts (length (log h) + 1) hosts e e.act)) (sym entries)
              (transactions_push (log h) e p ts f.transactions (legal_fit h f.legal) fit hosts concerned);
          targets =
              λ b.
              let now : is_target_at p (h ++ Sched e ∷ []) (Some e) b ≡ (is_enabled h b && concerns p b (log h) e.tx e.act) =
              ap (λ x. x && concerns p b (log (h ++ Sched e ∷ [])) e.tx e.act) (enabled-push h (Sched e) b)
              ∙ ap (λ x. is_enabled h b && x) (ap (λ (l : List Entry). concerns p b l e.tx e.act) entries ∙ concerns_push p b (log h) e) in
              has-and on hosts b ∙ (rw (enabled b, concerned b) refl ∙ (sym now ∙ sym (ap (λ o. is_target_at p (h ++ Sched e ∷ []) o b) (opened-sched h e idle))));
        }
