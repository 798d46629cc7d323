-- What the book's answers say of the core.
use Rattle.std.proofs.Common.{◌≡◌, ℕ, ◌+◌, ◌<◌, ◌++◌, ◌∷◌, [], List, length, None, Result, Ok, Err, OnOk, OnErr, ⊎_elim, ap, sym, ◌∙◌, subst, refl, arith, length-append, Bool, inl, ◌≤◌}
use Rattle.std.specs.Prelude.{IfOk, IfErr, ◌↔◌, ◌⊎◌}
use Rattle.cj_state.proofs.Common.{BookError, CellState, core_of, Dump, Entry, Event, events_left, FollowsLog, HadLoggedRoom, HadRoom, HistoryFull, InProgress, KeptFresh, log, log-same, log-sched, LogFailed, LogFault, NoBackend, NoMemory, OpenSession, placement_of, Register, Sched, scheduled_entry, SchedulesAs, session_at, Tally, world_of}
use Rattle.cj_book.specs.Books.{BookState, with_event, HasNoRoomForOne, CanSchedule, IsFull, IsWant, with_entry}
use Rattle.cj_book.specs.Events.{Schedules}
use Rattle.cj_log.specs.Logs.{LogState}
use Rattle.cj_state.proofs.Dumped.{dumps_event}
use Rattle.cj_state.proofs.Fresh.{follows_entry, follows_event, fresh_event}
use Rattle.cj_state.proofs.KeepingEvents.{kept_log_failed}

-- an event has come into the book where there was room, or nothing has changed
pub noted : {T : Type 0} (r : Result T BookError) (old new : BookState) (e : Event) (Q : BookState → Type 0) → OnOk r (new ≡ with_event old e) → OnErr r (new ≡ old) → OnOk r (0 < events_left old.history)
    → (0 < events_left old.history → Q (with_event old e)) → Q old → Q new
noted (Ok x) old new e Q ok err space came same = subst Q (sym ok) (came space)
noted (Err d) old new e Q ok err space came same = subst Q (sym err) same

-- whether there was room for it
pub had_room : {T : Type 0} (cells : List CellState) (f s : ℕ) (ss : List OpenSession) (g : ℕ) (ds : List Dump) (b : BookState) (r : Result T BookError) → OnOk r (0 < events_left b.history) → ((n : ℕ) → r ≡ Err (HistoryFull n) ↔ HasNoRoomForOne b n) → IfErr r IsFull
    → HadRoom (core_of b.layout b.history cells f s ss g ds) r
had_room cells f s ss g ds b (Ok x) space full want = space
had_room cells f s ss g ds b (Err (InProgress n)) space full want = want
had_room cells f s ss g ds b (Err NoBackend) space full want = want
had_room cells f s ss g ds b (Err (HistoryFull n)) space full want =
    let q = (full n).0 refl in
    let lt : events_left b.history < 1 = q.full in
    (omega arith, q.events)
had_room cells f s ss g ds b (Err LogFault) space full want = want
had_room cells f s ss g ds b (Err NoMemory) space full want = want

-- the same of what stands in the log first
pub had_logged_room : {T : Type 0} (cells : List CellState) (f s : ℕ) (ss : List OpenSession) (g : ℕ) (ds : List Dump) (b : BookState) (r : Result T BookError) → OnOk r (0 < events_left b.history) → ((n : ℕ) → r ≡ Err (HistoryFull n) ↔ HasNoRoomForOne b n)
    → IfErr r (λ error. IsWant error ⊎ (error ≡ LogFault)) → (r ≡ Err LogFault → 0 < events_left b.history) → HadLoggedRoom (core_of b.layout b.history cells f s ss g ds) r
had_logged_room cells f s ss g ds b (Ok x) space full want faulted = space
had_logged_room cells f s ss g ds b (Err (InProgress n)) space full want faulted = ⊎_elim (λ (w : ⊥). absurd w) (λ (e : InProgress n ≡ LogFault). cc e) want
had_logged_room cells f s ss g ds b (Err NoBackend) space full want faulted = ⊎_elim (λ (w : ⊥). absurd w) (λ (e : NoBackend ≡ LogFault). cc e) want
had_logged_room cells f s ss g ds b (Err (HistoryFull n)) space full want faulted =
    let q = (full n).0 refl in
    let lt : events_left b.history < 1 = q.full in
    (omega arith, q.events)
had_logged_room cells f s ss g ds b (Err LogFault) space full want faulted = faulted refl
had_logged_room cells f s ss g ds b (Err NoMemory) space full want faulted = tt

-- What holds of a book but for its log holds after a call that writes to the log first: an event has come, or that of a fault of the log's store, for each of which there was room, or nothing has changed.
pub logged : {T : Type 0} (r : Result T BookError) (old new : BookState) (e fault : Event) (Q : BookState → Type 0) → OnOk r (new ≡ with_event old e) → (r ≡ Err LogFault → new ≡ with_event old fault)
    → OnErr r ((r ≡ Err LogFault → ⊥) → new ≡ old) → OnOk r (0 < events_left old.history) → (r ≡ Err LogFault → 0 < events_left old.history) → (0 < events_left old.history → Q (with_event old e))
    → (0 < events_left old.history → Q (with_event old fault)) → Q old → Q new
logged (Ok x) old new e fault Q ok failed same space faulted came fault_came stays = subst Q (sym ok) (came space)
logged (Err (InProgress n)) old new e fault Q ok failed same space faulted came fault_came stays = subst Q (sym (same (λ is. cc is))) stays
logged (Err NoBackend) old new e fault Q ok failed same space faulted came fault_came stays = subst Q (sym (same (λ is. cc is))) stays
logged (Err (HistoryFull n)) old new e fault Q ok failed same space faulted came fault_came stays = subst Q (sym (same (λ is. cc is))) stays
logged (Err LogFault) old new e fault Q ok failed same space faulted came fault_came stays = subst Q (sym (failed refl)) (fault_came (faulted refl))
logged (Err NoMemory) old new e fault Q ok failed same space faulted came fault_came stays = subst Q (sym (same (λ is. cc is))) stays

-- the same where it is known to be refused
pub refused : {T : Type 0} (r : Result T BookError) (d : BookError) → r ≡ Err d → (old new : BookState) (fault : Event) (Q : BookState → Type 0) → (r ≡ Err LogFault → new ≡ with_event old fault)
    → OnErr r ((r ≡ Err LogFault → ⊥) → new ≡ old) → (r ≡ Err LogFault → Q (with_event old fault)) → Q old → Q new
refused (Ok x) d is old new fault Q failed same fault_came stays = absurd (cc is)
refused (Err (InProgress n)) d is old new fault Q failed same fault_came stays = subst Q (sym (same (λ e. cc e))) stays
refused (Err NoBackend) d is old new fault Q failed same fault_came stays = subst Q (sym (same (λ e. cc e))) stays
refused (Err (HistoryFull n)) d is old new fault Q failed same fault_came stays = subst Q (sym (same (λ e. cc e))) stays
refused (Err LogFault) d is old new fault Q failed same fault_came stays = subst Q (sym (failed refl)) (fault_came refl)
refused (Err NoMemory) d is old new fault Q failed same fault_came stays = subst Q (sym (same (λ e. cc e))) stays

-- it stands behind the entries from before it
pub behind_as_many : (r : Result ℕ BookError) (old new : BookState) (e : Event) → scheduled_entry e ≡ None → OnOk r (new ≡ with_event old e) → IfOk r (λ n. n ≡ length (log new.history)) → IfOk r (λ n. n ≡ length (log old.history))
behind_as_many (Ok n) old new e none ok number = number ∙ (ap (λ (b : BookState). length (log b.history)) ok ∙ ap length (log-same old.history e none))
behind_as_many (Err d) old new e none ok number = tt

-- ---- a schedule

module _ {S : Type 0} {tells : Bool} {faults moment : S → ℕ} {since : S → ℕ → List ℕ → Type 0} {may : S → List ℕ → Type 0} {old : BookState} {before after : LogState S} {e : Entry} {r : Result ℕ BookError} {new : BookState} (how : Schedules tells faults moment since may old before e r new after) where
  module _ (cells : List CellState) (f s : ℕ) (ss : List OpenSession) (ds : List Dump) where
    -- the entry was scheduled
    pub scheduled_as : (n : ℕ) → r ≡ Ok n → SchedulesAs (core_of old.layout old.history cells f s ss old.greatest ds) e (Ok n)
    scheduled_as n is =
        let can : CanSchedule old e.act = subst (λ (q : Result ℕ BookError). OnOk q (CanSchedule old e.act)) is how.ready in
        let ok : new ≡ with_entry old e = subst (λ (q : Result ℕ BookError). OnOk q (new ≡ with_entry old e)) is how.ok in
        let number : n ≡ length (log new.history) = subst (λ (q : Result ℕ BookError). IfOk q (λ m. m ≡ length (log new.history))) is how.number in
        let l : length (log (old.history ++ Sched e ∷ [])) ≡ length (log old.history) + 1 = ap length (log-sched old.history e) ∙ length-append (log old.history) (e ∷ []) in
        (number ∙ (ap (λ (x : BookState). length (log x.history)) ok ∙ l), can.served, can.space)

    -- or it was not
    pub not_scheduled : (d : BookError) → r ≡ Err d → SchedulesAs (core_of old.layout old.history cells f s ss old.greatest ds) e (Err d)
    not_scheduled (InProgress n) is = ((how.in_progress n).0 is).open_now
    not_scheduled NoBackend is = (how.no_backend.0 is).unserved
    not_scheduled (HistoryFull n) is = let q = (how.full n).0 is in (q.events, q.served, q.full)
    not_scheduled LogFault is = let can = how.faulted is in (can.served, can.space)
    not_scheduled NoMemory is = tt

  -- the cache follows the log
  pub follows_scheduled : (n : ℕ) → r ≡ Ok n → FollowsLog (log old.history) (log new.history) old.cache new.cache
  follows_scheduled n is =
      let ok : new ≡ with_entry old e = subst (λ (q : Result ℕ BookError). OnOk q (new ≡ with_entry old e)) is how.ok in
      rw ok (follows_entry old.history old.cache e)

  -- where it was not, what the log does and an event of its fault leave holds
  pub unscheduled : (d : BookError) → r ≡ Err d → (Q : BookState → Type 0) → (CanSchedule old e.act → Q (with_event old (LogFailed e.session e.seq)))
      → Q old → Q new
  unscheduled d is Q came stays = refused r d is old new (LogFailed e.session e.seq) Q how.log_fault how.same (λ fault. came (how.faulted fault)) stays

  pub follows_unscheduled : (d : BookError) → r ≡ Err d → FollowsLog (log old.history) (log new.history) old.cache new.cache
  follows_unscheduled d is =
      unscheduled d is (λ (b : BookState). FollowsLog (log old.history) (log b.history) old.cache b.cache) (λ can. follows_event old.history old.cache (LogFailed e.session e.seq) refl) (inl (refl, refl))

  -- a fault of the log is one in a request of a session that reads nothing, or in the administrator's move
  pub kept_unscheduled : (reg : Register) (cells : List CellState) (f s : ℕ) (ss : List OpenSession) (ds : List Dump) (tally : Tally) (backends : Bool) (d : BookError) → r ≡ Err d
      → KeptFresh backends (world_of reg old.layout old.history cells f s ss old.greatest ds) old.sessions tally old.cache ds → e.session ≤ old.greatest
      → (0 < e.session → (session_at (core_of old.layout old.history cells f s ss old.greatest ds) e.session).reading ≡ None)
      → KeptFresh backends (world_of reg new.layout new.history cells f s ss new.greatest ds) new.sessions tally new.cache ds
  kept_unscheduled reg cells f s ss ds tally backends d is kept given none =
      unscheduled d is (λ (b : BookState). KeptFresh backends (world_of reg b.layout b.history cells f s ss b.greatest ds) b.sessions tally b.cache ds)
      (λ can.
      let space : 3 ≤ events_left old.history = can.space in (
        kept_log_failed backends reg old.layout old.history cells f s ss old.greatest ds old.sessions tally kept.0 e.session e.seq can.is_free given (omega arith) none,
        fresh_event old.history old.cache backends (LogFailed e.session e.seq) refl kept.1,
        dumps_event backends (placement_of old.layout) old.history ds kept.2 (LogFailed e.session e.seq) refl,
      ))
      kept
