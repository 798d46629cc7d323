-- Why what could come into the history didn't, and what an append that was tried came to.
use Rattle.std.proofs.Common.{◌≡◌, inl, inr, ℕ, ◌+◌, ◌<◌, ◌≤◌, Bool, true, List, [], ◌∷◌, ◌++◌, length, Option, Result, Ok, Err, OnOk, IsErrOf, refl, ap, sym, ◌∙◌, arith, subst, length-append}
use Rattle.std.specs.Prelude.{◌↔◌, IsErrAnd}
use Rattle.cj_book.proofs.Common.{Act, BookError, BookState, both_ways, Entry, entry_item, Event, events_left, HistoryFull, hosts_all, InProgress, is_free, IsBeforeOrAfter, items_of, LeavesItems, LeavesOnly, log, log-same, log-sched, LogError, LogFault, LogItem, Marker, marker_item, needs, NoBackend, NoMemory, Placement, placement_at, Refuses, Request, request_of}
use Rattle.cj_cluster.specs.History.Answering.{HasNoServer, HasServer}
use Rattle.cj_log.specs.Logs.{Adds, LogState}
use Rattle.cj_log.specs.declared.error.LogError.TheVariants as log_errors
use Rattle.cj_outside.specs.Causes.{CountsFault}
use Rattle.cj_book.specs.Books.{CanSchedule, Checks, HasNoBackend, HasNoRoomForOne, HasRoom, IsInProgress, IsWant, LacksRoom}
use Rattle.cj_book.specs.Events.{BeginsEntry, BeginsMarker, MarksCheckpoint, Schedules, entry_finished, finished_as, marker_finished}
use Rattle.cj_book.proofs.Logged.{items_marker, items_sched}

unserved : (p : Placement) (h : List Event) (r : Request) → HasNoServer p h r → HasServer p h r → ⊥
unserved p h r none some = let s = some none.0 in both_ways (hosts_all p s.0 (needs r)) (none.1 s.0 s.1.0) s.1.1

-- ---- an entry that may be scheduled

module _ {old : BookState} {a : Act} (can : CanSchedule old a) where
  not_open : (n : ℕ) → IsInProgress old n → ⊥
  not_open n p = both_ways (is_free old.history) p.open_now can.is_free

  not_unserved : HasNoBackend old a → ⊥
  not_unserved p = unserved (placement_at old) old.history (request_of a) p.unserved can.served

  not_full : (n : ℕ) → LacksRoom old a n → ⊥
  not_full n p = let few : events_left old.history < 3 = p.full in let space : 3 ≤ events_left old.history = can.space in absurd (omega arith)

-- ---- it begins

module _ {T : Type 0} (old : BookState) (a : Act) where
  refused_as : (d : BookError) → ¬ (d ≡ LogFault) → ((n : ℕ) → d ≡ InProgress n ↔ IsInProgress old n) → (d ≡ NoBackend ↔ HasNoBackend old a) → ((n : ℕ) → d ≡ HistoryFull n ↔ LacksRoom old a n) → (d ≡ NoMemory → CanSchedule old a) → BeginsEntry {T = T} old a (Err d)
  refused_as d other running nowhere full memory = record {
    ready = tt;
    in_progress = λ n. (λ is. (running n).0 (cc is), λ q. ap (λ (x : BookError). Err x) ((running n).1 q));
    no_backend = (λ is. nowhere.0 (cc is), λ q. ap (λ (x : BookError). Err x) (nowhere.1 q));
    full = λ n. (λ is. (full n).0 (cc is), λ q. ap (λ (x : BookError). Err x) ((full n).1 q));
    unfaulted = λ is. other (cc is);
    memory = λ is. memory (cc is);
  }

  -- but for the first reason against it
  checked_out : (d : BookError) → Checks {T = Unit} old a (Err d) → BeginsEntry {T = T} old a (Err d)
  checked_out (InProgress n) p = refused_as (InProgress n) (λ is. absurd (cc is))
      (λ m. (λ is. let same : n ≡ m = cc is in subst (IsInProgress old) same p, λ q. ap (λ k. InProgress k) (p.number ∙ sym q.number)))
      (λ is. absurd (cc is), λ q. absurd (both_ways (is_free old.history) p.open_now q.is_free))
      (λ m. (λ is. absurd (cc is), λ q. absurd (both_ways (is_free old.history) p.open_now q.is_free)))
      (λ is. absurd (cc is))
  checked_out NoBackend p = refused_as NoBackend (λ is. absurd (cc is))
      (λ m. (λ is. absurd (cc is), λ q. absurd (both_ways (is_free old.history) q.open_now p.is_free)))
      (λ is. p, λ q. refl)
      (λ m. (λ is. absurd (cc is), λ q. absurd (unserved (placement_at old) old.history (request_of a) p.unserved q.served)))
      (λ is. absurd (cc is))
  checked_out (HistoryFull n) p = refused_as (HistoryFull n) (λ is. absurd (cc is))
      (λ m. (λ is. absurd (cc is), λ q. absurd (both_ways (is_free old.history) q.open_now p.is_free)))
      (λ is. absurd (cc is), λ q. absurd (unserved (placement_at old) old.history (request_of a) q.unserved p.served))
      (λ m. (λ is. let same : n ≡ m = cc is in subst (LacksRoom old a) same p, λ q. ap (λ k. HistoryFull k) (p.events ∙ sym q.events)))
      (λ is. absurd (cc is))
  checked_out LogFault p = absurd p
  checked_out NoMemory p = absurd p

  pub unchecked : (r : Result T BookError) (d : BookError) → IsErrAnd r (λ x. x ≡ d) → Checks {T = Unit} old a (Err d) → BeginsEntry old a r
  unchecked (Ok n) d is p = absurd is
  unchecked (Err x) d is p = subst (λ (y : BookError). BeginsEntry {T = T} old a (Err y)) (sym is) (checked_out d p)

  -- or for want of memory
  pub unprepared : (r : Result T BookError) → IsErrAnd r (λ x. x ≡ NoMemory) → CanSchedule old a → BeginsEntry old a r
  unprepared (Ok n) is can = absurd is
  unprepared (Err x) is can = subst (λ (y : BookError). BeginsEntry {T = T} old a (Err y)) (sym is)
      (refused_as NoMemory (λ is. absurd (cc is)) (λ m. (λ is. absurd (cc is), λ q. absurd (not_open can m q))) (λ is. absurd (cc is), λ q. absurd (not_unserved can q)) (λ m. (λ is. absurd (cc is), λ q. absurd (not_full can m q))) (λ is. can))

  pub begun : (x : T) → CanSchedule old a → BeginsEntry old a (Ok x)
  begun x can = record {
    ready = can;
    in_progress = λ n. (λ is. absurd (cc is), λ q. absurd (not_open can n q));
    no_backend = (λ is. absurd (cc is), λ q. absurd (not_unserved can q));
    full = λ n. (λ is. absurd (cc is), λ q. absurd (not_full can n q));
    unfaulted = λ is. absurd (cc is);
    memory = λ is. absurd (cc is);
  }

-- ---- a marker begins

has_room : (old : BookState) → 0 < events_left old.history → (n : ℕ) → HasNoRoomForOne old n → ⊥
has_room old space n p = let none : events_left old.history < 1 = p.full in absurd (omega arith)

module _ {T : Type 0} (old : BookState) where
  pub begins_full : (r : Result T BookError) (d : BookError) → IsErrAnd r (λ x. x ≡ d) → HasRoom {T = Unit} old (Err d) → BeginsMarker old r
  begins_full (Ok x) d is p = absurd is
  begins_full (Err x) (HistoryFull n) is p = subst (λ (y : BookError). BeginsMarker {T = T} old (Err y)) (sym is) (record {
    space = tt;
    full = λ m. (λ is. let same : n ≡ m = cc is in subst (HasNoRoomForOne old) same p, λ q. ap (λ k. Err (HistoryFull k)) (p.events ∙ sym q.events));
    want = tt;
    memory = λ is. absurd (cc is);
  })
  begins_full (Err x) (InProgress n) is p = absurd p
  begins_full (Err x) NoBackend is p = absurd p
  begins_full (Err x) LogFault is p = absurd p
  begins_full (Err x) NoMemory is p = absurd p

  pub begins_wanting : (r : Result T BookError) → IsErrAnd r (λ x. x ≡ NoMemory) → 0 < events_left old.history → BeginsMarker old r
  begins_wanting (Ok x) is space = absurd is
  begins_wanting (Err x) is space = subst (λ (y : BookError). BeginsMarker {T = T} old (Err y)) (sym is) (record {
    space = tt;
    full = λ m. (λ is. absurd (cc is), λ q. absurd (has_room old space m q));
    want = tt;
    memory = λ is. space;
  })

  pub marker_begun : (x : T) → 0 < events_left old.history → BeginsMarker old (Ok x)
  marker_begun x space = record {
    space = space;
    full = λ n. (λ is. absurd (cc is), λ q. absurd (has_room old space n q));
    want = tt;
    memory = λ is. absurd (cc is);
  }

-- ---- the log wasn't asked

-- the same error of another answer
as_other : {T U : Type 0} (d e : BookError) → IsErrOf {T = T} (Err d) e → IsErrOf {T = U} (Err d) e
as_other {U = U} d e is = let same : d ≡ e = cc is in subst (λ (x : BookError). IsErrOf {T = U} (Err d) x) same refl

module _ {S : Type 0} (tells : Bool) (faults moment : S → ℕ) (since : S → ℕ → List ℕ → Type 0) (may : S → List ℕ → Type 0) (old : BookState) (l : LogState S)
    (now : tells ≡ true → (item : LogItem) → LeavesOnly moment since l.store l.store (IsBeforeOrAfter l item)) where
  pub unbegun : {T : Type 0} (e : Entry) (r : Result ℕ BookError) (d : BookError) → IsErrAnd r (λ x. x ≡ d) → BeginsEntry {T = T} old e.act (Err d) → Schedules tells faults moment since may old l e r old l
  unbegun e (Ok n) d is b = absurd is
  unbegun {T = T} e (Err x) d is b = subst (λ (y : BookError). Schedules tells faults moment since may old l e (Err y) old l) (sym is) (record {
    ok = tt;
    number = tt;
    ready = tt;
    in_progress = λ n. (λ q. (b.in_progress n).0 (as_other d (InProgress n) q), λ q. as_other d (InProgress n) ((b.in_progress n).1 q));
    no_backend = (λ q. b.no_backend.0 (as_other d NoBackend q), λ q. as_other d NoBackend (b.no_backend.1 q));
    full = λ n. (λ q. (b.full n).0 (as_other d (HistoryFull n) q), λ q. as_other d (HistoryFull n) ((b.full n).1 q));
    faulted = λ q. absurd (b.unfaulted (as_other d LogFault q));
    log_fault = λ q. absurd (b.unfaulted (as_other d LogFault q));
    same = λ no. refl;
    checked = λ no_fault no_want. refl;
    cause = record { counted = λ q. absurd (b.unfaulted (as_other d LogFault q)); uncounted = λ no. refl };
    memory = λ t q up. up;
    any_moment = λ t. now t (entry_item (length (log old.history) + 1) e);
    refused = λ t up. inr (up, refl);
    safe = λ t. tt;
  })

  pub unmarked : {T : Type 0} (name : List ℕ) (b : Option ℕ) (r : Result ℕ BookError) (d : BookError) → IsErrAnd r (λ x. x ≡ d) → BeginsMarker {T = T} old (Err d) → MarksCheckpoint tells faults moment since may old l name b r old l
  unmarked name b (Ok n) d is k = absurd is
  unmarked {T = T} name b (Err x) d is k = subst (λ (y : BookError). MarksCheckpoint tells faults moment since may old l name b (Err y) old l) (sym is) (record {
    ok = tt;
    number = tt;
    space = tt;
    full = λ n. (λ q. (k.full n).0 (as_other d (HistoryFull n) q), λ q. as_other d (HistoryFull n) ((k.full n).1 q));
    want = inl k.want;
    faulted = λ q. let same : d ≡ LogFault = cc q in absurd (subst IsWant same k.want);
    log_fault = λ q. let same : d ≡ LogFault = cc q in absurd (subst IsWant same k.want);
    same = λ no. refl;
    checked = λ no_fault no_want. refl;
    cause = record { counted = λ q. let same : d ≡ LogFault = cc q in absurd (subst IsWant same k.want); uncounted = λ no. refl };
    memory = λ t q up. up;
    any_moment = λ t. now t (marker_item (length (log old.history)) name b);
    refused = λ t up. inr (up, refl);
    safe = λ t. tt;
  })

-- ---- the log was asked

module _ {S : Type 0} (tells : Bool) (faults moment : S → ℕ) (since : S → ℕ → List ℕ → Type 0) (may : S → List ℕ → Type 0) (old : BookState) (before after : LogState S) (logged : tells ≡ true → items_of old.history ≡ before.items) where
  module _ (e : Entry) (can : CanSchedule old e.act) where
    abbrev item : LogItem
    item = entry_item (length (log old.history) + 1) e

    by_answer : (appended : Result Unit LogError) → (tells ≡ true → Adds before.items item after.items appended) → CountsFault (IsErrOf appended log_errors.Failed) (faults before.store) (faults after.store)
        → (tells ≡ true → IsErrOf appended log_errors.NoMemory → after.torn ≡ true → before.torn ≡ true) → (tells ≡ true → LeavesOnly moment since before.store after.store (IsBeforeOrAfter before item)) → (tells ≡ true → Refuses before item after appended)
        → (tells ≡ true → OnOk appended (LeavesItems (may after.store) after.items))
        → Schedules tells faults moment since may old before e (finished_as appended (length (log old.history) + 1)) (entry_finished old e appended) after
    by_answer (Ok u) adds cause memory any_moment refused safe = record {
      ok = refl;
      number = sym (ap length (log-sched old.history e) ∙ length-append (log old.history) (e ∷ []));
      ready = can;
      in_progress = λ n. (λ is. absurd (cc is), λ q. absurd (not_open can n q));
      no_backend = (λ is. absurd (cc is), λ q. absurd (not_unserved can q));
      full = λ n. (λ is. absurd (cc is), λ q. absurd (not_full can n q));
      faulted = λ is. absurd (cc is);
      log_fault = λ is. absurd (cc is);
      same = tt;
      checked = tt;
      cause = record { counted = λ is. absurd (cc is); uncounted = λ no. cause.uncounted (λ is. absurd (cc is)) };
      memory = λ t is. absurd (cc is);
      any_moment = any_moment;
      refused = refused;
      safe = λ t. subst (LeavesItems (may after.store)) (sym (items_sched old.history e ∙ (ap (λ (x : List LogItem). x ++ item ∷ []) (logged t) ∙ sym (adds t)))) (safe t);
    }
    by_answer (Err log_errors.Failed) adds cause memory any_moment refused safe = record {
      ok = tt;
      number = tt;
      ready = tt;
      in_progress = λ n. (λ is. absurd (cc is), λ q. absurd (not_open can n q));
      no_backend = (λ is. absurd (cc is), λ q. absurd (not_unserved can q));
      full = λ n. (λ is. absurd (cc is), λ q. absurd (not_full can n q));
      faulted = λ is. can;
      log_fault = λ is. refl;
      same = λ no. absurd (no refl);
      checked = λ no_fault no_want. absurd (no_fault refl);
      cause = record { counted = λ is. cause.counted refl; uncounted = λ no. absurd (no refl) };
      memory = λ t is. absurd (cc is);
      any_moment = any_moment;
      refused = refused;
      safe = λ t. tt;
    }
    by_answer (Err log_errors.NoMemory) adds cause memory any_moment refused safe = record {
      ok = tt;
      number = tt;
      ready = tt;
      in_progress = λ n. (λ is. absurd (cc is), λ q. absurd (not_open can n q));
      no_backend = (λ is. absurd (cc is), λ q. absurd (not_unserved can q));
      full = λ n. (λ is. absurd (cc is), λ q. absurd (not_full can n q));
      faulted = λ is. absurd (cc is);
      log_fault = λ is. absurd (cc is);
      same = λ no. refl;
      checked = λ no_fault no_want. absurd (no_want refl);
      cause = record { counted = λ is. absurd (cc is); uncounted = λ no. cause.uncounted (λ is. absurd (cc is)) };
      memory = λ t is. memory t refl;
      any_moment = any_moment;
      refused = refused;
      safe = λ t. tt;
    }

    -- with the item that was given to the log, and the answer and the book that came of it
    pub scheduled : (given : LogItem) (appended : Result Unit LogError) (r : Result ℕ BookError) (new : BookState) → given ≡ item → (tells ≡ true → Adds before.items given after.items appended) → CountsFault (IsErrOf appended log_errors.Failed) (faults before.store) (faults after.store)
        → (tells ≡ true → IsErrOf appended log_errors.NoMemory → after.torn ≡ true → before.torn ≡ true) → (tells ≡ true → LeavesOnly moment since before.store after.store (IsBeforeOrAfter before given)) → (tells ≡ true → Refuses before given after appended)
        → (tells ≡ true → OnOk appended (LeavesItems (may after.store) after.items)) → r ≡ finished_as appended (length (log old.history) + 1) → new ≡ entry_finished old e appended → Schedules tells faults moment since may old before e r new after
    scheduled given appended r new is adds cause memory any_moment refused safe answer state =
        subst (λ (x : Result ℕ BookError × BookState). Schedules tells faults moment since may old before e x.0 x.1 after) (λ i. (sym answer i, sym state i))
        (by_answer appended (λ t. subst (λ (x : LogItem). Adds before.items x after.items appended) is (adds t)) cause memory (λ t. subst (λ (x : LogItem). LeavesOnly moment since before.store after.store (IsBeforeOrAfter before x)) is (any_moment t)) (λ t. subst (λ (x : LogItem). Refuses before x after appended) is (refused t)) safe)

  module _ (name : List ℕ) (b : Option ℕ) (space : 0 < events_left old.history) where
    abbrev marker : LogItem
    marker = marker_item (length (log old.history)) name b

    marked_by : (appended : Result Unit LogError) → (tells ≡ true → Adds before.items marker after.items appended) → CountsFault (IsErrOf appended log_errors.Failed) (faults before.store) (faults after.store)
        → (tells ≡ true → IsErrOf appended log_errors.NoMemory → after.torn ≡ true → before.torn ≡ true) → (tells ≡ true → LeavesOnly moment since before.store after.store (IsBeforeOrAfter before marker)) → (tells ≡ true → Refuses before marker after appended)
        → (tells ≡ true → OnOk appended (LeavesItems (may after.store) after.items))
        → MarksCheckpoint tells faults moment since may old before name b (finished_as appended (length (log old.history))) (marker_finished old name b appended) after
    marked_by (Ok u) adds cause memory any_moment refused safe = record {
      ok = refl;
      number = sym (ap length (log-same old.history (Marker name b) refl));
      space = space;
      full = λ n. (λ is. absurd (cc is), λ q. absurd (has_room old space n q));
      want = tt;
      faulted = λ is. absurd (cc is);
      log_fault = λ is. absurd (cc is);
      same = tt;
      checked = tt;
      cause = record { counted = λ is. absurd (cc is); uncounted = λ no. cause.uncounted (λ is. absurd (cc is)) };
      memory = λ t is. absurd (cc is);
      any_moment = any_moment;
      refused = refused;
      safe = λ t. subst (LeavesItems (may after.store)) (sym (items_marker old.history name b ∙ (ap (λ (x : List LogItem). x ++ marker ∷ []) (logged t) ∙ sym (adds t)))) (safe t);
    }
    marked_by (Err log_errors.Failed) adds cause memory any_moment refused safe = record {
      ok = tt;
      number = tt;
      space = tt;
      full = λ n. (λ is. absurd (cc is), λ q. absurd (has_room old space n q));
      want = inr refl;
      faulted = λ is. space;
      log_fault = λ is. refl;
      same = λ no. absurd (no refl);
      checked = λ no_fault no_want. absurd (no_fault refl);
      cause = record { counted = λ is. cause.counted refl; uncounted = λ no. absurd (no refl) };
      memory = λ t is. absurd (cc is);
      any_moment = any_moment;
      refused = refused;
      safe = λ t. tt;
    }
    marked_by (Err log_errors.NoMemory) adds cause memory any_moment refused safe = record {
      ok = tt;
      number = tt;
      space = tt;
      full = λ n. (λ is. absurd (cc is), λ q. absurd (has_room old space n q));
      want = inl tt;
      faulted = λ is. absurd (cc is);
      log_fault = λ is. absurd (cc is);
      same = λ no. refl;
      checked = λ no_fault no_want. absurd (no_want refl);
      cause = record { counted = λ is. absurd (cc is); uncounted = λ no. cause.uncounted (λ is. absurd (cc is)) };
      memory = λ t is. memory t refl;
      any_moment = any_moment;
      refused = refused;
      safe = λ t. tt;
    }

    pub marks : (given : LogItem) (appended : Result Unit LogError) (r : Result ℕ BookError) (new : BookState) → given ≡ marker → (tells ≡ true → Adds before.items given after.items appended) → CountsFault (IsErrOf appended log_errors.Failed) (faults before.store) (faults after.store)
        → (tells ≡ true → IsErrOf appended log_errors.NoMemory → after.torn ≡ true → before.torn ≡ true) → (tells ≡ true → LeavesOnly moment since before.store after.store (IsBeforeOrAfter before given)) → (tells ≡ true → Refuses before given after appended)
        → (tells ≡ true → OnOk appended (LeavesItems (may after.store) after.items)) → r ≡ finished_as appended (length (log old.history)) → new ≡ marker_finished old name b appended → MarksCheckpoint tells faults moment since may old before name b r new after
    marks given appended r new is adds cause memory any_moment refused safe answer state =
        subst (λ (x : Result ℕ BookError × BookState). MarksCheckpoint tells faults moment since may old before name b x.0 x.1 after) (λ i. (sym answer i, sym state i))
        (marked_by appended (λ t. subst (λ (x : LogItem). Adds before.items x after.items appended) is (adds t)) cause memory (λ t. subst (λ (x : LogItem). LeavesOnly moment since before.store after.store (IsBeforeOrAfter before x)) is (any_moment t)) (λ t. subst (λ (x : LogItem). Refuses before x after appended) is (refused t)) safe)
