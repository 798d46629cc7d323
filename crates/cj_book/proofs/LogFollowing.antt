-- The log follows a history with one more event.
use Rattle.std.proofs.Common.{◌≡◌, ◌≤◌, ◌⊎◌, ◌-◌, ◌^◌, Bool, true, false, ℕ, ◌+◌, List, [], ◌∷◌, ◌++◌, length, Option, None, Result, Ok, Err, OnOk, IsErrOf, refl, ap, sym, ◌∙◌, subst}
use Rattle.cj_book.proofs.Common.{BookLogState, BookState, Entry, entry_item, Event, HasCountedLogFaults, items_behind, items_of, last_write_failed, log, log_failed_after, log_failure_session, log_failure_sessions, LogError, LogFailed, LogFollows, LogItem, Marker, marker_item, next, Refuses, Sched}
use Rattle.cj_log.specs.Logs.{Adds}
use Rattle.cj_log.specs.declared.error.LogError.TheVariants as log_errors
use Rattle.cj_outside.specs.Causes.{CountsFault}
use Rattle.cj_book.specs.Events.{entry_finished, marker_finished}
use Rattle.cj_book.proofs.Counted.{counted_fault, counted_more}
use Rattle.cj_book.proofs.Logged.{gate_same, gate_shut, items_marker, items_same, items_sched, write_after}

module _ {S : Type 0} {tells : Bool} {count : S → ℕ} {l : BookLogState S} {h : List Event} (f : LogFollows tells count l h) where
  -- of the history it is known which items it has, whether the last write failed, and how often the store failed
  pub log_alike : (g : List Event) → items_of g ≡ items_of h → last_write_failed g ≡ last_write_failed h → length (log_failure_sessions g) ≡ length (log_failure_sessions h) → LogFollows tells count l g
  log_alike g items write failures = record {
    logged = λ t. items ∙ f.logged t;
    gate = λ t up. write ∙ f.gate t up;
    faults = subst (λ n. (n + l.faults_at_opening ≤ count l.log.store) ⊎ (count l.log.store ≡ 2 ^ 64 - 1)) (sym failures) f.faults;
  }

  -- an event that is no item of the log, and no failure of its store
  pub log_more : (e : Event) → ((n : ℕ) → items_behind n (e ∷ []) ≡ []) → ((failed : Bool) → log_failed_after failed e ≡ failed) → log_failure_session e ≡ None → LogFollows tells count l (h ++ e ∷ [])
  log_more e none quiet unfailed = record {
    logged = λ t. items_same h e l.log.items none (f.logged t);
    gate = gate_same tells l.log.torn h e quiet f.gate;
    faults = counted_more h l.faults_at_opening (count l.log.store) f.faults e unfailed;
  }

  -- ---- an item was given to the log

  module _ (new : BookLogState S) (opening : new.faults_at_opening ≡ l.faults_at_opening) where
    same_count : (g : List Event) → HasCountedLogFaults g l.faults_at_opening (count l.log.store) → count new.log.store ≡ count l.log.store → HasCountedLogFaults g new.faults_at_opening (count new.log.store)
    same_count g counted same = subst (λ (x : ℕ × ℕ). HasCountedLogFaults g x.0 x.1) (λ i. (sym opening i, sym same i)) counted

    -- an entry stands in it
    pub log_entry : (e : Entry) → (tells ≡ true → new.log.items ≡ l.log.items ++ entry_item (length (log h) + 1) e ∷ []) → (tells ≡ true → new.log.torn ≡ false) → count new.log.store ≡ count l.log.store → LogFollows tells count new (h ++ Sched e ∷ [])
    log_entry e added shut same = record {
      logged = λ t. items_sched h e ∙ (ap (λ (x : List LogItem). x ++ entry_item (length (log h) + 1) e ∷ []) (f.logged t) ∙ sym (added t));
      gate = gate_shut tells new.log.torn (h ++ Sched e ∷ []) shut;
      faults = same_count (h ++ Sched e ∷ []) (counted_more h l.faults_at_opening (count l.log.store) f.faults (Sched e) refl) same;
    }

    -- or a marker
    pub log_marker : (name : List ℕ) (b : Option ℕ) → (tells ≡ true → new.log.items ≡ l.log.items ++ marker_item (length (log h)) name b ∷ []) → (tells ≡ true → new.log.torn ≡ false) → count new.log.store ≡ count l.log.store → LogFollows tells count new (h ++ Marker name b ∷ [])
    log_marker name b added shut same = record {
      logged = λ t. items_marker h name b ∙ (ap (λ (x : List LogItem). x ++ marker_item (length (log h)) name b ∷ []) (f.logged t) ∙ sym (added t));
      gate = gate_shut tells new.log.torn (h ++ Marker name b ∷ []) shut;
      faults = same_count (h ++ Marker name b ∷ []) (counted_more h l.faults_at_opening (count l.log.store) f.faults (Marker name b) refl) same;
    }

    -- or its store failed
    pub log_fault : (s q : ℕ) → (tells ≡ true → new.log.items ≡ l.log.items) → count new.log.store ≡ next (count l.log.store) → LogFollows tells count new (h ++ LogFailed s q ∷ [])
    log_fault s q same counted = record {
      logged = λ t. items_same h (LogFailed s q) l.log.items (λ n. refl) (f.logged t) ∙ sym (same t);
      gate = λ t up. write_after h (LogFailed s q);
      faults = subst (λ (x : ℕ × ℕ). HasCountedLogFaults (h ++ LogFailed s q ∷ []) x.0 x.1) (λ i. (sym opening i, sym counted i)) (counted_fault h l.faults_at_opening (count l.log.store) f.faults s q);
    }

    -- or memory was wanting
    pub log_want : (tells ≡ true → new.log.items ≡ l.log.items) → (tells ≡ true → new.log.torn ≡ true → l.log.torn ≡ true) → count new.log.store ≡ count l.log.store → LogFollows tells count new h
    log_want same memory unfailed = record {
      logged = λ t. f.logged t ∙ sym (same t);
      gate = λ t up. f.gate t (memory t up);
      faults = same_count h f.faults unfailed;
    }

    -- ---- by what an append answers

    module _ (result : Result Unit LogError) (cause : CountsFault (IsErrOf result log_errors.Failed) (count l.log.store) (count new.log.store)) where
      pub appended_entry : (item : LogItem) (e : Entry) → (tells ≡ true → Adds l.log.items item new.log.items result) → (tells ≡ true → Refuses l.log item new.log result) → item ≡ entry_item (length (log h) + 1) e → OnOk result (LogFollows tells count new (h ++ Sched e ∷ []))
      appended_entry item e = from result cause
        where
          from : (r : Result Unit LogError) → CountsFault (IsErrOf r log_errors.Failed) (count l.log.store) (count new.log.store) → (tells ≡ true → Adds l.log.items item new.log.items r) → (tells ≡ true → Refuses l.log item new.log r) → item ≡ entry_item (length (log h) + 1) e → OnOk r (LogFollows tells count new (h ++ Sched e ∷ []))
          from (Ok u) k adds refuses is = log_entry e (λ t. adds t ∙ ap (λ (i : LogItem). l.log.items ++ i ∷ []) is) refuses (k.uncounted (λ no. absurd (cc no)))
          from (Err d) k adds refuses is = tt

      pub appended_marker : (item : LogItem) (name : List ℕ) (b : Option ℕ) → (tells ≡ true → Adds l.log.items item new.log.items result) → (tells ≡ true → Refuses l.log item new.log result) → item ≡ marker_item (length (log h)) name b → OnOk result (LogFollows tells count new (h ++ Marker name b ∷ []))
      appended_marker item name b = from result cause
        where
          from : (r : Result Unit LogError) → CountsFault (IsErrOf r log_errors.Failed) (count l.log.store) (count new.log.store) → (tells ≡ true → Adds l.log.items item new.log.items r) → (tells ≡ true → Refuses l.log item new.log r) → item ≡ marker_item (length (log h)) name b → OnOk r (LogFollows tells count new (h ++ Marker name b ∷ []))
          from (Ok u) k adds refuses is = log_marker name b (λ t. adds t ∙ ap (λ (i : LogItem). l.log.items ++ i ∷ []) is) refuses (k.uncounted (λ no. absurd (cc no)))
          from (Err d) k adds refuses is = tt

      pub appended_fault : (item : LogItem) (s q : ℕ) → (tells ≡ true → Adds l.log.items item new.log.items result) → IsErrOf result log_errors.Failed → LogFollows tells count new (h ++ LogFailed s q ∷ [])
      appended_fault item s q adds is = log_fault s q (λ t. subst (λ (r : Result Unit LogError). Adds l.log.items item new.log.items r) is (adds t)) (cause.counted is)

      pub appended_want : (item : LogItem) → (tells ≡ true → Adds l.log.items item new.log.items result) → (tells ≡ true → IsErrOf result log_errors.NoMemory → new.log.torn ≡ true → l.log.torn ≡ true) → IsErrOf result log_errors.NoMemory → LogFollows tells count new h
      appended_want item adds memory is =
          log_want (λ t. subst (λ (r : Result Unit LogError). Adds l.log.items item new.log.items r) is (adds t)) (λ t up. memory t is up)
          (cause.uncounted (λ no. absurd (cc (is, no))))

-- ---- where the book went on by that answer

module _ {S : Type 0} (tells : Bool) (count : S → ℕ) (l : BookLogState S) (old : BookState) where
  pub entry_followed : (e : Entry) (appended : Result Unit LogError) → OnOk appended (LogFollows tells count l (old.history ++ Sched e ∷ [])) → (IsErrOf appended log_errors.Failed → LogFollows tells count l (old.history ++ LogFailed e.session e.seq ∷ []))
      → (IsErrOf appended log_errors.NoMemory → LogFollows tells count l old.history) → LogFollows tells count l (entry_finished old e appended).history
  entry_followed e (Ok u) well failed wanting = well
  entry_followed e (Err log_errors.Failed) well failed wanting = failed refl
  entry_followed e (Err log_errors.NoMemory) well failed wanting = wanting refl

  pub marker_followed : (name : List ℕ) (b : Option ℕ) (appended : Result Unit LogError) → OnOk appended (LogFollows tells count l (old.history ++ Marker name b ∷ [])) → (IsErrOf appended log_errors.Failed → LogFollows tells count l (old.history ++ LogFailed 0 0 ∷ []))
      → (IsErrOf appended log_errors.NoMemory → LogFollows tells count l old.history) → LogFollows tells count l (marker_finished old name b appended).history
  marker_followed name b (Ok u) well failed wanting = well
  marker_followed name b (Err log_errors.Failed) well failed wanting = failed refl
  marker_followed name b (Err log_errors.NoMemory) well failed wanting = wanting refl
