-- What a call answers and leaves that may bring an event into a book.
use Rattle.std.specs.Prelude.{◌≡◌, ◌⊎◌, ◌↔◌, ℕ, ◌+◌, ◌<◌, Bool, true, List, length, IfOk, IfErr, OnOk, OnErr, IsErrOf, Result, Ok, Err}
use Rattle.std.specs.declared.option.Option.{Option}
use Rattle.cj_model.specs.declared.request.Act.{Act}
use Rattle.cj_model.specs.declared.request.Entry.{Entry}
use Rattle.cj_cluster.specs.declared.event.Event.{Event}
use Rattle.cj_cluster.specs.declared.event.Event.TheVariants.{LogFailed, Marker}
use Rattle.cj_cluster.specs.History.Histories.{log, events_left}
use Rattle.cj_outside.specs.Causes.{CountsFault}
use Rattle.cj_outside.specs.Stores.{LeavesOnly}
use Rattle.cj_log.specs.declared.error.LogError.{LogError}
use Rattle.cj_log.specs.declared.error.LogError.TheVariants as log_errors
use Rattle.cj_log.specs.Logs.{IsBeforeOrAfter, LeavesItems, LogState, Refuses}
use Rattle.cj_recovery.specs.Openings.{entry_item, marker_item, items_of}
use Rattle.cj_book.specs.declared.error.BookError.{BookError}
use Rattle.cj_book.specs.declared.error.BookError.TheVariants.{InProgress, NoBackend, HistoryFull, LogFault, NoMemory}
use Rattle.cj_book.specs.Books.{BookState, CanSchedule, HasNoBackend, HasNoRoomForOne, IsFull, IsInProgress, IsWant, LacksRoom, with_entry, with_event}

-- the event comes, where there is room in the history
pub record AppendsEvent {T : Type 0} (old : BookState) (e : Event) (result : Result T BookError) (new : BookState) : Type 0 where
  pub ok : OnOk result (new ≡ with_event old e)
  pub space : OnOk result (0 < events_left old.history)
  pub full : (n : ℕ) → IsErrOf result (HistoryFull n) ↔ HasNoRoomForOne old n
  pub want : IfErr result IsFull
  pub err : OnErr result (new ≡ old)

-- The entry is scheduled, with its item in the log, or is refused for the first reason against it. Where the log's
-- store failed, an event of that comes.
pub record Schedules {S : Type 0} (tells : Bool) (faults moment : S → ℕ) (since : S → ℕ → List ℕ → Type 0) (may : S → List ℕ → Type 0) (old : BookState) (before : LogState S) (e : Entry) (result : Result ℕ BookError) (new : BookState) (after : LogState S) : Type 0 where
  pub ok : OnOk result (new ≡ with_entry old e)
  pub number : IfOk result (λ n. n ≡ length (log new.history))
  pub ready : OnOk result (CanSchedule old e.act)
  pub in_progress : (n : ℕ) → IsErrOf result (InProgress n) ↔ IsInProgress old n
  pub no_backend : IsErrOf result NoBackend ↔ HasNoBackend old e.act
  pub full : (n : ℕ) → IsErrOf result (HistoryFull n) ↔ LacksRoom old e.act n
  pub faulted : IsErrOf result LogFault → CanSchedule old e.act
  pub log_fault : IsErrOf result LogFault → new ≡ with_event old (LogFailed e.session e.seq)
  pub same : OnErr result (¬ IsErrOf result LogFault → new ≡ old)
  pub checked : OnErr result (¬ IsErrOf result LogFault → ¬ IsErrOf result NoMemory → after ≡ before)
  -- one rise of the store's count for each fault told, and none else
  pub cause : CountsFault (IsErrOf result LogFault) (faults before.store) (faults after.store)
  -- want of memory comes only before the gate of the item is opened
  pub memory : tells ≡ true → IsErrOf result NoMemory → after.torn ≡ true → before.torn ≡ true
  -- a stop at any moment of the call leaves the items from before it, or one more; after Ok a stop leaves the entry
  pub any_moment : tells ≡ true → LeavesOnly moment since before.store after.store (IsBeforeOrAfter before (entry_item (length (log old.history) + 1) e))
  pub refused : tells ≡ true → Refuses before (entry_item (length (log old.history) + 1) e) after result
  pub safe : tells ≡ true → OnOk result (LeavesItems (may after.store) (items_of new.history))

-- The checkpoint is marked behind all entries, with its item in the log. The rest is as for an entry.
pub record MarksCheckpoint {S : Type 0} (tells : Bool) (faults moment : S → ℕ) (since : S → ℕ → List ℕ → Type 0) (may : S → List ℕ → Type 0) (old : BookState) (before : LogState S) (name : List ℕ) (b : Option ℕ) (result : Result ℕ BookError) (new : BookState) (after : LogState S) : Type 0 where
  pub ok : OnOk result (new ≡ with_event old (Marker name b))
  pub number : IfOk result (λ n. n ≡ length (log new.history))
  pub space : OnOk result (0 < events_left old.history)
  pub full : (n : ℕ) → IsErrOf result (HistoryFull n) ↔ HasNoRoomForOne old n
  pub want : IfErr result (λ error. IsWant error ⊎ (error ≡ LogFault))
  pub faulted : IsErrOf result LogFault → 0 < events_left old.history
  pub log_fault : IsErrOf result LogFault → new ≡ with_event old (LogFailed 0 0)
  pub same : OnErr result (¬ IsErrOf result LogFault → new ≡ old)
  pub checked : OnErr result (¬ IsErrOf result LogFault → ¬ IsErrOf result NoMemory → after ≡ before)
  pub cause : CountsFault (IsErrOf result LogFault) (faults before.store) (faults after.store)
  pub memory : tells ≡ true → IsErrOf result NoMemory → after.torn ≡ true → before.torn ≡ true
  pub any_moment : tells ≡ true → LeavesOnly moment since before.store after.store (IsBeforeOrAfter before (marker_item (length (log old.history)) name b))
  pub refused : tells ≡ true → Refuses before (marker_item (length (log old.history)) name b) after result
  pub safe : tells ≡ true → OnOk result (LeavesItems (may after.store) (items_of new.history))

-- ---- in two halves, with the append to the log between them

-- an entry of this act can come once its item stands in the log, or is refused for the first reason against it
pub record BeginsEntry {T : Type 0} (old : BookState) (a : Act) (result : Result T BookError) : Type 0 where
  pub ready : OnOk result (CanSchedule old a)
  pub in_progress : (n : ℕ) → IsErrOf result (InProgress n) ↔ IsInProgress old n
  pub no_backend : IsErrOf result NoBackend ↔ HasNoBackend old a
  pub full : (n : ℕ) → IsErrOf result (HistoryFull n) ↔ LacksRoom old a n
  pub unfaulted : ¬ IsErrOf result LogFault
  -- want of memory comes only where nothing else is against it
  pub memory : IsErrOf result NoMemory → CanSchedule old a

-- a marker can come once its item stands in the log, or there is no room for it
pub record BeginsMarker {T : Type 0} (old : BookState) (result : Result T BookError) : Type 0 where
  pub space : OnOk result (0 < events_left old.history)
  pub full : (n : ℕ) → IsErrOf result (HistoryFull n) ↔ HasNoRoomForOne old n
  pub want : IfErr result IsWant
  pub memory : IsErrOf result NoMemory → 0 < events_left old.history

-- what a call answers whose item was appended, or refused by the log
abbrev pub finished_as : Result Unit LogError → ℕ → Result ℕ BookError
finished_as (Ok u) n = Ok n
finished_as (Err log_errors.Failed) n = Err LogFault
finished_as (Err log_errors.NoMemory) n = Err NoMemory

-- the book after an entry whose item was appended, or refused by the log
abbrev pub entry_finished : BookState → Entry → Result Unit LogError → BookState
entry_finished b e (Ok u) = with_entry b e
entry_finished b e (Err log_errors.Failed) = with_event b (LogFailed e.session e.seq)
entry_finished b e (Err log_errors.NoMemory) = b

-- and after a marker
abbrev pub marker_finished : BookState → List ℕ → Option ℕ → Result Unit LogError → BookState
marker_finished b name backend (Ok u) = with_event b (Marker name backend)
marker_finished b name backend (Err log_errors.Failed) = with_event b (LogFailed 0 0)
marker_finished b name backend (Err log_errors.NoMemory) = b
