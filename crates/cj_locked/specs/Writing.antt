-- What becomes of an entry that a session writes, from what its pass had seen to what it has seen then.
use Rattle.std.specs.Prelude.{◌≡◌, ℕ, ◌+◌, ◌-◌, ◌<◌, ◌≤◌, ◌&&◌, not, Bool, true, List, [], ◌∷◌, ◌++◌, length, slice_get, All, Result, Ok, Err}
use Rattle.std.specs.declared.option.Option.TheVariants.{None, Some}
use mathlib.Core.List.{IsPrefix}
use Rattle.cj_model.specs.declared.request.Entry.{Entry}
use Rattle.cj_model.specs.declared.answer.Refusal.{Refusal}
use Rattle.cj_model.specs.declared.answer.Reply.{Reply}
use Rattle.cj_model.specs.declared.codes.TheConstants.{HISTORY_FULL, LOG_FAULT, NO_BACKEND, NO_MEMORY}
use Rattle.cj_model.specs.Database.Inserts.{refusal_of_code}
use Rattle.cj_model.specs.Cluster.Masks.{in_mask}
use Rattle.cj_model.specs.Cluster.Placements.{Placement}
use Rattle.cj_model.specs.Sql.PlainRequests.{request_of}
use Rattle.cj_cluster.specs.declared.event.Event.{Event}
use Rattle.cj_cluster.specs.declared.event.Event.TheVariants.{Sched, Ended, LogFailed}
use Rattle.cj_cluster.specs.History.Answering.{AnswersEntry, HasNoServer, HasServer}
use Rattle.cj_cluster.specs.History.Histories.{ended_count, events_left, is_enabled, is_free, log, open_entry_of, tx_of}
use Rattle.cj_cluster.specs.History.Legality.{IsFitEntry}
use Rattle.cj_cluster.specs.History.Turns.{SessionView, Turn, entry_count_of, tx_after_entry}
use Rattle.cj_cluster.specs.Moves.Runs.{call_of_entry}
use Rattle.cj_board.specs.Counting.{event_count_of}
use Rattle.cj_book.specs.declared.error.BookError.{BookError}
use Rattle.cj_book.specs.declared.error.BookError.TheVariants.{InProgress, NoBackend, HistoryFull, LogFault, NoMemory}
use Rattle.cj_log.specs.declared.error.LogError.{LogError}
use Rattle.cj_log.specs.declared.error.LogError.TheVariants as log_errors
use Rattle.cj_log.specs.declared.item.LogItem.{LogItem}
use Rattle.cj_log.specs.Items.{CanAppend}
use Rattle.cj_recovery.specs.Openings.{entry_item}
use Rattle.cj_book.specs.BookLogs.{BookLogState, LogFollows}
use Rattle.cj_book.specs.Books.{IsPrepared}
use Rattle.cj_book.specs.declared.pending.Pending.TheVariants as pending
use Rattle.cj_book.specs.declared.pending.Prepared.{Prepared}
use Rattle.cj_tally.specs.declared.tally.Tally.{Tally}
use Rattle.cj_locked.specs.Turns.{turn_amount}

-- ---- the open entry

-- entry n was scheduled at history m, where no entry was open, and G goes on from there
pub record IsScheduledIn (p : Placement) (G : List Event) (n : ℕ) (e : Entry) : Type 0 where
  pub m : List Event
  pub was_free : is_free m ≡ true
  pub served : HasServer p m (request_of e.act)
  pub space : 3 ≤ events_left m
  pub number : n ≡ length (log m) + 1
  pub next : IsPrefix (m ++ Sched e ∷ []) G

-- Who began an entry at history m, where it could come, has the turn: the turn's amount has an entry as pending, and
-- the log follows that history. What the entry needs was prepared there. G goes on from there.
pub record HoldsPending {S : Type 0} (tells : Bool) (count : S → ℕ) (p : Placement) (G : List Event) (e : Entry) (prepared : Prepared) (amount : ℕ) (l : BookLogState S) : Type 0 where
  pub m : List Event
  pub was_free : is_free m ≡ true
  pub served : HasServer p m (request_of e.act)
  pub space : 3 ≤ events_left m
  pub fit : IsFitEntry (log m) e
  pub its : IsPrepared p (log m) e prepared
  pub seen : IsPrefix m G
  pub turn : amount ≡ turn_amount m (Some pending.Entry)
  pub follows : LogFollows tells count l m

-- it was begun now, since the session had seen F, and nothing else of the session came since; this is its item for
-- the log
pub record BeginsSince {S : Type 0} (tells : Bool) (count : S → ℕ) (p : Placement) (F G : List Event) (e : Entry) (prepared : Prepared) (amount : ℕ) (l : BookLogState S) (item : LogItem) : Type 0 where
  pub holds : HoldsPending tells count p G e prepared amount l
  pub longer : IsPrefix F holds.m
  pub quiet : event_count_of e.session holds.m ≡ event_count_of e.session F
  pub is : G ≡ holds.m
  pub its : (item ≡ entry_item (length (log holds.m) + 1) e) × CanAppend item

-- the log was asked to append the item of entry e behind history h, and follows the history in which the event of
-- that has come
abbrev pub FollowsAppend : {S : Type 0} → Bool → (S → ℕ) → BookLogState S → List Event → Entry → Result Unit LogError → Type 0
FollowsAppend tells count l h e (Ok u) = LogFollows tells count l (h ++ Sched e ∷ [])
FollowsAppend tells count l h e (Err log_errors.Failed) = LogFollows tells count l (h ++ LogFailed e.session e.seq ∷ [])
FollowsAppend tells count l h e (Err log_errors.NoMemory) = LogFollows tells count l h

-- Who began an entry and had the log asked to append its item. The log followed the history as `before` until then.
-- Now it follows the history in which the event of the answer has come.
pub record HoldsAppended {S : Type 0} (tells : Bool) (count : S → ℕ) (p : Placement) (G : List Event) (e : Entry) (prepared : Prepared) (amount : ℕ) (l : BookLogState S) (appended : Result Unit LogError) : Type 0 where
  pub before : BookLogState S
  pub holds : HoldsPending tells count p G e prepared amount before
  pub follows : (h : List Event) → LogFollows tells count before h → length (log h) ≡ length (log holds.m) → FollowsAppend tells count l h e appended

-- it was scheduled now, since the session had seen F, and nothing else of the session came since
pub record SchedulesSince (p : Placement) (F G : List Event) (n : ℕ) (e : Entry) : Type 0 where
  pub at : IsScheduledIn p G n e
  pub longer : IsPrefix F at.m
  pub quiet : event_count_of e.session at.m ≡ event_count_of e.session F
  pub is : G ≡ at.m ++ Sched e ∷ []

-- Who has the turn since then, and the mask of the backends that were enabled. The turn's amount is that of the history
-- with the entry, and the log follows that history.
pub record HoldsEntry {S : Type 0} (tells : Bool) (count : S → ℕ) (p : Placement) (G : List Event) (n enabled : ℕ) (e : Entry) (amount : ℕ) (l : BookLogState S) : Type 0 where
  pub at : IsScheduledIn p G n e
  pub mask : (b : ℕ) → in_mask enabled b ≡ is_enabled (at.m ++ Sched e ∷ []) b
  pub turn : amount ≡ turn_amount (at.m ++ Sched e ∷ []) None
  pub follows : LogFollows tells count l (at.m ++ Sched e ∷ [])

-- ---- no entry

-- why the entry was not scheduled at history m, and what its session has seen then
abbrev pub RefusesAt : Placement → List Event → Entry → BookError → List Event → Type 0
RefusesAt p m e (InProgress n) G = ⊥
RefusesAt p m e NoBackend G = (G ≡ m) × HasNoServer p m (request_of e.act)
RefusesAt p m e (HistoryFull n) G = (G ≡ m) × (n ≡ length m) × (is_free m ≡ true) × HasServer p m (request_of e.act) × (events_left m < 3)
RefusesAt p m e LogFault G = (G ≡ m ++ LogFailed e.session e.seq ∷ []) × (is_free m ≡ true) × HasServer p m (request_of e.act) × (3 ≤ events_left m)
RefusesAt p m e NoMemory G = G ≡ m

-- it was refused now, since the session had seen F, and nothing of the session came since
pub record RefusesSince (p : Placement) (F G : List Event) (e : Entry) (error : BookError) : Type 0 where
  pub m : List Event
  pub longer : IsPrefix F m
  pub quiet : event_count_of e.session m ≡ event_count_of e.session F
  pub why : RefusesAt p m e error G

-- what the client reads then
abbrev pub refusal_for : BookError → Refusal
refusal_for (InProgress n) = refusal_of_code NO_MEMORY
refusal_for NoBackend = refusal_of_code NO_BACKEND
refusal_for (HistoryFull n) = record { code = HISTORY_FULL; a = n; b = 0 }
refusal_for LogFault = refusal_of_code LOG_FAULT
refusal_for NoMemory = refusal_of_code NO_MEMORY

-- ---- its end

-- The tally, with masks that fit the enabled backends: one that took the entry is in no other mask. One that did
-- not failed, or ran out of memory where no failure was reported.
pub record SettlesTally (enabled : ℕ) (tally settled : Tally) : Type 0 where
  pub taken : settled.taken ≡ tally.taken
  pub first_outcome : settled.first_outcome ≡ tally.first_outcome
  pub failed : (b : ℕ) → in_mask settled.failed b ≡ (in_mask enabled b && in_mask tally.failed b && not (in_mask tally.taken b))
  pub starved : (b : ℕ) → in_mask settled.starved b ≡ (in_mask enabled b && not (in_mask tally.taken b) && not (in_mask tally.failed b))

-- The history ends with an end of the entry. Of the backends below `count` only those are noted there as failed, or as
-- out of memory, that reported it.
pub record EndsAsReported (count : ℕ) (t : Tally) (H : List Event) : Type 0 where
  pub h : List Event
  pub failed : ℕ
  pub starved : ℕ
  pub is : H ≡ h ++ Ended failed starved ∷ []
  pub failed_only : (b : ℕ) → in_mask failed b ≡ true → in_mask t.failed b ≡ true
  pub starved_only : (b : ℕ) → b < count → in_mask starved b ≡ true → in_mask t.starved b ≡ true

-- entry n, which was open at history h, has ended, and is answered so
pub record EndsSince (tells : Bool) (p : Placement) (G : List Event) (n : ℕ) (e : Entry) (reply : Reply) (H : List Event) : Type 0 where
  pub h : List Event
  pub failed : ℕ
  pub starved : ℕ
  pub is : H ≡ h ++ Ended failed starved ∷ []
  pub longer : IsPrefix G h
  pub open_now : open_entry_of h ≡ Some e
  pub last : (length (log h) ≡ n) × (n ≡ ended_count h + 1)
  pub answer : AnswersEntry tells p h H (ended_count h) e reply

-- ---- the whole

-- no entry of the session is newer than its request of this number
abbrev pub AreUpTo : ℕ → ℕ → List Entry → Type 0
AreUpTo s q entries = All (λ (d : Entry). d.session ≡ s → d.seq ≤ q) entries

-- a write of session s is a turn, by an entry with this number, or by none where it is 0
pub record WritesTurn (tells : Bool) (p : Placement) (s : ℕ) (a : SessionView) (e : Entry) (number : ℕ) (reply : Reply) (z : SessionView) : Type 0 where
  pub turn : Turn tells p s a (call_of_entry (Some e) reply) z
  pub none : number ≡ 0 → (entry_count_of s z.front ≡ entry_count_of s a.front) × (tx_of (log z.front) s ≡ tx_of (log a.front) s)
  pub one : 0 < number → (slice_get (log z.front) (number - 1) ≡ Some e) × (entry_count_of s z.front ≡ entry_count_of s a.front + 1) × (tx_of (log z.front) s ≡ tx_after_entry number (tx_of (log a.front) s) e.act)
  pub newer : AreUpTo s e.seq (log z.front)
