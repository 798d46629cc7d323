-- What becomes of the entry by which the administrator ends an orphan, from what a pass had seen to what it has seen
-- then.
use Rattle.std.specs.Prelude.{◌≡◌, ℕ, ◌+◌, ◌<◌, Bool, List, [], ◌∷◌, ◌++◌, length}
use mathlib.Core.List.{IsPrefix}
use Rattle.cj_model.specs.declared.request.Act.TheVariants as act
use Rattle.cj_model.specs.declared.request.Entry.{Entry}
use Rattle.cj_model.specs.Cluster.Placements.{Placement}
use Rattle.cj_cluster.specs.declared.event.Event.{Event}
use Rattle.cj_cluster.specs.declared.event.Event.TheVariants.{Sched, LogFailed}
use Rattle.cj_cluster.specs.History.Histories.{events_left, log}
use Rattle.cj_cluster.specs.Moves.Moves.{entry_numbered, user_of}
use Rattle.cj_log.specs.declared.item.LogItem.{LogItem}
use Rattle.cj_log.specs.Items.{CanAppend}
use Rattle.cj_recovery.specs.Openings.{entry_item}
use Rattle.cj_book.specs.BookLogs.{BookLogState}
use Rattle.cj_book.specs.declared.error.BookError.{BookError}
use Rattle.cj_book.specs.declared.error.BookError.TheVariants.{InProgress, NoBackend, HistoryFull, LogFault, NoMemory}
use Rattle.cj_book.specs.declared.pending.Prepared.{Prepared}
use Rattle.cj_locked.specs.Writing.{HoldsPending, IsScheduledIn}

-- the administrator's entry that ends this transaction
pub record IsAbortOf (tx : ℕ) (e : Entry) : Type 0 where
  pub session : e.session ≡ 0
  pub transaction : e.tx ≡ tx
  pub aborts : e.act ≡ act.Abort

-- that entry, for the user who began it
abbrev pub abort_entry_of : List Entry → ℕ → Entry
abort_entry_of entries tx = record { session = 0; seq = 0; tx = tx; user = user_of (entry_numbered entries tx); act = act.Abort }

-- it was begun now, since the pass had seen F; this is its item for the log
pub record BeginsAbortSince {S : Type 0} (tells : Bool) (count : S → ℕ) (p : Placement) (F G : List Event) (tx : ℕ) (e copy : Entry) (prepared : Prepared) (amount : ℕ) (l : BookLogState S) (item : LogItem) : Type 0 where
  pub aborts : IsAbortOf tx e
  pub copied : copy ≡ e
  pub holds : HoldsPending tells count p G e prepared amount l
  pub longer : IsPrefix F holds.m
  pub is : G ≡ holds.m
  pub its : (item ≡ entry_item (length (log holds.m) + 1) e) × CanAppend item

-- why none was begun, at this history
abbrev pub RefusesAbort : List Event → BookError → Type 0
RefusesAbort G (InProgress n) = ⊥
RefusesAbort G NoBackend = ⊥
RefusesAbort G (HistoryFull n) = (n ≡ length G) × (events_left G < 3)
RefusesAbort G LogFault = ⊥
RefusesAbort G NoMemory = Unit {0}

-- entry n was scheduled now, since the pass had seen F
pub record SchedulesAbortSince (p : Placement) (F G : List Event) (n : ℕ) (e : Entry) : Type 0 where
  pub at : IsScheduledIn p G n e
  pub longer : IsPrefix F at.m
  pub is : G ≡ at.m ++ Sched e ∷ []

-- why it was not, at history m; G is seen then
abbrev pub RefusesAppendedAt : List Event → BookError → List Event → Type 0
RefusesAppendedAt m (InProgress n) G = ⊥
RefusesAppendedAt m NoBackend G = ⊥
RefusesAppendedAt m (HistoryFull n) G = ⊥
RefusesAppendedAt m LogFault G = G ≡ m ++ LogFailed 0 0 ∷ []
RefusesAppendedAt m NoMemory G = G ≡ m

-- it was refused now, since the pass had seen F
pub record RefusesAppendedSince (F G : List Event) (error : BookError) : Type 0 where
  pub m : List Event
  pub longer : IsPrefix F m
  pub why : RefusesAppendedAt m error G
