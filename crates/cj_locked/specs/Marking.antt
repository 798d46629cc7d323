-- What becomes of a checkpoint's marker, from what a pass had seen to what it has seen then.
use Rattle.std.specs.Prelude.{◌≡◌, ℕ, ◌<◌, Bool, true, false, List, [], ◌∷◌, ◌++◌, length, Result, Ok, Err}
use Rattle.std.specs.declared.option.Option.{Option}
use Rattle.std.specs.declared.option.Option.TheVariants.{Some}
use mathlib.Core.List.{IsPrefix}
use Rattle.cj_cluster.specs.declared.event.Event.{Event}
use Rattle.cj_cluster.specs.declared.event.Event.TheVariants.{LogFailed, Marker}
use Rattle.cj_cluster.specs.History.Histories.{events_left, has_marker, is_free, log}
use Rattle.cj_log.specs.declared.error.LogError.{LogError}
use Rattle.cj_log.specs.declared.error.LogError.TheVariants as log_errors
use Rattle.cj_log.specs.declared.item.LogItem.{LogItem}
use Rattle.cj_log.specs.Items.{CanAppend}
use Rattle.cj_recovery.specs.Openings.{marker_item}
use Rattle.cj_book.specs.BookLogs.{BookLogState, LogFollows}
use Rattle.cj_book.specs.declared.error.BookError.{BookError}
use Rattle.cj_book.specs.declared.error.BookError.TheVariants.{InProgress, NoBackend, HistoryFull, LogFault, NoMemory}
use Rattle.cj_book.specs.declared.pending.Pending.TheVariants as pending
use Rattle.cj_locked.specs.Auditing.{IsHeldOver}
use Rattle.cj_locked.specs.Turns.{turn_amount}

-- Who began a marker at history m, where it could come, has the turn: the turn's amount has a marker as pending, and
-- the log follows that history. G goes on from there.
pub record HoldsMarker {S : Type 0} (tells : Bool) (count : S → ℕ) (G : List Event) (name : List ℕ) (amount : ℕ) (l : BookLogState S) : Type 0 where
  pub m : List Event
  pub was_free : is_free m ≡ true
  pub fresh : has_marker m name ≡ false
  pub seen : IsPrefix m G
  pub turn : amount ≡ turn_amount m (Some pending.Marker)
  pub follows : LogFollows tells count l m

-- it was begun now, since the pass had seen F; this is its item for the log, of a dump of backend b where there is one
pub record BeginsMarkSince {S : Type 0} (tells : Bool) (count : S → ℕ) (F G : List Event) (name : List ℕ) (b : Option ℕ) (amount : ℕ) (l : BookLogState S) (item : LogItem) : Type 0 where
  pub holds : HoldsMarker tells count G name amount l
  pub longer : IsPrefix F holds.m
  pub is : G ≡ holds.m
  pub its : (item ≡ marker_item (length (log holds.m)) name b) × CanAppend item

-- why none was begun at this history
abbrev pub RefusesMark : List Event → BookError → Type 0
RefusesMark m (InProgress n) = ⊥
RefusesMark m NoBackend = ⊥
RefusesMark m (HistoryFull n) = (n ≡ length m) × (events_left m < 1)
RefusesMark m LogFault = ⊥
RefusesMark m NoMemory = 0 < events_left m

-- the log was asked to append a marker's item behind history h, and follows the history in which the event of that has
-- come
abbrev pub FollowsMarker : {S : Type 0} → Bool → (S → ℕ) → BookLogState S → List Event → List ℕ → Option ℕ → Result Unit LogError → Type 0
FollowsMarker tells count l h name b (Ok u) = LogFollows tells count l (h ++ Marker name b ∷ [])
FollowsMarker tells count l h name b (Err log_errors.Failed) = LogFollows tells count l (h ++ LogFailed 0 0 ∷ [])
FollowsMarker tells count l h name b (Err log_errors.NoMemory) = LogFollows tells count l h

-- Who began a marker and had the log asked to append its item. The log followed the history as `before` until then.
pub record HoldsMarked {S : Type 0} (tells : Bool) (count : S → ℕ) (G : List Event) (name : List ℕ) (b : Option ℕ) (amount : ℕ) (l : BookLogState S) (appended : Result Unit LogError) : Type 0 where
  pub before : BookLogState S
  pub holds : HoldsMarker tells count G name amount before
  pub follows : (h : List Event) → LogFollows tells count before h → length (log h) ≡ length (log holds.m) → FollowsMarker tells count l h name b appended

-- the marker came at history m, behind n entries, or the event of the log's fault, or none; G is seen then
abbrev pub MarksAt : List Event → List ℕ → Option ℕ → Result ℕ BookError → List Event → Type 0
MarksAt m name b (Ok n) G = (n ≡ length (log m)) × (has_marker m name ≡ false) × (G ≡ m ++ Marker name b ∷ [])
MarksAt m name b (Err (InProgress n)) G = ⊥
MarksAt m name b (Err NoBackend) G = ⊥
MarksAt m name b (Err (HistoryFull n)) G = ⊥
MarksAt m name b (Err LogFault) G = G ≡ m ++ LogFailed 0 0 ∷ []
MarksAt m name b (Err NoMemory) G = G ≡ m

-- it came now; since the pass had seen F, no entry came, and none of the backends was enabled or disabled
pub record MarksSince (F G : List Event) (name : List ℕ) (b : Option ℕ) (result : Result ℕ BookError) : Type 0 where
  pub m : List Event
  pub over : IsHeldOver F m
  pub at : MarksAt m name b result G
