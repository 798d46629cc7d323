-- What comes of the administrator's calls, from what a pass had seen to what it has seen then.
use Rattle.std.specs.Prelude.{◌≡◌, ℕ, ◌<◌, Bool, true, false, List, [], ◌∷◌, ◌++◌, length}
use Rattle.std.specs.declared.option.Option.TheVariants.{None}
use Rattle.std.specs.declared.result.Result.{Result}
use Rattle.std.specs.declared.result.Result.TheVariants.{Ok, Err}
use mathlib.Core.List.{IsPrefix}
use Rattle.cj_model.specs.declared.answer.Reply.{Reply}
use Rattle.cj_model.specs.declared.request.Entry.{Entry}
use Rattle.cj_model.specs.Cluster.Placements.{Placement}
use Rattle.cj_cluster.specs.declared.event.Event.{Event}
use Rattle.cj_cluster.specs.declared.event.Event.TheVariants.{Disabled, LogFailed, Marker}
use Rattle.cj_cluster.specs.History.Histories.{events_left, has_marker, is_enabled, log}
use Rattle.cj_book.specs.declared.error.BookError.{BookError}
use Rattle.cj_book.specs.declared.error.BookError.TheVariants as book_errors
use Rattle.cj_locked.specs.Orphans.{IsAbortOf, SchedulesAbortSince}
use Rattle.cj_locked.specs.Writing.{EndsSince}
use Rattle.cj_administration.specs.declared.administration.AdminError.{AdminError}
use Rattle.cj_administration.specs.declared.administration.AdminError.TheVariants.{NotEnabled, NameTaken, NotOrphan, HistoryFull, LogFault, Fault, NoMemory}

-- ---- why the book refuses

-- the administrator never reads this of the book: each call waits for the turn, and needs no backend
abbrev pub CanRefuse : BookError → Type 0
CanRefuse (book_errors.InProgress n) = ⊥
CanRefuse book_errors.NoBackend = ⊥
CanRefuse (book_errors.HistoryFull n) = Unit {0}
CanRefuse book_errors.LogFault = Unit {0}
CanRefuse book_errors.NoMemory = Unit {0}

-- what the administrator reads
abbrev pub IsRefusalOf : BookError → AdminError → Type 0
IsRefusalOf (book_errors.InProgress n) error = ⊥
IsRefusalOf book_errors.NoBackend error = ⊥
IsRefusalOf (book_errors.HistoryFull n) error = error ≡ HistoryFull n
IsRefusalOf book_errors.LogFault error = error ≡ LogFault
IsRefusalOf book_errors.NoMemory error = error ≡ NoMemory

-- ---- a backend is disabled

-- at history m backend b was enabled and is disabled now, or it was disabled, or there was no room; G is seen then
abbrev pub DisablesAt : List Event → ℕ → Result Unit AdminError → List Event → Type 0
DisablesAt m b (Ok u) G = (is_enabled m b ≡ true) × (0 < events_left m) × (G ≡ m ++ Disabled b ∷ [])
DisablesAt m b (Err NotEnabled) G = (is_enabled m b ≡ false) × (G ≡ m)
DisablesAt m b (Err NameTaken) G = ⊥
DisablesAt m b (Err (NotOrphan tx)) G = ⊥
DisablesAt m b (Err (HistoryFull n)) G = (is_enabled m b ≡ true) × (events_left m < 1) × (n ≡ length m) × (G ≡ m)
DisablesAt m b (Err LogFault) G = ⊥
DisablesAt m b (Err (Fault k)) G = ⊥
DisablesAt m b (Err NoMemory) G = ⊥

-- it came now, since the pass had seen F
pub record DisablesSince (F G : List Event) (b : ℕ) (result : Result Unit AdminError) : Type 0 where
  pub m : List Event
  pub longer : IsPrefix F m
  pub at : DisablesAt m b result G

-- ---- a checkpoint

-- a marker of this name came at history m, behind n entries, or none did; G is seen then
abbrev pub ChecksAt : List Event → List ℕ → Result ℕ AdminError → List Event → Type 0
ChecksAt m name (Ok n) G = (n ≡ length (log m)) × (has_marker m name ≡ false) × (G ≡ m ++ Marker name None ∷ [])
ChecksAt m name (Err NotEnabled) G = ⊥
ChecksAt m name (Err NameTaken) G = (has_marker m name ≡ true) × (G ≡ m)
ChecksAt m name (Err (NotOrphan tx)) G = ⊥
ChecksAt m name (Err (HistoryFull n)) G = (n ≡ length m) × (events_left m < 1) × (G ≡ m)
ChecksAt m name (Err LogFault) G = G ≡ m ++ LogFailed 0 0 ∷ []
ChecksAt m name (Err (Fault k)) G = ⊥
ChecksAt m name (Err NoMemory) G = G ≡ m

-- it came now, since the pass had seen F
pub record ChecksSince (F G : List Event) (name : List ℕ) (result : Result ℕ AdminError) : Type 0 where
  pub m : List Event
  pub longer : IsPrefix F m
  pub at : ChecksAt m name result G

-- ---- an orphan is ended

-- since the pass had seen F, the administrator's entry that ends transaction tx was scheduled as entry n, at history H,
-- and has ended at G
pub record AbortsSince (tells : Bool) (p : Placement) (F G : List Event) (tx n : ℕ) : Type 0 where
  pub entry : Entry
  pub aborts : IsAbortOf tx entry
  pub H : List Event
  pub scheduled : SchedulesAbortSince p F H n entry
  pub reply : Reply
  pub ended : EndsSince tells p H n entry reply G

-- the orphan was ended, or why it was not, at history m; G is seen then
abbrev pub RefusesOrphanAt : List Event → ℕ → AdminError → List Event → Type 0
RefusesOrphanAt m tx NotEnabled G = ⊥
RefusesOrphanAt m tx NameTaken G = ⊥
RefusesOrphanAt m tx (NotOrphan t) G = (t ≡ tx) × (G ≡ m)
RefusesOrphanAt m tx (HistoryFull n) G = (n ≡ length m) × (events_left m < 3) × (G ≡ m)
RefusesOrphanAt m tx LogFault G = G ≡ m ++ LogFailed 0 0 ∷ []
RefusesOrphanAt m tx (Fault k) G = ⊥
RefusesOrphanAt m tx NoMemory G = G ≡ m

-- it was refused now, since the pass had seen F
pub record RefusesOrphanSince (F G : List Event) (tx : ℕ) (error : AdminError) : Type 0 where
  pub m : List Event
  pub longer : IsPrefix F m
  pub why : RefusesOrphanAt m tx error G

-- transaction tx was ended by entry n, or it was refused
abbrev pub EndsOrphanSince : Bool → Placement → List Event → List Event → ℕ → Result ℕ AdminError → Type 0
EndsOrphanSince tells p F G tx (Ok n) = AbortsSince tells p F G tx n
EndsOrphanSince tells p F G tx (Err error) = RefusesOrphanSince F G tx error
