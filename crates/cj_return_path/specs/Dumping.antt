-- How a backend is dumped beside work, from what a pass had seen to what it has seen then.
use Rattle.std.specs.Prelude.{◌≡◌, ℕ, ◌<◌, ◌≤◌, Bool, true, false, List, [], ◌∷◌, ◌++◌, length, Result, Ok, Err}
use Rattle.std.specs.declared.option.Option.TheVariants.{None, Some}
use mathlib.Core.List.{IsPrefix}
use Rattle.cj_model.specs.Cluster.Masks.{in_mask}
use Rattle.cj_model.specs.Cluster.Placements.{part}
use Rattle.cj_model.specs.Database.Storable.{IsStorable}
use Rattle.cj_cluster.specs.declared.event.Event.{Event}
use Rattle.cj_cluster.specs.declared.event.Event.TheVariants.{Disabled, LogFailed, Marker}
use Rattle.cj_cluster.specs.History.Histories.{database_after, events_left, has_marker, is_enabled, log}
use Rattle.cj_place.specs.Layouts.{covered, last_host, Layout, placement_of}
use Rattle.cj_board.specs.declared.view.SeatView.{SeatView}
use Rattle.cj_book.specs.declared.error.BookError.{BookError}
use Rattle.cj_book.specs.declared.error.BookError.TheVariants as book_errors
use Rattle.cj_dump.specs.declared.dump.Dump.{Dump}
use Rattle.cj_locked_cell.specs.Asking.{NotesFault}
use Rattle.cj_locked.specs.Auditing.{IsHeldOver}
use Rattle.cj_return_path.specs.declared.restore.RestoreError.{RestoreError}
use Rattle.cj_return_path.specs.declared.restore.RestoreError.TheVariants.{NotEnabled, NameTaken, LastHost, HistoryFull, LogFault, Fault, NoMemory}

-- ---- whether one may be taken

-- backend b may be disabled at history m: it is enabled, and each table that it hosts has another enabled host
pub record CanSpare (l : Layout) (m : List Event) (b : ℕ) : Type 0 where
  pub enabled : is_enabled m b ≡ true
  pub mask : ℕ
  pub is : (c : ℕ) → in_mask mask c ≡ is_enabled m c
  pub spare : last_host l b mask ≡ None

-- the table named is the first whose only enabled host is b at history m; it has the empty name if b alone is enabled
-- and hosts every table
pub record IsLastHostOf (l : Layout) (m : List Event) (b : ℕ) (table : List ℕ) : Type 0 where
  pub mask : ℕ
  pub is : (c : ℕ) → in_mask mask c ≡ is_enabled m c
  pub last : last_host l b mask ≡ Some table

-- a dump of backend b may be begun at history m: there is room for the marker and the event that disables b
pub record CanDump (l : Layout) (m : List Event) (b : ℕ) (name : List ℕ) : Type 0 where
  pub spare : CanSpare l m b
  pub fresh : has_marker m name ≡ false
  pub room : 2 ≤ events_left m

-- why no dump of backend b was begun at history m; the first reason that holds is given
abbrev pub RefusesDump : Layout → List Event → ℕ → List ℕ → RestoreError → Type 0
RefusesDump l m b name NotEnabled = is_enabled m b ≡ false
RefusesDump l m b name NameTaken = (is_enabled m b ≡ true) × (has_marker m name ≡ true)
RefusesDump l m b name (LastHost table) = (is_enabled m b ≡ true) × (has_marker m name ≡ false) × IsLastHostOf l m b table
RefusesDump l m b name (HistoryFull n) = CanSpare l m b × (has_marker m name ≡ false) × (n ≡ length m) × (events_left m < 2)
RefusesDump l m b name NoMemory = Unit {0}
RefusesDump l m b name _ = ⊥

-- ---- its marker

-- The marker of the dump came at history m, behind n entries, and backend b was disabled. Or the log's store failed, or
-- memory ran out. Or failures in queries took the room of the second event: then the marker stands, and b is enabled.
abbrev pub DumpsAt : List Event → List ℕ → ℕ → Result ℕ BookError → List Event → Type 0
DumpsAt m name b (Ok n) G = (n ≡ length (log m)) × (has_marker m name ≡ false) × (is_enabled m b ≡ true) × (G ≡ m ++ Marker name (Some b) ∷ Disabled b ∷ [])
DumpsAt m name b (Err (book_errors.InProgress n)) G = ⊥
DumpsAt m name b (Err book_errors.NoBackend) G = ⊥
DumpsAt m name b (Err (book_errors.HistoryFull n)) G = (G ≡ m ++ Marker name (Some b) ∷ []) × (n ≡ length G) × (events_left G < 1)
DumpsAt m name b (Err book_errors.LogFault) G = G ≡ m ++ LogFailed 0 0 ∷ []
DumpsAt m name b (Err book_errors.NoMemory) G = G ≡ m

-- it came now; since the pass had seen F, no entry came, and none of the backends was enabled or disabled
pub record DumpsSince (F G : List Event) (name : List ℕ) (b : ℕ) (result : Result ℕ BookError) : Type 0 where
  pub m : List Event
  pub over : IsHeldOver F m
  pub at : DumpsAt m name b result G

-- ---- the dump

-- a dump of backend b at the end of history m, as the placement has it: its part of the one database there, if
-- backends tell what they hold
pub record IsTakenDump (tells : Bool) (l : Layout) (m : List Event) (name : List ℕ) (b : ℕ) (d : Dump) : Type 0 where
  pub position : d.position ≡ length (log m)
  pub source : d.source ≡ b
  pub named : d.name ≡ name
  pub all : d.all ≡ l.full
  pub covers : d.covers ≡ covered l b
  pub db : tells ≡ true → d.db ≡ part (placement_of l) b (database_after (log m) (length (log m)))
  pub storable : IsStorable d.db

-- what backend b held at position n was read as a dump of it, or why not
abbrev pub ReadsDump : Bool → Layout → List ℕ → ℕ → ℕ → SeatView → SeatView → Result Dump RestoreError → Type 0
ReadsDump tells l name b n old new (Ok d) = (m : List Event) → IsPrefix m new.front → n ≡ length (log m) → IsTakenDump tells l m name b d
ReadsDump tells l name b n old new (Err (Fault k)) = (k ≡ b) × NotesFault b old new
ReadsDump tells l name b n old new (Err NoMemory) = Unit {0}
ReadsDump tells l name b n old new (Err _) = ⊥

-- since F, the marker of the dump came at history m, and backend b was disabled behind it, while each of its tables had
-- another enabled host
pub record MarksDump (l : Layout) (F G : List Event) (name : List ℕ) (b : ℕ) : Type 0 where
  pub m : List Event
  pub longer : IsPrefix F m
  pub fresh : has_marker m name ≡ false
  pub spare : CanSpare l m b
  pub seen : IsPrefix (m ++ Marker name (Some b) ∷ Disabled b ∷ []) G

-- the dump was taken, or why it was not; the first reason that holds is given. After a fault of the backend, and after
-- want of memory where the marker came, it is disabled.
abbrev pub BeginsDump : Bool → Layout → ℕ → List ℕ → SeatView → SeatView → Result Dump RestoreError → Type 0
BeginsDump tells l b name old new (Ok d) = (marks : MarksDump l old.front new.front name b) × IsTakenDump tells l marks.m name b d
BeginsDump tells l b name old new (Err NotEnabled) = IsPrefix old.front new.front × (is_enabled new.front b ≡ false)
BeginsDump tells l b name old new (Err NameTaken) = (is_enabled new.front b ≡ true) × (has_marker new.front name ≡ true)
BeginsDump tells l b name old new (Err (LastHost table)) = (has_marker new.front name ≡ false) × IsLastHostOf l new.front b table
BeginsDump tells l b name old new (Err (HistoryFull n)) = (n ≡ length new.front) × (events_left new.front < 2)
BeginsDump tells l b name old new (Err LogFault) = (m : List Event) × IsPrefix old.front m × (new.front ≡ m ++ LogFailed 0 0 ∷ [])
BeginsDump tells l b name old new (Err (Fault k)) = (k ≡ b) × MarksDump l old.front new.front name b × NotesFault b old new
BeginsDump tells l b name old new (Err NoMemory) = Unit {0}
BeginsDump tells l b name old new (Err _) = ⊥
