-- How a backend is loaded, brought to the log's end and enabled, from what a pass had seen to what it has seen then. F is
-- the history that it had seen, G the one that it sees then.
use Rattle.std.specs.Prelude.{◌≡◌, ◌⊎◌, ℕ, ◌<◌, ◌≤◌, Bool, true, false, List, [], ◌∷◌, ◌++◌, length, Contains, Result, Ok, Err}
use Rattle.std.specs.declared.option.Option.{Option}
use Rattle.std.specs.declared.option.Option.TheVariants.{None, Some}
use mathlib.Core.List.{IsPrefix}
use Rattle.cj_model.specs.Database.Storable.{IsStorable}
use Rattle.cj_cluster.specs.declared.event.Event.{Event}
use Rattle.cj_cluster.specs.declared.event.Event.TheVariants.{Enabled}
use Rattle.cj_cluster.specs.History.Histories.{database_after, events_left, is_enabled, log}
use Rattle.cj_place.specs.Layouts.{Layout}
use Rattle.cj_board.specs.declared.view.SeatView.{SeatView}
use Rattle.cj_dump.specs.declared.dump.Dump.{Dump}
use Rattle.cj_dump.specs.Coverage.{HasCoveredTables, lacks}
use Rattle.cj_locked_cell.specs.Asking.{NotesFault}
use Rattle.cj_return_path.specs.declared.restore.RestoreError.{RestoreError}
use Rattle.cj_return_path.specs.declared.restore.RestoreError.TheVariants as errors

-- backend b was enabled, or was not, at a history between F and G
abbrev pub WasEnabled : List Event → List Event → ℕ → Bool → Type 0
WasEnabled F G b on = (m : List Event) × IsPrefix F m × IsPrefix m G × (is_enabled m b ≡ on)

-- ---- a load

-- where backends tell what they hold, the dump is what the one database of history F has at its position, of the tables
-- that it covers
pub record IsRightDump (tells : Bool) (F : List Event) (d : Dump) : Type 0 where
  pub storable : IsStorable d.db
  pub within : tells ≡ true → d.position ≤ length (log F)
  pub right : tells ≡ true → HasCoveredTables d (database_after (log F) d.position)

-- backend b was out, and has its tables of the dump; or why not; the first reason that holds is given
abbrev pub LoadsBackend : Layout → ℕ → Dump → SeatView → SeatView → Result Unit RestoreError → Type 0
LoadsBackend l b d old new (Ok u) = (lacks d l b ≡ None) × (d.position ≤ length (log new.front)) × Contains new.position_notes (b, d.position)
LoadsBackend l b d old new (Err errors.AlreadyEnabled) = WasEnabled old.front new.front b true
LoadsBackend l b d old new (Err errors.NotOut) = (k : ℕ) × Contains new.position_notes (b, k)
LoadsBackend l b d old new (Err (errors.DumpLacks table)) = lacks d l b ≡ Some table
LoadsBackend l b d old new (Err (errors.DumpAhead n)) = (n ≡ d.position) × (m : List Event) × IsPrefix old.front m × IsPrefix m new.front × (length (log m) < n)
LoadsBackend l b d old new (Err (errors.Fault k)) = (k ≡ b) × NotesFault b old new
LoadsBackend l b d old new (Err errors.Starved) = Unit {0}
LoadsBackend l b d old new (Err errors.NoMemory) = Unit {0}
LoadsBackend l b d old new (Err _) = ⊥

-- ---- a replay

-- backend b, which had taken n entries, has taken more; or it has taken the first `until`; or why not
abbrev pub TakesNext : ℕ → ℕ → ℕ → SeatView → SeatView → Result (Option ℕ) RestoreError → Type 0
TakesNext b n until old new (Ok (Some k)) = (n < k) × (k ≤ length (log new.front)) × Contains new.position_notes (b, k)
TakesNext b n until old new (Ok None) = until ≤ n
TakesNext b n until old new (Err (errors.Fault k)) = (k ≡ b) × NotesFault b old new
TakesNext b n until old new (Err errors.Starved) = Unit {0}
TakesNext b n until old new (Err errors.NoMemory) = Unit {0}
TakesNext b n until old new (Err _) = ⊥

-- backend b has taken n entries: `most` more, or the first `until`; or why not
abbrev pub ReplaysTo : ℕ → ℕ → ℕ → SeatView → SeatView → Result ℕ RestoreError → Type 0
ReplaysTo b most until old new (Ok n) = ((most ≤ n) ⊎ (until ≤ n)) × (n ≤ length (log new.front)) × Contains new.position_notes (b, n)
ReplaysTo b most until old new (Err (errors.Out seen)) = seen.b ≡ b
ReplaysTo b most until old new (Err (errors.Fault k)) = (k ≡ b) × NotesFault b old new
ReplaysTo b most until old new (Err errors.Starved) = Unit {0}
ReplaysTo b most until old new (Err errors.NoMemory) = Unit {0}
ReplaysTo b most until old new (Err _) = ⊥

-- backend b has taken n entries: `most` more, or as many as the log had; or why not
abbrev pub ReplaysLog : ℕ → ℕ → SeatView → SeatView → Result ℕ RestoreError → Type 0
ReplaysLog b most old new (Ok n) = ((most ≤ n) ⊎ (length (log old.front) ≤ n)) × (n ≤ length (log new.front)) × Contains new.position_notes (b, n)
ReplaysLog b most old new (Err errors.AlreadyEnabled) = WasEnabled old.front new.front b true
ReplaysLog b most old new (Err (errors.Out seen)) = seen.b ≡ b
ReplaysLog b most old new (Err (errors.Fault k)) = (k ≡ b) × NotesFault b old new
ReplaysLog b most old new (Err errors.Starved) = Unit {0}
ReplaysLog b most old new (Err errors.NoMemory) = Unit {0}
ReplaysLog b most old new (Err _) = ⊥

-- ---- enabling

-- backend b was enabled behind n entries, all that the log has then; or why not
abbrev pub EnablesSince : ℕ → SeatView → SeatView → Result ℕ RestoreError → Type 0
EnablesSince b old new (Ok n) = (m : List Event) × IsPrefix old.front m × (is_enabled m b ≡ false) × (n ≡ length (log m)) × (new.front ≡ m ++ Enabled b ∷ [])
EnablesSince b old new (Err errors.AlreadyEnabled) = WasEnabled old.front new.front b true
EnablesSince b old new (Err (errors.Out seen)) = seen.b ≡ b
EnablesSince b old new (Err (errors.HistoryFull n)) = (n ≡ length new.front) × (events_left new.front < 1)
EnablesSince b old new (Err (errors.Fault k)) = (k ≡ b) × NotesFault b old new
EnablesSince b old new (Err errors.Starved) = Unit {0}
EnablesSince b old new (Err errors.NoMemory) = Unit {0}
EnablesSince b old new (Err _) = ⊥
