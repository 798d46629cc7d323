-- Who an administrator is told to have failed, and where that shows.
use Rattle.std.specs.Prelude.{ℕ, List, [], ◌∷◌, ◌++◌}
use mathlib.Core.List.{IsPrefix}
use Rattle.cj_cluster.specs.declared.event.Event.{Event}
use Rattle.cj_cluster.specs.declared.event.Event.TheVariants.{LogFailed}
use Rattle.cj_board.specs.declared.view.SeatView.{SeatView}
use Rattle.cj_locked_cell.specs.Asking.{NotesFault}
use Rattle.cj_administration.specs.declared.administration.AdminError.{AdminError}
use Rattle.cj_administration.specs.declared.administration.AdminError.TheVariants as admin
use Rattle.cj_return_path.specs.declared.restore.RestoreError.{RestoreError}
use Rattle.cj_return_path.specs.declared.restore.RestoreError.TheVariants as restore
use Rattle.cj_replay.specs.declared.reenabling.ReplayError.{ReplayError}
use Rattle.cj_replay.specs.declared.reenabling.ReplayError.TheVariants as replay
use Rattle.cj_backup.specs.declared.backing.BackupError.{BackupError}
use Rattle.cj_backup.specs.declared.backing.BackupError.TheVariants as backup

-- ---- who failed

-- what of a cluster is said to have failed
pub data FailedPart : Type 0 where
  nothing : FailedPart
  backend : ℕ → FailedPart
  log_store : FailedPart

-- by an error of `disable`, `checkpoint`, `abort_orphan` and `audit`
abbrev pub failed_by_admin : AdminError → FailedPart
failed_by_admin admin.NotEnabled = nothing
failed_by_admin admin.NameTaken = nothing
failed_by_admin (admin.NotOrphan tx) = nothing
failed_by_admin (admin.HistoryFull n) = nothing
failed_by_admin admin.LogFault = log_store
failed_by_admin (admin.Fault b) = backend b
failed_by_admin admin.NoMemory = nothing

-- by an error of `begin_dump`, `load`, `replay` and `enable`
abbrev pub failed_by_restore : RestoreError → FailedPart
failed_by_restore restore.NotEnabled = nothing
failed_by_restore restore.AlreadyEnabled = nothing
failed_by_restore restore.NameTaken = nothing
failed_by_restore (restore.LastHost table) = nothing
failed_by_restore (restore.HistoryFull n) = nothing
failed_by_restore restore.LogFault = log_store
failed_by_restore (restore.Fault b) = backend b
failed_by_restore restore.Starved = nothing
failed_by_restore (restore.Out seen) = nothing
failed_by_restore restore.NotOut = nothing
failed_by_restore (restore.DumpLacks table) = nothing
failed_by_restore (restore.DumpAhead n) = nothing
failed_by_restore restore.NoMemory = nothing

-- by an error of `reenable`
abbrev pub failed_by_replay : ReplayError → FailedPart
failed_by_replay replay.AlreadyEnabled = nothing
failed_by_replay (replay.NeedsDump seen) = nothing
failed_by_replay (replay.Failed b) = backend b
failed_by_replay replay.Starved = nothing
failed_by_replay (replay.DumpLacks table) = nothing
failed_by_replay (replay.DumpAhead n) = nothing
failed_by_replay (replay.HistoryFull n) = nothing
failed_by_replay replay.NoMemory = nothing

-- by an error of `backup`, the store of the dumps aside
abbrev pub failed_by_backup : BackupError → FailedPart
failed_by_backup backup.NotEnabled = nothing
failed_by_backup backup.NameTaken = nothing
failed_by_backup (backup.LastHost table) = nothing
failed_by_backup (backup.Failed b) = backend b
failed_by_backup backup.StoreFault = nothing
failed_by_backup backup.LogFault = log_store
failed_by_backup (backup.HistoryFull n) = nothing
failed_by_backup backup.NoMemory = nothing

-- ---- where it shows

-- since history F the log's store has failed
pub record HasLogFailedSince (F G : List Event) : Type 0 where
  pub before : List Event
  pub session : ℕ
  pub number : ℕ
  pub longer : IsPrefix F before
  pub seen : IsPrefix (before ++ LogFailed session number ∷ []) G

-- The pass shows that this failed in the call: it has a new fault note of the backend, or has seen the event of the
-- log's store.
abbrev pub ShowsFailed : SeatView → SeatView → FailedPart → Type 0
ShowsFailed old new nothing = Unit {0}
ShowsFailed old new (backend b) = NotesFault b old new
ShowsFailed old new log_store = HasLogFailedSince old.front new.front
