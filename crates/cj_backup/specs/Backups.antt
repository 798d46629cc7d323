-- How a dump of a backend gets onto the shelf, from what a pass had seen to what it has seen then.
use Rattle.std.specs.Prelude.{◌≡◌, ◌⊎◌, ℕ, ◌<◌, Bool, true, false, List, [], ◌∷◌, ◌++◌, length, Result, Ok, Err}
use mathlib.Core.List.{IsPrefix}
use Rattle.cj_cluster.specs.declared.event.Event.{Event}
use Rattle.cj_cluster.specs.declared.event.Event.TheVariants.{LogFailed}
use Rattle.cj_cluster.specs.History.Histories.{events_left, has_marker, is_enabled}
use Rattle.cj_place.specs.Layouts.{Layout}
use Rattle.cj_board.specs.declared.view.SeatView.{SeatView}
use Rattle.cj_dump.specs.declared.dump.Dump.{Dump}
use Rattle.cj_shelf.specs.Shelves.{is_shelved, ShelfState}
use Rattle.cj_locked_cell.specs.Asking.{NotesFault}
use Rattle.cj_return_path.specs.Dumping.{IsLastHostOf, IsTakenDump, MarksDump}
use Rattle.cj_return_path.specs.declared.restore.RestoreError.{RestoreError}
use Rattle.cj_return_path.specs.declared.restore.RestoreError.TheVariants as refused
use Rattle.cj_backup.specs.declared.backing.BackupError.{BackupError}
use Rattle.cj_backup.specs.declared.backing.BackupError.TheVariants as errors

-- the dump of backend b that its marker names stands on the shelf behind the others, of which none had the name; or why
-- not. The first reason that holds is given. Where nothing was added the shelf has the dumps that it had.
abbrev pub BacksUp : {D : Type 0} → Bool → Bool → Layout → ℕ → List ℕ → SeatView → SeatView → ShelfState D → ShelfState D → Result ℕ BackupError → Type 0
BacksUp tells kept l b name old new shelf now (Ok n) = (is_shelved name shelf.names ≡ false) × (marks : MarksDump l old.front new.front name b) × (d : Dump) × IsTakenDump tells l marks.m name b d × (n ≡ d.position) × (now.names ≡ shelf.names ++ name ∷ []) × (kept ≡ true → now.dumps ≡ shelf.dumps ++ d ∷ [])
BacksUp tells kept l b name old new shelf now (Err errors.NotEnabled) = (is_enabled new.front b ≡ false) × (now ≡ shelf)
BacksUp tells kept l b name old new shelf now (Err errors.NameTaken) = ((is_shelved name shelf.names ≡ true) ⊎ (has_marker new.front name ≡ true)) × (now ≡ shelf)
BacksUp tells kept l b name old new shelf now (Err (errors.LastHost table)) = IsLastHostOf l new.front b table × (now ≡ shelf)
BacksUp tells kept l b name old new shelf now (Err (errors.Failed k)) = (k ≡ b) × MarksDump l old.front new.front name b × NotesFault b old new × (now ≡ shelf)
BacksUp tells kept l b name old new shelf now (Err errors.StoreFault) = MarksDump l old.front new.front name b × (now.names ≡ shelf.names) × (kept ≡ true → now.dumps ≡ shelf.dumps)
BacksUp tells kept l b name old new shelf now (Err errors.LogFault) = ((m : List Event) × IsPrefix old.front m × (new.front ≡ m ++ LogFailed 0 0 ∷ [])) × (now ≡ shelf)
BacksUp tells kept l b name old new shelf now (Err (errors.HistoryFull n)) = (n ≡ length new.front) × (events_left new.front < 2) × (now ≡ shelf)
BacksUp tells kept l b name old new shelf now (Err errors.NoMemory) = (now.names ≡ shelf.names) × (kept ≡ true → now.dumps ≡ shelf.dumps)

-- ---- the dump is put onto the shelf

-- it stands behind the others, and its position is given; or the shelf has the dumps that it had
abbrev pub Puts : {D : Type 0} → Bool → ShelfState D → ShelfState D → Dump → Result ℕ BackupError → Type 0
Puts kept shelf now d (Ok n) = (n ≡ d.position) × (now.names ≡ shelf.names ++ d.name ∷ []) × (kept ≡ true → now.dumps ≡ shelf.dumps ++ d ∷ [])
Puts kept shelf now d (Err errors.StoreFault) = (now.names ≡ shelf.names) × (kept ≡ true → now.dumps ≡ shelf.dumps)
Puts kept shelf now d (Err errors.NoMemory) = (now.names ≡ shelf.names) × (kept ≡ true → now.dumps ≡ shelf.dumps)
Puts kept shelf now d (Err errors.NotEnabled) = ⊥
Puts kept shelf now d (Err errors.NameTaken) = ⊥
Puts kept shelf now d (Err (errors.LastHost table)) = ⊥
Puts kept shelf now d (Err (errors.Failed k)) = ⊥
Puts kept shelf now d (Err errors.LogFault) = ⊥
Puts kept shelf now d (Err (errors.HistoryFull n)) = ⊥

-- ---- why the cluster refuses a dump

-- it refuses one for no other reason
abbrev pub MayRefuseBackup : RestoreError → Type 0
MayRefuseBackup refused.NotEnabled = Unit {0}
MayRefuseBackup refused.AlreadyEnabled = ⊥
MayRefuseBackup refused.NameTaken = Unit {0}
MayRefuseBackup (refused.LastHost table) = Unit {0}
MayRefuseBackup (refused.HistoryFull n) = Unit {0}
MayRefuseBackup refused.LogFault = Unit {0}
MayRefuseBackup (refused.Fault k) = Unit {0}
MayRefuseBackup refused.Starved = ⊥
MayRefuseBackup (refused.Out seen) = ⊥
MayRefuseBackup refused.NotOut = ⊥
MayRefuseBackup (refused.DumpLacks table) = ⊥
MayRefuseBackup (refused.DumpAhead n) = ⊥
MayRefuseBackup refused.NoMemory = Unit {0}

-- what the caller reads then
abbrev pub IsBackupErrorOf : RestoreError → BackupError → Type 0
IsBackupErrorOf refused.NotEnabled error = error ≡ errors.NotEnabled
IsBackupErrorOf refused.AlreadyEnabled error = ⊥
IsBackupErrorOf refused.NameTaken error = error ≡ errors.NameTaken
IsBackupErrorOf (refused.LastHost table) error = error ≡ errors.LastHost table
IsBackupErrorOf (refused.HistoryFull n) error = error ≡ errors.HistoryFull n
IsBackupErrorOf refused.LogFault error = error ≡ errors.LogFault
IsBackupErrorOf (refused.Fault k) error = error ≡ errors.Failed k
IsBackupErrorOf refused.Starved error = ⊥
IsBackupErrorOf (refused.Out seen) error = ⊥
IsBackupErrorOf refused.NotOut error = ⊥
IsBackupErrorOf (refused.DumpLacks table) error = ⊥
IsBackupErrorOf (refused.DumpAhead n) error = ⊥
IsBackupErrorOf refused.NoMemory error = error ≡ errors.NoMemory
