-- What an administrator is told to have failed shows.
use Rattle.std.proofs.Common.{◌≡◌, ℕ, Bool, List, [], ◌∷◌, ◌++◌, Option, Err, sym, subst}
use mathlib.Core.List.{IsPrefix}
use Rattle.cj_model.specs.Cluster.Placements.{Placement}
use Rattle.cj_cluster.specs.declared.event.Event.{Event}
use Rattle.cj_cluster.specs.declared.event.Event.TheVariants.{LogFailed}
use Rattle.cj_cluster.proofs.Pushed.{prefix_self}
use Rattle.cj_place.specs.Layouts.{Layout}
use Rattle.cj_board.specs.declared.view.SeatView.{SeatView}
use Rattle.cj_dump.specs.declared.dump.Dump.{Dump}
use Rattle.cj_shelf.specs.Shelves.{ShelfState}
use Rattle.cj_locked_cell.specs.Asking.{NotesFault}
use Rattle.cj_return_path.specs.Dumping.{BeginsDump}
use Rattle.cj_return_path.specs.Restoring.{EnablesSince, LoadsBackend, ReplaysLog}
use Rattle.cj_return_path.specs.declared.restore.RestoreError.{RestoreError}
use Rattle.cj_return_path.specs.declared.restore.RestoreError.TheVariants as restore
use Rattle.cj_administration.specs.Administration.{ChecksSince, DisablesSince, EndsOrphanSince}
use Rattle.cj_administration.specs.Auditing.{FailsAudit}
use Rattle.cj_administration.specs.declared.administration.AdminError.{AdminError}
use Rattle.cj_administration.specs.declared.administration.AdminError.TheVariants as admin
use Rattle.cj_replay.specs.Reenabling.{Reenables}
use Rattle.cj_replay.specs.declared.reenabling.ReplayError.{ReplayError}
use Rattle.cj_replay.specs.declared.reenabling.ReplayError.TheVariants as replay
use Rattle.cj_backup.specs.Backups.{BacksUp}
use Rattle.cj_backup.specs.declared.backing.BackupError.{BackupError}
use Rattle.cj_backup.specs.declared.backing.BackupError.TheVariants as backup
use Rattle.cj_completeness.specs.ShownFailures.{HasLogFailedSince, ShowsFailed, failed_by_admin, failed_by_backup, failed_by_replay, failed_by_restore}

-- the event of the log's store is the last that the pass has seen
log_failed_last : (F m G : List Event) (s q : ℕ) → IsPrefix F m → G ≡ m ++ LogFailed s q ∷ [] → HasLogFailedSince F G
log_failed_last F m G s q longer is =
    record { before = m; session = s; number = q; longer = longer; seen = subst (λ (h : List Event). IsPrefix h G) is (prefix_self G) }

-- the number that a refusal gives is the backend's
noted_as : (b k : ℕ) (old new : SeatView) → k ≡ b → NotesFault b old new → NotesFault k old new
noted_as b k old new is noted = subst (λ (n : ℕ). NotesFault n old new) (sym is) noted

module _ (old new : SeatView) where
  abbrev Shows : AdminError → Type 0
  Shows error = ShowsFailed old new (failed_by_admin error)

  pub disable_shows : (b : ℕ) (error : AdminError) → DisablesSince old.front new.front b (Err error) → Shows error
  disable_shows b admin.NotEnabled x = tt
  disable_shows b admin.NameTaken x = tt
  disable_shows b (admin.NotOrphan tx) x = tt
  disable_shows b (admin.HistoryFull n) x = tt
  disable_shows b admin.LogFault x = absurd x.at
  disable_shows b (admin.Fault k) x = absurd x.at
  disable_shows b admin.NoMemory x = tt

  pub checkpoint_shows : (name : List ℕ) (error : AdminError) → ChecksSince old.front new.front name (Err error) → Shows error
  checkpoint_shows name admin.NotEnabled x = tt
  checkpoint_shows name admin.NameTaken x = tt
  checkpoint_shows name (admin.NotOrphan tx) x = tt
  checkpoint_shows name (admin.HistoryFull n) x = tt
  checkpoint_shows name admin.LogFault x = log_failed_last old.front x.m new.front 0 0 x.longer x.at
  checkpoint_shows name (admin.Fault k) x = absurd x.at
  checkpoint_shows name admin.NoMemory x = tt

  pub orphan_shows : (tells : Bool) (p : Placement) (tx : ℕ) (error : AdminError) → EndsOrphanSince tells p old.front new.front tx (Err error) → Shows error
  orphan_shows tells p tx admin.NotEnabled x = tt
  orphan_shows tells p tx admin.NameTaken x = tt
  orphan_shows tells p tx (admin.NotOrphan t) x = tt
  orphan_shows tells p tx (admin.HistoryFull n) x = tt
  orphan_shows tells p tx admin.LogFault x = log_failed_last old.front x.m new.front 0 0 x.longer x.why
  orphan_shows tells p tx (admin.Fault k) x = absurd x.why
  orphan_shows tells p tx admin.NoMemory x = tt

  pub audit_shows : (h : List Event) (error : AdminError) → FailsAudit h old new error → Shows error
  audit_shows h admin.NotEnabled x = tt
  audit_shows h admin.NameTaken x = tt
  audit_shows h (admin.NotOrphan tx) x = tt
  audit_shows h (admin.HistoryFull n) x = tt
  audit_shows h admin.LogFault x = absurd x
  audit_shows h (admin.Fault b) x = x.1
  audit_shows h admin.NoMemory x = tt

  abbrev ShowsRestoring : RestoreError → Type 0
  ShowsRestoring error = ShowsFailed old new (failed_by_restore error)

  pub dump_shows : (tells : Bool) (l : Layout) (b : ℕ) (name : List ℕ) (error : RestoreError) → BeginsDump tells l b name old new (Err error) → ShowsRestoring error
  dump_shows tells l b name restore.NotEnabled x = tt
  dump_shows tells l b name restore.AlreadyEnabled x = tt
  dump_shows tells l b name restore.NameTaken x = tt
  dump_shows tells l b name (restore.LastHost table) x = tt
  dump_shows tells l b name (restore.HistoryFull n) x = tt
  dump_shows tells l b name restore.LogFault x = log_failed_last old.front x.0 new.front 0 0 x.1 x.2
  dump_shows tells l b name (restore.Fault k) x = noted_as b k old new x.0 x.2
  dump_shows tells l b name restore.Starved x = tt
  dump_shows tells l b name (restore.Out seen) x = tt
  dump_shows tells l b name restore.NotOut x = tt
  dump_shows tells l b name (restore.DumpLacks table) x = tt
  dump_shows tells l b name (restore.DumpAhead n) x = tt
  dump_shows tells l b name restore.NoMemory x = tt

  pub load_shows : (l : Layout) (b : ℕ) (d : Dump) (error : RestoreError) → LoadsBackend l b d old new (Err error) → ShowsRestoring error
  load_shows l b d restore.NotEnabled x = tt
  load_shows l b d restore.AlreadyEnabled x = tt
  load_shows l b d restore.NameTaken x = tt
  load_shows l b d (restore.LastHost table) x = tt
  load_shows l b d (restore.HistoryFull n) x = tt
  load_shows l b d restore.LogFault x = absurd x
  load_shows l b d (restore.Fault k) x = noted_as b k old new x.0 x.1
  load_shows l b d restore.Starved x = tt
  load_shows l b d (restore.Out seen) x = tt
  load_shows l b d restore.NotOut x = tt
  load_shows l b d (restore.DumpLacks table) x = tt
  load_shows l b d (restore.DumpAhead n) x = tt
  load_shows l b d restore.NoMemory x = tt

  pub replay_shows : (b most : ℕ) (error : RestoreError) → ReplaysLog b most old new (Err error) → ShowsRestoring error
  replay_shows b most restore.NotEnabled x = tt
  replay_shows b most restore.AlreadyEnabled x = tt
  replay_shows b most restore.NameTaken x = tt
  replay_shows b most (restore.LastHost table) x = tt
  replay_shows b most (restore.HistoryFull n) x = tt
  replay_shows b most restore.LogFault x = absurd x
  replay_shows b most (restore.Fault k) x = noted_as b k old new x.0 x.1
  replay_shows b most restore.Starved x = tt
  replay_shows b most (restore.Out seen) x = tt
  replay_shows b most restore.NotOut x = tt
  replay_shows b most (restore.DumpLacks table) x = tt
  replay_shows b most (restore.DumpAhead n) x = tt
  replay_shows b most restore.NoMemory x = tt

  pub enable_shows : (b : ℕ) (error : RestoreError) → EnablesSince b old new (Err error) → ShowsRestoring error
  enable_shows b restore.NotEnabled x = tt
  enable_shows b restore.AlreadyEnabled x = tt
  enable_shows b restore.NameTaken x = tt
  enable_shows b (restore.LastHost table) x = tt
  enable_shows b (restore.HistoryFull n) x = tt
  enable_shows b restore.LogFault x = absurd x
  enable_shows b (restore.Fault k) x = noted_as b k old new x.0 x.1
  enable_shows b restore.Starved x = tt
  enable_shows b (restore.Out seen) x = tt
  enable_shows b restore.NotOut x = tt
  enable_shows b (restore.DumpLacks table) x = tt
  enable_shows b (restore.DumpAhead n) x = tt
  enable_shows b restore.NoMemory x = tt

  pub reenable_shows : (l : Layout) (b : ℕ) (d : Option Dump) (error : ReplayError) → Reenables l b d old new (Err error) → ShowsFailed old new (failed_by_replay error)
  reenable_shows l b d replay.AlreadyEnabled x = tt
  reenable_shows l b d (replay.NeedsDump seen) x = tt
  reenable_shows l b d (replay.Failed k) x = noted_as b k old new x.0 x.1
  reenable_shows l b d replay.Starved x = tt
  reenable_shows l b d (replay.DumpLacks table) x = tt
  reenable_shows l b d (replay.DumpAhead n) x = tt
  reenable_shows l b d (replay.HistoryFull n) x = tt
  reenable_shows l b d replay.NoMemory x = tt

  pub backup_shows : {D : Type 0} (tells kept : Bool) (l : Layout) (b : ℕ) (name : List ℕ) (shelf now : ShelfState D) (error : BackupError) → BacksUp tells kept l b name old new shelf now (Err error) → ShowsFailed old new (failed_by_backup error)
  backup_shows tells kept l b name shelf now backup.NotEnabled x = tt
  backup_shows tells kept l b name shelf now backup.NameTaken x = tt
  backup_shows tells kept l b name shelf now (backup.LastHost table) x = tt
  backup_shows tells kept l b name shelf now (backup.Failed k) x = noted_as b k old new x.0 x.2
  backup_shows tells kept l b name shelf now backup.StoreFault x = tt
  backup_shows tells kept l b name shelf now backup.LogFault x = log_failed_last old.front x.0.0 new.front 0 0 x.0.1 x.0.2
  backup_shows tells kept l b name shelf now (backup.HistoryFull n) x = tt
  backup_shows tells kept l b name shelf now backup.NoMemory x = tt
