-- How a backend comes back, from what a pass had seen to what it has seen then.
use Rattle.std.specs.Prelude.{◌≡◌, ℕ, ◌<◌, true, List, [], ◌∷◌, ◌++◌, length, Result, Ok, Err}
use Rattle.std.specs.declared.option.Option.{Option}
use Rattle.std.specs.declared.option.Option.TheVariants.{Some}
use mathlib.Core.List.{IsPrefix}
use Rattle.cj_cluster.specs.declared.event.Event.{Event}
use Rattle.cj_cluster.specs.declared.event.Event.TheVariants.{Enabled}
use Rattle.cj_cluster.specs.History.Histories.{events_left, is_enabled, log}
use Rattle.cj_place.specs.Layouts.{Layout}
use Rattle.cj_board.specs.declared.view.SeatView.{SeatView}
use Rattle.cj_dump.specs.declared.dump.Dump.{Dump}
use Rattle.cj_dump.specs.Coverage.{lacks}
use Rattle.cj_locked_cell.specs.Asking.{NotesFault}
use Rattle.cj_return_path.specs.Restoring.{WasEnabled}
use Rattle.cj_return_path.specs.declared.restore.RestoreError.{RestoreError}
use Rattle.cj_return_path.specs.declared.restore.RestoreError.TheVariants as refused
use Rattle.cj_replay.specs.declared.reenabling.ReplayError.{ReplayError}
use Rattle.cj_replay.specs.declared.reenabling.ReplayError.TheVariants as errors

-- since history F, backend b was enabled behind n entries, all that the log had then
pub record EnabledBehind (F G : List Event) (b n : ℕ) : Type 0 where
  pub m : List Event
  pub longer : IsPrefix F m
  pub disabled : is_enabled m b ≡ true → ⊥
  pub number : n ≡ length (log m)
  pub seen : IsPrefix (m ++ Enabled b ∷ []) G

-- why backend b did not come back; d is the dump that was given, if one was
abbrev pub RefusesReenabling : Layout → ℕ → Option Dump → SeatView → SeatView → ReplayError → Type 0
RefusesReenabling l b d old new errors.AlreadyEnabled = WasEnabled old.front new.front b true
RefusesReenabling l b d old new (errors.NeedsDump seen) = seen.b ≡ b
RefusesReenabling l b d old new (errors.Failed k) = (k ≡ b) × NotesFault b old new
RefusesReenabling l b d old new errors.Starved = Unit {0}
RefusesReenabling l b d old new (errors.DumpLacks table) = (x : Dump) × (d ≡ Some x) × (lacks x l b ≡ Some table)
RefusesReenabling l b d old new (errors.DumpAhead n) = (x : Dump) × (d ≡ Some x) × (n ≡ x.position) × (m : List Event) × IsPrefix old.front m × (length (log m) < n)
RefusesReenabling l b d old new (errors.HistoryFull n) = (n ≡ length new.front) × (events_left new.front < 1)
RefusesReenabling l b d old new errors.NoMemory = Unit {0}

-- backend b came back, or why it did not
abbrev pub Reenables : Layout → ℕ → Option Dump → SeatView → SeatView → Result ℕ ReplayError → Type 0
Reenables l b d old new (Ok n) = EnabledBehind old.front new.front b n
Reenables l b d old new (Err error) = RefusesReenabling l b d old new error

-- ---- why a call at the cluster refuses

-- none of the calls made here is refused for another reason
abbrev pub MayRefuseReenabling : RestoreError → Type 0
MayRefuseReenabling refused.NotEnabled = ⊥
MayRefuseReenabling refused.AlreadyEnabled = Unit {0}
MayRefuseReenabling refused.NameTaken = ⊥
MayRefuseReenabling (refused.LastHost table) = ⊥
MayRefuseReenabling (refused.HistoryFull n) = Unit {0}
MayRefuseReenabling refused.LogFault = ⊥
MayRefuseReenabling (refused.Fault k) = Unit {0}
MayRefuseReenabling refused.Starved = Unit {0}
MayRefuseReenabling (refused.Out seen) = Unit {0}
MayRefuseReenabling refused.NotOut = ⊥
MayRefuseReenabling (refused.DumpLacks table) = Unit {0}
MayRefuseReenabling (refused.DumpAhead n) = Unit {0}
MayRefuseReenabling refused.NoMemory = Unit {0}

-- what the caller reads then
abbrev pub IsReplayErrorOf : RestoreError → ReplayError → Type 0
IsReplayErrorOf refused.NotEnabled error = ⊥
IsReplayErrorOf refused.AlreadyEnabled error = error ≡ errors.AlreadyEnabled
IsReplayErrorOf refused.NameTaken error = ⊥
IsReplayErrorOf (refused.LastHost table) error = ⊥
IsReplayErrorOf (refused.HistoryFull n) error = error ≡ errors.HistoryFull n
IsReplayErrorOf refused.LogFault error = ⊥
IsReplayErrorOf (refused.Fault k) error = error ≡ errors.Failed k
IsReplayErrorOf refused.Starved error = error ≡ errors.Starved
IsReplayErrorOf (refused.Out seen) error = error ≡ errors.NeedsDump seen
IsReplayErrorOf refused.NotOut error = ⊥
IsReplayErrorOf (refused.DumpLacks table) error = error ≡ errors.DumpLacks table
IsReplayErrorOf (refused.DumpAhead n) error = error ≡ errors.DumpAhead n
IsReplayErrorOf refused.NoMemory error = error ≡ errors.NoMemory
