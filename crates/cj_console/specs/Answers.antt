-- What each command is answered, from what the console's pass had seen, and the shelf, to what they are then.
use Rattle.std.specs.Prelude.{◌≡◌, ℕ, Bool, true, false, List, Contains, Result, Ok, Err}
use Rattle.std.specs.declared.option.Option.{Option}
use Rattle.std.specs.declared.option.Option.TheVariants.{None, Some}
use Rattle.cj_cluster.specs.declared.event.Event.{Event}
use Rattle.cj_cluster.specs.History.Histories.{is_free}
use Rattle.cj_outside.specs.Causes.{next}
use Rattle.cj_place.specs.Layouts.{Layout, placement_of}
use Rattle.cj_board.specs.declared.view.SeatView.{SeatView}
use Rattle.cj_dump.specs.declared.dump.Dump.{Dump}
use Rattle.cj_shelf.specs.Shelves.{GivesFirst, is_shelved, SameShelf, ShelfState}
use Rattle.cj_shelf.specs.declared.error.ShelfError.{ShelfError}
use Rattle.cj_listing.specs.Listing.{listing}
use Rattle.cj_locked.specs.Listing.{items_between}
use Rattle.cj_return_path.specs.Restoring.{IsRightDump}
use Rattle.cj_administration.specs.Administration.{ChecksSince, DisablesSince, EndsOrphanSince}
use Rattle.cj_administration.specs.Auditing.{audit_text_of, FailsAudit}
use Rattle.cj_administration.specs.Showing.{ShowsBackends}
use Rattle.cj_administration.specs.declared.administration.AdminError.{AdminError}
use Rattle.cj_replay.specs.Reenabling.{Reenables}
use Rattle.cj_replay.specs.declared.reenabling.ReplayError.{ReplayError}
use Rattle.cj_backup.specs.Backups.{BacksUp}
use Rattle.cj_commands.specs.Commands.{CommandLine, IsNoCommand, NamesNoBackend}
use Rattle.cj_commands.specs.declared.command.Command.{Command}
use Rattle.cj_commands.specs.declared.command.Command.TheVariants as commands
use Rattle.cj_console.specs.declared.answer.Answer.{Answer}
use Rattle.cj_console.specs.declared.answer.Answer.TheVariants.{Lines, Done, Number, CacheCounts, NoCommand, NoBackend, NoDump, StoreFault, BadRecord, NoMemory, Refused, NotReenabled, NotBackedUp}

-- what a console serves: whether its backends and the store of its dumps tell what they hold, the layout, and what the
-- store holds and has counted
pub record Served (D : Type 0) : Type 1 where
  pub tells : Bool
  pub kept : Bool
  pub layout : Layout
  pub held : D → List ℕ
  pub faults : D → ℕ

-- what a console goes on from: what its pass has seen, and its shelf
pub record Standing (D : Type 0) : Type 0 where
  pub view : SeatView
  pub shelf : ShelfState D

-- where backends tell what they hold, each dump of the shelf may be loaded at history F
abbrev pub AreRightDumps : Bool → List Event → List Dump → Type 0
AreRightDumps tells F dumps = tells ≡ true → (d : Dump) → Contains dumps d → IsRightDump tells F d

-- ---- what an answer says of a result

-- done, or why not
abbrev pub answer_of_done : Result Unit AdminError → Answer
answer_of_done (Ok u) = Done
answer_of_done (Err error) = Refused error

-- a number, or why there is none
abbrev pub answer_of_number : Result ℕ AdminError → Answer
answer_of_number (Ok n) = Number n
answer_of_number (Err error) = Refused error

-- the position at which the backend was enabled, or why it was not
abbrev pub answer_of_reenabling : Result ℕ ReplayError → Answer
answer_of_reenabling (Ok n) = Number n
answer_of_reenabling (Err error) = NotReenabled error

-- ---- what was shown

-- the text, or that memory ran out
abbrev pub ShowsText : (List ℕ → Type 0) → Answer → Type 0
ShowsText Is (Lines text) = Is text
ShowsText Is answer = answer ≡ NoMemory

-- the audit of the one database where no entry is open, or why there is none
abbrev pub ShowsAudit : Bool → Layout → SeatView → SeatView → Answer → Type 0
ShowsAudit tells l old new (Lines text) = (is_free new.front ≡ true) × (tells ≡ true → text ≡ audit_text_of l.names (placement_of l) new.front)
ShowsAudit tells l old new answer = (error : AdminError) × (answer ≡ Refused error) × FailsAudit new.front old new error

-- ---- a backend comes back

-- the shelf has the first dump of this name, and gives it or says why not; it stays as it was
record Finds {D : Type 0} (s : Served D) (name : List ℕ) (shelf now : ShelfState D) (found : Result (Option Dump) ShelfError) : Type 0 where
  pub first : s.kept ≡ true → GivesFirst name shelf.dumps found
  pub same : SameShelf s.kept s.held shelf now

-- the backend came back with the dump that the shelf has under this name, or without one; or why not
abbrev pub ReenablesFrom : {D : Type 0} → Served D → ℕ → List ℕ → SeatView → SeatView → ShelfState D → ShelfState D → Answer → Type 0
ReenablesFrom s b name old new shelf now NoDump = (is_shelved name shelf.names ≡ false) × (new ≡ old)
ReenablesFrom s b name old new shelf now StoreFault = (s.faults now.store ≡ next (s.faults shelf.store)) × (new ≡ old)
ReenablesFrom s b name old new shelf now (BadRecord offset) = (s.kept ≡ false) × (new ≡ old)
ReenablesFrom s b name old new shelf now NoMemory = new ≡ old
ReenablesFrom s b name old new shelf now answer = (d : Dump) × (d.name ≡ name) × (s.kept ≡ true → GivesFirst name shelf.dumps (Ok (Some d)))
    × (result : Result ℕ ReplayError) × Reenables s.layout b (Some d) old new result × (answer ≡ answer_of_reenabling result)

-- ---- a backup

-- The dump stands on the shelf and the backend is enabled again. Or the dump is there, and the backend was not enabled,
-- and why. Or there is no dump, and why.
abbrev pub BacksUpAndReenables : {D : Type 0} → Served D → ℕ → List ℕ → SeatView → SeatView → ShelfState D → ShelfState D → Answer → Type 0
BacksUpAndReenables s b name old new shelf now (NotBackedUp error) = BacksUp s.tells s.kept s.layout b name old new shelf now (Err error)
BacksUpAndReenables s b name old new shelf now (NotReenabled error) = (mid : SeatView) × (n : ℕ) × BacksUp s.tells s.kept s.layout b name old mid shelf now (Ok n) × Reenables s.layout b None mid new (Err error)
BacksUpAndReenables s b name old new shelf now (Number n) = (mid : SeatView) × (k : ℕ) × BacksUp s.tells s.kept s.layout b name old mid shelf now (Ok n) × Reenables s.layout b None mid new (Ok k)
BacksUpAndReenables s b name old new shelf now answer = ⊥

-- ---- a command

-- what a command is answered, but for what becomes of the shelf
abbrev pub AnswersAsked : {D : Type 0} → Served D → Command → SeatView → SeatView → ShelfState D → ShelfState D → Answer → Type 0
AnswersAsked s commands.ShowBackends old new shelf now answer = ShowsText (ShowsBackends s.layout.names old new) answer
AnswersAsked s (commands.ShowLog first last) old new shelf now answer = ShowsText (λ text. text ≡ listing s.layout.names (items_between first last new.front)) answer
AnswersAsked s commands.ShowCache old new shelf now answer = (hits : ℕ) × (misses : ℕ) × (answer ≡ CacheCounts hits misses)
AnswersAsked s commands.Audit old new shelf now answer = ShowsAudit s.tells s.layout old new answer
AnswersAsked s (commands.Checkpoint name) old new shelf now answer = (result : Result ℕ AdminError) × ChecksSince old.front new.front name result × (answer ≡ answer_of_number result)
AnswersAsked s (commands.Disable b) old new shelf now answer = (result : Result Unit AdminError) × DisablesSince old.front new.front b result × (answer ≡ answer_of_done result)
AnswersAsked s (commands.Enable b None) old new shelf now answer = (result : Result ℕ ReplayError) × Reenables s.layout b None old new result × (answer ≡ answer_of_reenabling result)
AnswersAsked s (commands.Enable b (Some name)) old new shelf now answer = ReenablesFrom s b name old new shelf now answer
AnswersAsked s (commands.Backup b name) old new shelf now answer = BacksUpAndReenables s b name old new shelf now answer
AnswersAsked s (commands.Abort tx) old new shelf now answer = (result : Result ℕ AdminError) × EndsOrphanSince s.tells (placement_of s.layout) old.front new.front tx result × (answer ≡ answer_of_number result)
AnswersAsked s commands.Quit old new shelf now answer = (answer ≡ Done) × (new ≡ old)

-- what becomes of the shelf: a backup adds to it, a look for a dump leaves its dumps, and nothing else touches it
abbrev pub LeavesShelf : {D : Type 0} → Served D → Command → ShelfState D → ShelfState D → Type 0
LeavesShelf s (commands.Backup b name) shelf now = Unit {0}
LeavesShelf s (commands.Enable b (Some name)) shelf now = SameShelf s.kept s.held shelf now
LeavesShelf s _ shelf now = now ≡ shelf

-- the command gets this answer
pub record AnswersCommand {D : Type 0} (s : Served D) (c : Command) (a z : Standing D) (answer : Answer) : Type 0 where
  pub answers : AnswersAsked s c a.view z.view a.shelf z.shelf answer
  pub shelf : LeavesShelf s c a.shelf z.shelf

-- ---- a line

-- the line is a command and gets its answer; or it is none, or names no backend, and says so
abbrev pub AnswersLine : {D : Type 0} → Served D → List ℕ → Standing D → Standing D → Answer → Type 0
AnswersLine s line a z NoCommand = (z ≡ a) × IsNoCommand s.layout.names line
AnswersLine s line a z NoBackend = (z ≡ a) × NamesNoBackend s.layout.names line
AnswersLine s line a z answer = (c : Command) × CommandLine s.layout.names line c × AnswersCommand s c a z answer
