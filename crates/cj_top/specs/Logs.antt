-- The log that a command opens, and how a command stops at it.
use Rattle.std.specs.Prelude.{◌≡◌, ◌⊎◌, ℕ, Bool, true, List, [], ◌∷◌, codes, Result, Err, IsErrOf}
use mathlib.Core.List.{IsPrefix}
use Rattle.std.specs.declared.option.Option.{Option}
use Rattle.std.specs.Fmt.{decimal}
use Rattle.cj_outside.specs.Causes.{CountsFault}
use Rattle.cj_outside.specs.Streams.{WritesAll}
use Rattle.cj_outside.specs.declared.sink.OutError.{OutError}
use Rattle.cj_outside.specs.declared.sink.OutError.TheVariants as out_errors
use Rattle.cj_records.specs.RecordFiles.{Finds}
use Rattle.cj_records.specs.Records.{WritesOnlyNew}
use Rattle.cj_log.specs.declared.item.LogItem.{LogItem}
use Rattle.cj_log.specs.Logs.{HasBadItem, KeepsItems, log_magic}
use Rattle.cj_recovery.specs.Openings.{items_of}
use Rattle.cj_book.specs.declared.error.StartError.{StartError}
use Rattle.cj_book.specs.declared.error.StartError.TheVariants as errors
use Rattle.cj_book.specs.Books.{IsKeptIn}
use Rattle.cj_core.specs.Starts.{CountsFaultOfStart, RefusesBytes}
use Rattle.cj_state.specs.Worlds.{WorldState}
use Rattle.cj_cluster.specs.Script.Lines.{with_line_feed, words}

-- the log's store keeps these items, where it tells its bytes
abbrev pub Found : Bool → List ℕ → List LogItem → Type 0
Found tells held items = tells ≡ true → KeepsItems held items

-- ---- the store that is given back

-- The store is that of this world's log: it has counted the faults and holds the bytes that the world sees. They keep
-- the world's history, and so does whatever a stop at this moment leaves of them.
pub record IsLogOf {S : Type 0} (faults : S → ℕ) (held : S → List ℕ) (may : S → List ℕ → Type 0) (tells : Bool) (w : WorldState) (after : S) : Type 0 where
  pub counts : faults after ≡ w.recovery_log.faults
  pub bytes : held after ≡ w.recovery_log.bytes
  pub kept : tells ≡ true → IsKeptIn (held after) w.core.history
  pub stop : tells ≡ true → (image : List ℕ) → may after image → IsKeptIn image w.core.history

-- A command went from a first world to a last one over the log's store. The first counted on from the store that was
-- handed in, and the store that is given back is that of the last: what was kept before stands before what the
-- command added.
pub record GoesOnIn {S : Type 0} (faults : S → ℕ) (held : S → List ℕ) (may : S → List ℕ → Type 0) (tells : Bool) (log after : S) (first last : WorldState) : Type 0 where
  pub begins : first.recovery_log.faults ≡ faults log
  pub longer : tells ≡ true → (items : List LogItem) → KeepsItems (held log) items → IsPrefix items (items_of last.core.history)
  pub leaves : IsLogOf faults held may tells last after

-- A command that only reads the log came to this status: of a new file the first bytes were written, and nothing else
-- was. A fault was counted exactly at status 7.
pub record ReadsLog {S : Type 0} (faults : S → ℕ) (held : S → List ℕ) (tells : Bool) (log after : S) (status : ℕ) : Type 0 where
  pub bytes : tells ≡ true → WritesOnlyNew (held log) (held after)
  pub cause : CountsFault (status ≡ 7) (faults log) (faults after)
  -- status 8 tells of bytes that keep no items
  pub bad : tells ≡ true → status ≡ 8 → (offset : ℕ) × (Finds log_magic (held log) (Err offset) ⊎ HasBadItem (held log) offset)

-- ---- refusals

-- the lines that tell why a log is refused
abbrev pub bad_record_line : ℕ → List ℕ
bad_record_line offset = with_line_feed (words (codes "bad" ∷ codes "record:" ∷ decimal offset ∷ []))

abbrev pub bad_entry_line : ℕ → List ℕ
bad_entry_line number = with_line_feed (words (codes "bad" ∷ codes "entry:" ∷ decimal number ∷ []))

-- A line was written to the errors, or they failed in it, which they counted, or memory was wanting for it. `before`
-- and `now` are the errors' counts of faults.
pub record TellsLine (errors errors' : Option (List ℕ)) (before now : ℕ) (line : List ℕ) : Type 0 where
  pub answer : Result (Unit {0}) OutError
  pub bytes : WritesAll errors errors' line answer
  pub cause : CountsFault (IsErrOf answer out_errors.Failed) before now

-- Why a log was not opened: its store failed, which it counted, or its bytes are no log's, where it tells them, or
-- memory was wanting. The store that is given back has lost nothing, and holds what it held where its bytes are no
-- log's.
pub record RefusesLog {S : Type 0} (faults : S → ℕ) (held : S → List ℕ) (tells : Bool) (log after : S) (error : StartError) : Type 0 where
  pub bytes : tells ≡ true → RefusesBytes {W = WorldState} held (held log) (Err (error, after))
  pub cause : CountsFaultOfStart faults (faults log) (Err (error, after))

-- what the errors are told of that
abbrev pub TellsRefusal : (errors errors' : Option (List ℕ)) → (before now : ℕ) → StartError → Type 0
TellsRefusal out out' before now errors.StoreFault = out' ≡ out
TellsRefusal out out' before now errors.NoMemory = out' ≡ out
TellsRefusal out out' before now (errors.BadRecord offset) = TellsLine out out' before now (bad_record_line offset)
TellsRefusal out out' before now (errors.BadEntry n) = TellsLine out out' before now (bad_entry_line n)

-- the status that a command comes to by it
abbrev pub status_of_start : StartError → ℕ
status_of_start errors.StoreFault = 7
status_of_start errors.NoMemory = 1
status_of_start (errors.BadRecord offset) = 8
status_of_start (errors.BadEntry n) = 8

-- A command came no further than its log: the input and the output were not touched (`Idle`).
pub record StopsAtLog (Refuses Tells : StartError → Type 0) (Idle : Type 0) (status : ℕ) : Type 0 where
  pub error : StartError
  pub refused : Refuses error
  pub told : Tells error
  pub idle : Idle
  pub status_is : status ≡ status_of_start error
