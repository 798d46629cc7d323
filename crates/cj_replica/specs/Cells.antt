-- What contracts see of a replica, and what its calls give and leave.
use Rattle.std.specs.Prelude.{◌≡◌, ◌⊎◌, ◌↔◌, ℕ, ◌+◌, ◌<◌, ◌≤◌, ltb, Bool, true, false, not, if◌then◌else◌, List, [], IfOk, IfSome, OnErr, IsErrOf}
use Rattle.std.specs.declared.option.Option.{Option}
use Rattle.std.specs.declared.option.Option.TheVariants.{None, Some}
use Rattle.std.specs.Option.{option_map}
use Rattle.std.specs.declared.result.Result.{Result}
use Rattle.std.specs.declared.result.Result.TheVariants.{Ok, Err}
use Rattle.cj_outside.specs.Causes.{CountsFault, next}
use Rattle.cj_model.specs.declared.database.Slot.{Slot}
use Rattle.cj_model.specs.declared.request.Entry.{Entry}
use Rattle.cj_model.specs.declared.select.Select.{Select}
use Rattle.cj_model.specs.declared.answer.Asked.{Asked}
use Rattle.cj_model.specs.Database.Steps.{step}
use Rattle.cj_model.specs.Database.Queries.{ask}
use Rattle.cj_model.specs.Database.Outcomes.{IsAsked, IsOutcome}
use Rattle.cj_model.specs.Database.Storable.{IsStorable, writers}
use Rattle.cj_model.specs.Cluster.Placements.{Placement}
use Rattle.cj_cluster.specs.History.Transactions.{takes_part, begun_after}
use Rattle.cj_backend.specs.declared.backend.BackendError.{BackendError}
use Rattle.cj_backend.specs.declared.backend.BackendError.TheVariants as backend_errors
use Rattle.cj_backend.specs.Backends.{Arming, asks_after, spent}
use Rattle.cj_replica.specs.declared.replica.Caught.{Caught}
use Rattle.cj_replica.specs.declared.replica.Caught.TheVariants.{Skipped, Did}
use Rattle.cj_replica.specs.declared.replica.CellError.{CellError}
use Rattle.cj_replica.specs.declared.replica.CellError.TheVariants as errors
use Rattle.cj_replica.specs.declared.replica.CellReadError.{CellReadError}
use Rattle.cj_replica.specs.declared.replica.CellReadError.TheVariants as read_errors

-- what contracts see of the replica of backend b of a placement
pub record CellState : Type 0 where
  pub b : ℕ
  pub placement : Placement
  -- how many entries of the log it has taken, or none where it is out
  pub position : Option ℕ
  -- the transactions that it has begun and not ended; none where it is out
  pub begun : List ℕ
  -- the login of its backend's last call
  pub login : Option (List ℕ)
  -- what its backend holds, where that is told
  pub told : Option (List Slot)
  -- how many faults its backend has counted
  pub faults : ℕ
  -- how many queries its backend has answered
  pub asks : ℕ
  -- whether its backend is armed, and how often it was
  pub arming : Arming

-- ---- taking an entry

-- entry n is the first one after this position; there is none where the cell is out
abbrev pub IsEntryAfter : Option ℕ → ℕ → Type 0
IsEntryAfter None n = ⊥
IsEntryAfter (Some p) n = n ≡ p + 1

-- whether the backend takes part in an entry
abbrev pub takes_part_in_entry : CellState → Entry → Bool
takes_part_in_entry s e = takes_part s.placement s.b s.begun e.tx e.act

-- the transactions that a cell has begun after an entry; none after an error, since the cell is out then
abbrev pub begun_after_entry : List ℕ → Entry → Result Caught CellError → List ℕ
begun_after_entry begun e (Ok Skipped) = begun
begun_after_entry begun e (Ok (Did o)) = begun_after begun e.tx e.act
begun_after_entry begun e (Err d) = []

-- the last login after an entry: the one given if it was carried out, the one before if it was skipped, one of both
-- after an error
abbrev pub LogsInForEntry : Option (List ℕ) → List ℕ → Result Caught CellError → Option (List ℕ) → Type 0
LogsInForEntry before given (Ok Skipped) now = now ≡ before
LogsInForEntry before given (Ok (Did o)) now = now ≡ Some given
LogsInForEntry before given (Err d) now = (now ≡ Some given) ⊎ (now ≡ before)

-- the entry was skipped
abbrev pub is_skipped : Result Caught CellError → Bool
is_skipped (Ok Skipped) = true
is_skipped (Ok (Did o)) = false
is_skipped (Err d) = false

-- the position after a call: n if it succeeded, none after an error, since the cell is out then
abbrev pub position_after : {T : Type 0} → ℕ → Result T CellError → Option ℕ
position_after n (Ok caught) = Some n
position_after n (Err e) = None

-- the outcome is that of the entry on the visible contents
abbrev pub SaysEntryOutcome : Option (List Slot) → Entry → Result Caught CellError → Type 0
SaysEntryOutcome told e (Ok Skipped) = Unit {0}
SaysEntryOutcome told e (Ok (Did o)) = IfSome told (λ db. o ≡ (step db e).outcome)
SaysEntryOutcome told e (Err d) = Unit {0}

-- the contents visible after an entry: those that it makes of the ones before; a skipped entry leaves them; none
-- after a fault, and none or those before if memory ran out
abbrev pub TellsAfterEntry : Option (List Slot) → Entry → Result Caught CellError → Option (List Slot) → Type 0
TellsAfterEntry before e (Ok Skipped) now = now ≡ before
TellsAfterEntry before e (Ok (Did o)) now = now ≡ option_map (λ db. (step db e).db) before
TellsAfterEntry before e (Err errors.Failed) now = now ≡ None
TellsAfterEntry before e (Err errors.Starved) now = (now ≡ None) ⊎ (now ≡ before)

-- what a cell may answer to an entry
abbrev pub IsCaught : Caught → Type 0
IsCaught Skipped = Unit {0}
IsCaught (Did o) = IsOutcome o

-- a fault is counted exactly where the cell answers that its backend failed
abbrev pub HasCellCause : {T : Type 0} → ℕ → ℕ → Result T CellError → Type 0
HasCellCause before now result = CountsFault (IsErrOf result errors.Failed) before now

-- a backend that was asked fails if it was armed, and is no longer armed; one that was not asked stays as it was
pub record SpendsArmingIf (asked : Bool) (failed : Type 0) (before now : Arming) : Type 0 where
  pub fails : asked ≡ true → before.armed ≡ true → failed
  pub after : now ≡ (if asked then spent before else before)

-- the error of a cell for an error of its backend
abbrev pub error_of : BackendError → CellError
error_of backend_errors.Failed = errors.Failed
error_of backend_errors.NoMemory = errors.Starved

-- a cell keeps the transactions that its backend has begun; one that is out keeps none
abbrev pub KeepsBegun : Option ℕ → List ℕ → List ℕ → Type 0
KeepsBegun None kept begun = kept ≡ []
KeepsBegun (Some p) kept begun = begun ≡ kept

-- a replica carries out entry n under the login given, or skips it
pub record CatchesUp (before : CellState) (n : ℕ) (e : Entry) (given : List ℕ) (result : Result Caught CellError) (after : CellState) : Type 0 where
  pub part : takes_part_in_entry before e ≡ not (is_skipped result)
  pub outcome : SaysEntryOutcome before.told e result
  pub possible : IfOk result IsCaught
  pub cause : HasCellCause before.faults after.faults result
  pub asks : after.asks ≡ before.asks
  pub arming : SpendsArmingIf (not (is_skipped result)) (result ≡ Err errors.Failed) before.arming after.arming
  pub login : LogsInForEntry before.login given result after.login
  pub begun : after.begun ≡ begun_after_entry before.begun e result
  pub told : TellsAfterEntry before.told e result after.told
  pub position : after.position ≡ position_after n result
  pub b : after.b ≡ before.b
  pub placement : after.placement ≡ before.placement

-- ---- contents

-- a cell gives all that its backend holds, drafts included
pub record GivesContents (before : CellState) (result : Result (List Slot) CellError) (after : CellState) : Type 0 where
  pub contents : IfOk result (λ db. IfSome before.told (λ held. db ≡ held))
  pub storable : IfOk result IsStorable
  pub cause : HasCellCause before.faults after.faults result
  pub arming : SpendsArmingIf true (result ≡ Err errors.Failed) before.arming after.arming
  pub same : after ≡ record before { faults = after.faults; arming = after.arming }

-- ---- loading

-- the transactions that a cell has begun after a load: those with a draft in the loaded database; none after an error
abbrev pub begun_loaded : {T : Type 0} → List Slot → Result T CellError → List ℕ
begun_loaded db (Ok x) = writers db
begun_loaded db (Err e) = []

-- the contents visible after a load: the loaded database if the backend tells; none after a fault, and none or those
-- before if memory ran out
abbrev pub TellsLoaded : {T : Type 0} → Bool → List Slot → Result T CellError → Option (List Slot) → Option (List Slot) → Type 0
TellsLoaded tells db (Ok x) before now = now ≡ (if tells then Some db else None)
TellsLoaded tells db (Err errors.Failed) before now = now ≡ None
TellsLoaded tells db (Err errors.Starved) before now = (now ≡ None) ⊎ (now ≡ before)

-- an armed backend fails a load and is no longer armed; if memory ran out before the backend was asked, it stays as
-- it was
abbrev pub SpendsArmingAtLoad : {T : Type 0} → Arming → Arming → Result T CellError → Type 0
SpendsArmingAtLoad before now (Ok x) = (before.armed ≡ false) × (now ≡ spent before)
SpendsArmingAtLoad before now (Err errors.Failed) = now ≡ spent before
SpendsArmingAtLoad before now (Err errors.Starved) = (now ≡ before) ⊎ ((before.armed ≡ false) × (now ≡ spent before))

-- a cell loads a database and is then at a position of the log
pub record LoadsDatabase (tells : Bool) (before : CellState) (db : List Slot) (position : ℕ) (result : Result Unit CellError) (after : CellState) : Type 0 where
  pub place : after.position ≡ position_after position result
  pub begun : after.begun ≡ begun_loaded db result
  pub refused : OnErr result (after.begun ≡ before.begun)
  pub told : TellsLoaded tells db result before.told after.told
  pub cause : HasCellCause before.faults after.faults result
  pub arming : SpendsArmingAtLoad before.arming after.arming result
  pub asks : after.asks ≡ before.asks
  pub login : after.login ≡ before.login
  pub b : after.b ≡ before.b
  pub placement : after.placement ≡ before.placement

-- ---- reading

-- the answer is that of the query on the visible contents
abbrev pub SaysReadAnswer : Option (List Slot) → ℕ → Select → Asked → Type 0
SaysReadAnswer told tx select answer = IfSome told (λ db. answer ≡ ask db tx select)

-- a fault is counted exactly where the cell answers that its backend failed
abbrev pub HasReadCause : {A : Type 0} → ℕ → ℕ → Result A CellReadError → Type 0
HasReadCause before now result = CountsFault (IsErrOf result read_errors.Failed) before now

-- the backend was asked
abbrev pub was_asked : {A : Type 0} → Result A CellReadError → Bool
was_asked (Ok answer) = true
was_asked (Err read_errors.Out) = false
was_asked (Err (read_errors.Behind p)) = false
was_asked (Err read_errors.Failed) = true
was_asked (Err read_errors.NoMemory) = true

-- the position at which a cell answers whoever must see so many entries; none where it is out or below that
abbrev pub position_for : Option ℕ → ℕ → Result ℕ CellReadError
position_for None least = Err read_errors.Out
position_for (Some p) least = if ltb p least then Err (read_errors.Behind p) else Ok p

-- the last login after a query: the one given if the backend answered, the one given or the one before if it failed,
-- else the one before
abbrev pub LogsInForAnswer : {A : Type 0} → Option (List ℕ) → List ℕ → Result A CellReadError → Option (List ℕ) → Type 0
LogsInForAnswer before given (Ok answer) now = now ≡ Some given
LogsInForAnswer before given (Err read_errors.Out) now = now ≡ before
LogsInForAnswer before given (Err (read_errors.Behind p)) now = now ≡ before
LogsInForAnswer before given (Err read_errors.Failed) now = (now ≡ Some given) ⊎ (now ≡ before)
LogsInForAnswer before given (Err read_errors.NoMemory) now = now ≡ before

-- the error of a cell in a query for an error of its backend
abbrev pub read_error_of : BackendError → CellReadError
read_error_of backend_errors.Failed = read_errors.Failed
read_error_of backend_errors.NoMemory = read_errors.NoMemory

-- A cell answers from its backend's contents, at a position not below the least, under the login given. The
-- parameters say what an answer is on visible contents, which answers are possible, how they are counted, and which
-- login is the last one then.
pub record AnswersAt {A : Type 0} (SaysOf : Option (List Slot) → A → Type 0) (IsPossible : A → Type 0) (counted : ℕ → Result (A × ℕ) CellReadError → ℕ)
    (LogsInBy : Option (List ℕ) → List ℕ → Result (A × ℕ) CellReadError → Option (List ℕ) → Type 0)
    (before : CellState) (given : List ℕ) (least : ℕ) (result : Result (A × ℕ) CellReadError) (after : CellState) : Type 0 where
  pub out : (result ≡ Err read_errors.Out) ↔ (before.position ≡ None)
  pub behind : (p : ℕ) → (result ≡ Err (read_errors.Behind p)) ↔ ((before.position ≡ Some p) × (p < least))
  pub answer : IfOk result (λ x. SaysOf before.told x.0)
  pub possible : IfOk result (λ x. IsPossible x.0)
  pub at : IfOk result (λ x. before.position ≡ Some x.1)
  pub owed : IfOk result (λ x. least ≤ x.1)
  pub cause : HasReadCause before.faults after.faults result
  pub asks : after.asks ≡ counted before.asks result
  pub arming : SpendsArmingIf (was_asked result) (result ≡ Err read_errors.Failed) before.arming after.arming
  pub login : LogsInBy before.login given result after.login
  pub same : after ≡ record before { login = after.login; faults = after.faults; asks = after.asks; arming = after.arming }

-- a cell answers a query in a transaction, 0 for none
abbrev pub ReadsAnswer : CellState → List ℕ → ℕ → Select → ℕ → Result (Asked × ℕ) CellReadError → CellState → Type 0
ReadsAnswer before given tx select least result after = AnswersAt (λ told answer. SaysReadAnswer told tx select answer) IsAsked asks_after LogsInForAnswer before given least result after

-- a query counts a fault exactly where the cell answers that its backend failed
abbrev pub HasCellReadCause : ℕ → ℕ → Result (Asked × ℕ) CellReadError → Type 0
HasCellReadCause before now result = HasReadCause before now result

-- the backend was asked the query
abbrev pub is_asked : Result (Asked × ℕ) CellReadError → Bool
is_asked result = was_asked result

-- the last login after a query of rows
abbrev pub LogsInForRead : Option (List ℕ) → List ℕ → Result (Asked × ℕ) CellReadError → Option (List ℕ) → Type 0
LogsInForRead before given result now = LogsInForAnswer before given result now

-- ---- snapshots

-- the snapshot, where there is one, shows the visible contents
abbrev pub SaysSnapshot : {S : Type 0} → (S → Option (List Slot)) → Option (List Slot) → Option S → Type 0
SaysSnapshot shows told snap = IfSome snap (λ s. IfSome told (λ db. shows s ≡ Some db))

-- the count of answered queries after a call for a snapshot: one more where there is a snapshot
abbrev pub asks_after_snapshot : {S : Type 0} → ℕ → Result (Option S × ℕ) CellReadError → ℕ
asks_after_snapshot asks (Ok (Some snap, position)) = next asks
asks_after_snapshot asks (Ok (None, position)) = asks
asks_after_snapshot asks (Err e) = asks

-- the last login after a call for a snapshot is that after a query, but the one before where there is no snapshot
abbrev pub LogsInForSnapshot : {S : Type 0} → Option (List ℕ) → List ℕ → Result (Option S × ℕ) CellReadError → Option (List ℕ) → Type 0
LogsInForSnapshot before given (Ok (Some snap, position)) now = now ≡ Some given
LogsInForSnapshot before given (Ok (None, position)) now = now ≡ before
LogsInForSnapshot before given (Err read_errors.Out) now = now ≡ before
LogsInForSnapshot before given (Err (read_errors.Behind p)) now = now ≡ before
LogsInForSnapshot before given (Err read_errors.Failed) now = (now ≡ Some given) ⊎ (now ≡ before)
LogsInForSnapshot before given (Err read_errors.NoMemory) now = now ≡ before

-- a cell gives a snapshot of what its backend holds, or none where its backend gives none
abbrev pub TakesSnapshot : {S : Type 0} → (S → Option (List Slot)) → CellState → List ℕ → ℕ → Result (Option S × ℕ) CellReadError → CellState → Type 0
TakesSnapshot shows before given least result after = AnswersAt (SaysSnapshot shows) (λ snap. Unit {0}) asks_after_snapshot LogsInForSnapshot before given least result after
