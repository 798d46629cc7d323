-- Where a start leads, and what the backends hold when a world is given up.
use Rattle.std.specs.Prelude.{◌≡◌, ◌⊎◌, ℕ, Bool, true, List, [], ◌∷◌, ◌++◌, All, map, slice_get, Result, Ok, Err}
use Rattle.std.specs.declared.option.Option.{Option}
use Rattle.std.specs.declared.option.Option.TheVariants.{Some}
use Rattle.cj_model.specs.declared.database.Slot.{Slot}
use Rattle.cj_outside.specs.Causes.{next}
use Rattle.cj_model.specs.Cluster.Placements.{Placement, part}
use Rattle.cj_cluster.specs.declared.event.Event.{Event}
use Rattle.cj_cluster.specs.History.Histories.{log, is_free, is_enabled, database_of, database_after}
use Rattle.cj_cluster.specs.Moves.Cores.{Core, position_at}
use Rattle.cj_backend.specs.Backends.{Arming}
use Rattle.cj_replica.specs.Cells.{CellState, KeepsBegun}
use Rattle.cj_records.specs.RecordFiles.{Finds}
use Rattle.cj_records.specs.Records.{WritesOnlyNew}
use Rattle.cj_log.specs.declared.item.LogItem.{LogItem}
use Rattle.cj_log.specs.Logs.{HasBadItem, KeepsItems, log_magic}
use Rattle.cj_recovery.specs.Openings.{OpensTo}
use Rattle.cj_book.specs.declared.error.StartError.{StartError}
use Rattle.cj_book.specs.declared.error.StartError.TheVariants as errors
use Rattle.cj_book.specs.Starts.{KeepsBadEntry}
use Rattle.cj_state.specs.Worlds.{WorldState}
use Rattle.cj_start.specs.Started.{HasStarted}

-- what contracts see of a backend, without the transactions that it has begun
pub record BackendState : Type 0 where
  pub told : Option (List Slot)
  pub faults : ℕ
  pub asks : ℕ
  pub login : Option (List ℕ)
  pub arming : Arming

-- what contracts see of a backend of some kind
abbrev pub state_by : {X : Type 0} → (X → Option (List Slot)) → (X → ℕ) → (X → ℕ) → (X → Option (List ℕ)) → (X → Arming) → X → BackendState
state_by told faults asks login arming x = record { told = told x; faults = faults x; asks = asks x; login = login x; arming = arming x }

-- what contracts see of the backend of a cell
abbrev pub started_backend : CellState → BackendState
started_backend x = record { told = x.told; faults = x.faults; asks = x.asks; login = x.login; arming = x.arming }

-- each backend that is not out has begun what its cell says
abbrev pub KeepEachBegun : List CellState → List (List ℕ) → Type 0
KeepEachBegun [] [] = Unit {0}
KeepEachBegun (x ∷ cells) (begun ∷ others) = KeepsBegun x.position x.begun begun × KeepEachBegun cells others
KeepEachBegun [] (begun ∷ others) = ⊥
KeepEachBegun (x ∷ cells) [] = ⊥

-- no backend has begun a transaction
abbrev pub HaveBegunNone : List (List ℕ) → Type 0
HaveBegunNone begun = All (λ (b : List ℕ). b ≡ []) begun

-- each backend that is not out holds its part of the database after the entries that it has taken
abbrev pub AreHolding : Bool → Core → List (Option (List Slot)) → Type 0
AreHolding tells c told = tells ≡ true → (b p : ℕ) → position_at c b ≡ Some p → slice_get told b ≡ Some (Some (part c.placement b (database_after (log c.history) p)))

-- if no entry is open, each enabled backend holds its part of the database after the whole log
abbrev pub AreCurrent : Bool → Core → List (Option (List Slot)) → Type 0
AreCurrent tells c told =
    tells ≡ true → is_free c.history ≡ true → (b : ℕ) → is_enabled c.history b ≡ true → slice_get told b ≡ Some (Some (part c.placement b (database_of (log c.history))))

-- ---- what a start leads to

-- The log's store had some items, and the start was one over the history that they open with. Over a log without
-- entries no backend was called.
pub record StartsFrom (found : List LogItem → Type 0) (p : Placement) (backends : List BackendState) (w : WorldState) : Type 0 where
  pub items : List LogItem
  pub found_in : found items
  pub opening : List Event
  pub opens : OpensTo items opening
  pub started : HasStarted p opening (map (λ (x : BackendState). x.faults) backends) w
  pub uncalled : log opening ≡ [] → map started_backend w.cells ≡ backends

-- The bytes keep the items that they kept, and maybe more after them; or only a new file was written.
abbrev pub LosesNothing : List ℕ → List ℕ → Type 0
LosesNothing old new = WritesOnlyNew old new ⊎ (items : List LogItem) × KeepsItems old items × (more : List LogItem) × KeepsItems new (items ++ more)

-- A start that is refused loses nothing. Bytes that are no history's are reported as such, and stay as they are.
abbrev pub RefusesBytes : {W S : Type 0} → (S → List ℕ) → List ℕ → Result W (StartError × S) → Type 0
RefusesBytes held old (Ok w) = Unit {0}
RefusesBytes held old (Err (errors.StoreFault, store)) = LosesNothing old (held store)
RefusesBytes held old (Err (errors.NoMemory, store)) = LosesNothing old (held store)
RefusesBytes held old (Err (errors.BadRecord offset, store)) = (Finds log_magic old (Err offset) ⊎ HasBadItem old offset) × (held store ≡ old)
RefusesBytes held old (Err (errors.BadEntry n, store)) = KeepsBadEntry old n × (held store ≡ old)

-- a start counts one fault of the log's store exactly if it answers that this failed
abbrev pub CountsFaultOfStart : {S : Type 0} → (S → ℕ) → ℕ → Result WorldState (StartError × S) → Type 0
CountsFaultOfStart faults before (Ok w) = w.recovery_log.faults ≡ before
CountsFaultOfStart faults before (Err (errors.StoreFault, store)) = faults store ≡ next before
CountsFaultOfStart faults before (Err (errors.NoMemory, store)) = faults store ≡ before
CountsFaultOfStart faults before (Err (errors.BadRecord offset, store)) = faults store ≡ before
CountsFaultOfStart faults before (Err (errors.BadEntry n, store)) = faults store ≡ before
