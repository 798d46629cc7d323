-- What carrying out an entry changes of the cells.
use Rattle.std.specs.Prelude.{◌≡◌, ℕ, ◌<◌, ◌≤◌, Bool, List, if◌then◌else◌, length, slice_index_or, slice_set}
use Rattle.std.specs.declared.result.Result.{Result}
use Rattle.std.specs.declared.result.Result.TheVariants.{Ok, Err}
use Rattle.std.specs.declared.option.Option.TheVariants.{Some}
use Rattle.cj_outside.specs.Causes.{next}
use Rattle.cj_cluster.specs.declared.event.Event.{Event}
use Rattle.cj_cluster.specs.declared.moves.Did.{Did}
use Rattle.cj_cluster.specs.declared.moves.Did.TheVariants as did
use Rattle.cj_cluster.specs.declared.moves.OpenSession.{OpenSession}
use Rattle.cj_model.specs.declared.limits.TheConstants.{EVENT_LIMIT}
use Rattle.cj_cluster.specs.History.Histories.{log}
use Rattle.cj_cluster.specs.History.Transactions.{AreFit}
use Rattle.cj_cluster.specs.Moves.Moves.{TakesEntry}
use Rattle.cj_dump.specs.declared.dump.Dump.{Dump}
use Rattle.cj_place.specs.Layouts.{Layout, placement_of}
use Rattle.cj_replica.specs.declared.replica.Caught.{Caught}
use Rattle.cj_replica.specs.declared.replica.Caught.TheVariants as caught
use Rattle.cj_replica.specs.declared.replica.CellError.{CellError}
use Rattle.cj_replica.specs.declared.replica.CellError.TheVariants as errors
use Rattle.cj_replica.specs.Cells.{CellState}
use Rattle.cj_state.specs.Worlds.{core_of, IsCell}
use Rattle.cj_model.specs.declared.account.Account.{Account}
use Rattle.cj_model.specs.Cluster.Accounts.{login_of}
use Rattle.cj_state.specs.Faults.{did_fail}
use Rattle.cj_state.specs.CalledLogins.{logins_of, next_user, LogsInToTake}

-- backend b can carry out the entry after its position
pub record CanTake (tells : Bool) (l : Layout) (h : List Event) (cells : List CellState) (b : ℕ) : Type 0 where
  pub within : b < length cells
  pub is : (d : CellState) → IsCell tells (placement_of l) (log h) b (slice_index_or cells b d)
  pub p : ℕ
  pub stands : (d : CellState) → (slice_index_or cells b d).position ≡ Some p
  pub more : p < length (log h)
  pub short : length (log h) ≤ EVENT_LIMIT
  pub fits : AreFit (log h)

-- what a cell did with an entry, as moves report it
abbrev pub did_of : Result Caught CellError → Did
did_of (Ok caught.Skipped) = did.Skipped
did_of (Ok (caught.Did o)) = did.Done o
did_of (Err errors.Failed) = did.Failed
did_of (Err errors.Starved) = did.Starved

-- backend b carried out or skipped the entry after its position, and only its cell has changed
pub record TookEntry (tells : Bool) (accounts : List Account) (l : Layout) (h : List Event) (cells : List CellState) (b : ℕ) (d : Did) (now : List CellState) : Type 0 where
  pub cell : CellState
  pub set : now ≡ slice_set cells b cell
  pub is : IsCell tells (placement_of l) (log h) b cell
  -- whatever else the core is
  pub takes : (failed starved : ℕ) (sessions : List OpenSession) (greatest : ℕ) (dumps : List Dump) → TakesEntry tells (core_of l h cells failed starved sessions greatest dumps) b d (record { position = cell.position; begun = cell.begun })
  pub faults : cell.faults ≡ (if did_fail d then next (slice_index_or cells b cell).faults else (slice_index_or cells b cell).faults)
  pub armings : cell.arming.times ≡ (slice_index_or cells b cell).arming.times
  pub asks : cell.asks ≡ (slice_index_or cells b cell).asks
  pub logins : LogsInToTake b (login_of accounts (next_user (log h) (slice_index_or cells b cell).position) b) d (logins_of cells) (logins_of now)
