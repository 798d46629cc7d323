-- What contracts see of a cell: a replica at its seat at a board.
use Rattle.std.specs.Prelude.{◌≡◌, ◌⊎◌, ℕ, ◌+◌, ◌*◌, ◌<◌, ◌≤◌, min, Bool, true, List, length, IfSome}
use mathlib.Core.List.{IsPrefix}
use Rattle.std.specs.declared.option.Option.TheVariants.{Some}
use Rattle.std.specs.declared.result.Result.{Result}
use Rattle.std.specs.declared.result.Result.TheVariants.{Ok, Err}
use Rattle.atomic_table.specs.Seated.{TableId}
use Rattle.cj_cluster.specs.declared.event.Event.{Event}
use Rattle.cj_cluster.specs.History.Histories.{is_enabled, is_free, log}
use Rattle.cj_cluster.specs.History.Legality.{IsLegal}
use Rattle.cj_cluster.specs.Proving.Invariants.{HasBegunDrafts, HoldsPart}
use Rattle.cj_board.specs.declared.view.SeatView.{SeatView}
use Rattle.cj_board.specs.declared.view.Role.TheVariants.{Cell}
use Rattle.cj_board.specs.Points.{max_word}
use Rattle.cj_board.specs.Steps.{at_position, after_fault, word_of_position}
use Rattle.cj_replica.specs.declared.replica.CellError.{CellError}
use Rattle.cj_replica.specs.declared.replica.CellError.TheVariants.{Failed, Starved}
use Rattle.cj_replica.specs.declared.replica.CellReadError.{CellReadError}
use Rattle.cj_replica.specs.declared.replica.CellReadError.TheVariants as read_errors
use Rattle.cj_replica.specs.Cells.{CellState}

-- a replica at its seat at a board
pub record SeatedCell : Type 0 where
  -- the replica
  pub state : CellState
  -- of which board its seat is
  pub board : TableId
  -- what the seat knows
  pub view : SeatView
  -- how many faults the backend had counted when it took the seat
  pub faults_before : ℕ

-- the seat has the replica's position, and the replica holds its part of the log that the seat has seen
pub record IsSeated (tells : Bool) (c : SeatedCell) : Type 0 where
  pub role : c.view.role ≡ Cell c.state.b (word_of_position c.state.position)
  pub legal : IsLegal c.view.front
  pub within : IfSome c.state.position (λ p. p ≤ length (log c.view.front))
  pub holds : HoldsPart tells c.state.placement c.state.b (log c.view.front) c.state.told c.state.position
  pub drafts : HasBegunDrafts tells c.state.placement c.state.b (log c.view.front) c.state.begun c.state.position
  -- its backend's faults are those from before the seat and those that the seat knows of, up to the last value of a
  -- word
  pub counted : c.state.faults ≡ min (c.faults_before + c.view.faults) max_word

-- the board has a backend of this number: its first word is the history's length, and two more belong to each backend
abbrev pub HasBackend : TableId → ℕ → Type 0
HasBackend board b = 2 * b + 1 < board.words

-- if a history that the seat has seen was idle with the backend enabled, the replica is at the end of the log of that
-- moment, or the seat has seen a longer log
abbrev pub StandsWhereEnabled : SeatedCell → Type 0
StandsWhereEnabled c = (m : List Event) → IsPrefix m c.view.front → is_free m ≡ true → is_enabled m c.state.b ≡ true → (c.state.position ≡ Some (length (log m))) ⊎ (length (log m) < length (log c.view.front))

-- the cell has its seat at the board of before, and counts its backend's faults from the number of before
pub record IsSameSeat (before after : SeatedCell) : Type 0 where
  pub board : after.board ≡ before.board
  pub faults_before : after.faults_before ≡ before.faults_before

-- ---- the seat after a call

-- the seat after entry n: at that position, or out, with one fault more if the backend failed
abbrev pub view_after_entry : {T : Type 0} → ℕ → ℕ → SeatView → Result T CellError → SeatView
view_after_entry b n v (Ok x) = at_position n v
view_after_entry b n v (Err Starved) = at_position max_word v
view_after_entry b n v (Err Failed) = after_fault b (at_position max_word v)

-- the seat after a load: at the position loaded, or as before, with one fault more if the backend failed
abbrev pub view_after_load : {T : Type 0} → ℕ → ℕ → SeatView → Result T CellError → SeatView
view_after_load b n v (Ok x) = at_position n v
view_after_load b n v (Err Starved) = v
view_after_load b n v (Err Failed) = after_fault b v

-- the seat after a call that changes no position: one fault more if the backend failed
abbrev pub view_after_call : {T : Type 0} → ℕ → SeatView → Result T CellError → SeatView
view_after_call b v (Ok x) = v
view_after_call b v (Err Starved) = v
view_after_call b v (Err Failed) = after_fault b v

-- the seat after a query: one fault more if the backend failed
abbrev pub view_after_read : {T : Type 0} → ℕ → SeatView → Result T CellReadError → SeatView
view_after_read b v (Ok x) = v
view_after_read b v (Err read_errors.Out) = v
view_after_read b v (Err (read_errors.Behind p)) = v
view_after_read b v (Err read_errors.Failed) = after_fault b v
view_after_read b v (Err read_errors.NoMemory) = v
