-- How the book and the cells of a world are seated at its board, and what they learn of each other.
use Rattle.std.specs.Prelude.{◌≡◌, ℕ, ◌+◌, ◌<◌, ◌≤◌, ◌==◌, true, false, if◌then◌else◌, List, [], length, map, slice_get, slice_index_or, Contains}
use Rattle.std.specs.declared.option.Option.{Option}
use Rattle.std.specs.declared.option.Option.TheVariants.{None, Some}
use Rattle.atomic_table.specs.Seated.{TableId}
use Rattle.cj_board.specs.declared.view.SeatView.{SeatView}
use Rattle.cj_board.specs.Points.{fault_tokens_of}
use Rattle.cj_cluster.specs.declared.event.Event.{Event}
use Rattle.cj_cluster.specs.History.Histories.{notes_failure}
use Rattle.cj_model.specs.Cluster.Masks.{in_mask}
use Rattle.cj_book.specs.Seated.{SeatedBook}
use Rattle.cj_replica.specs.declared.replica.CellReadError.{CellReadError}
use Rattle.cj_replica.specs.declared.replica.CellReadError.TheVariants as read_errors
use Rattle.cj_replica.specs.Cells.{CellState}
use Rattle.cj_replica.specs.Seated.{SeatedCell}
use Rattle.cj_state.specs.Seats.{states_of, AreCellsAt}

-- the position of the cell of backend b
abbrev pub position_in : List CellState → ℕ → Option ℕ
position_in cells b = slice_index_or (map (λ (x : CellState). x.position) cells) b None

-- the pass, the book and the cells are at this board
pub record AreAt (id pass book : TableId) (cells : List SeatedCell) : Type 0 where
  pub of_pass : pass ≡ id
  pub of_book : book ≡ id
  pub of_cells : AreCellsAt id cells

-- no session was given an own pass, and the book has a fault token of each backend of the mask
pub record IsReady (book : SeatView) (failed : ℕ) : Type 0 where
  pub unowned : book.given ≡ []
  pub none_given : book.last_given ≡ 0
  pub tokens : (k : ℕ) → in_mask failed k ≡ true → 0 < fault_tokens_of k book.fault_tokens

-- the book has learned more, and nothing else of it has changed
pub record HasLearned (old new : SeatedBook) : Type 0 where
  pub state : new.state ≡ old.state
  pub pending : new.pending ≡ old.pending
  pub given : new.view.given ≡ old.view.given
  pub last_given : new.view.last_given ≡ old.view.last_given
  pub tokens : (k : ℕ) → fault_tokens_of k old.view.fault_tokens ≤ fault_tokens_of k new.view.fault_tokens
  pub notes : (x : ℕ × ℕ) → Contains old.view.position_notes x → Contains new.view.position_notes x

-- the book has learned the position of backend b's cell, and each fault that the cell has a token of
pub record HasLearnedOf (old : SeatedBook) (cells : List SeatedCell) (b : ℕ) (new : SeatedBook) : Type 0 where
  pub heard : HasLearned old new
  pub position : (p : ℕ) → position_in (states_of cells) b ≡ Some p → Contains new.view.position_notes (b, p)
  pub fault : (x : SeatedCell) (k : ℕ) → slice_get cells b ≡ Some x → fault_tokens_of k old.view.fault_tokens + fault_tokens_of k x.view.fault_tokens ≤ fault_tokens_of k new.view.fault_tokens

-- the book has learned the position of each of the first n cells
abbrev pub KnowsPositions : SeatedBook → List CellState → ℕ → Type 0
KnowsPositions book cells n = (b p : ℕ) → b < n → position_in cells b ≡ Some p → Contains book.view.position_notes (b, p)

-- each cell has the number of its place
abbrev pub AreNumbered : List CellState → Type 0
AreNumbered cells = (b : ℕ) (d : CellState) → b < length cells → (slice_index_or cells b d).b ≡ b

-- noting a failure of a backend spends at most one of its fault tokens, and nothing else spends any
abbrev pub SpendsAtMostOne : CellReadError → ℕ → List ℕ → List ℕ → Type 0
SpendsAtMostOne read_errors.Out b old new = new ≡ old
SpendsAtMostOne (read_errors.Behind p) b old new = new ≡ old
SpendsAtMostOne read_errors.Failed b old new = (k : ℕ) → fault_tokens_of k old ≤ fault_tokens_of k new + (if k == b then 1 else 0)
SpendsAtMostOne read_errors.NoMemory b old new = new ≡ old

-- the event, if there is one, tells of no failure of a backend
abbrev pub IsQuiet : Option Event → Type 0
IsQuiet None = Unit {0}
IsQuiet (Some e) = (b : ℕ) → notes_failure b e ≡ false
