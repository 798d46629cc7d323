-- What became of a load, and where a backend stands.
use Rattle.std.specs.Prelude.{◌≡◌, ◌≢◌, ℕ, ◌≤◌, Bool, true, false, List, length, Contains, None, Some, Result, Ok, Err}
use Rattle.cj_model.specs.declared.database.Slot.{Slot}
use Rattle.cj_cluster.specs.History.Histories.{log}
use Rattle.cj_board.specs.declared.view.SeatView.{SeatView}
use Rattle.cj_replica.specs.Cells.{CellState, LoadsDatabase}
use Rattle.cj_replica.specs.declared.replica.CellError.{CellError}
use Rattle.cj_replica.specs.declared.replica.CellError.TheVariants.{Failed, Starved}
use Rattle.cj_locked_cell.specs.declared.stand.Stand.{Stand}
use Rattle.cj_locked_cell.specs.declared.stand.Stand.TheVariants as stand
use Rattle.cj_locked_cell.specs.Asking.{NotesFault}

-- where the cell is, if backend b is its backend
abbrev pub IsStandOf : CellState → ℕ → Stand → Type 0
IsStandOf s b (stand.At n) = (s.b ≡ b) × (s.position ≡ Some n)
IsStandOf s b (stand.Out seen) = (s.b ≡ b) × (s.position ≡ None)
IsStandOf s b stand.Elsewhere = s.b ≢ b

-- backend b stands there, and the pass has noted it and has seen as many entries; or it is out
abbrev pub Stands : ℕ → SeatView → Stand → Type 0
Stands b v (stand.At n) = Contains v.position_notes (b, n) × (n ≤ length (log v.front))
Stands b v (stand.Out seen) = seen.b ≡ b
Stands b v stand.Elsewhere = Unit {0}

-- backend b was out and has loaded what it had at position n; or it was not out, and has a position of which the pass
-- has a note; or it failed, and the pass has noted a fault more
abbrev pub IsLoaded : ℕ → ℕ → SeatView → SeatView → Result Bool CellError → Type 0
IsLoaded b n old new (Ok true) = Contains new.position_notes (b, n)
IsLoaded b n old new (Ok false) = (k : ℕ) × Contains new.position_notes (b, k)
IsLoaded b n old new (Err Failed) = NotesFault b old new
IsLoaded b n old new (Err Starved) = Unit {0}

-- a cell that was out has loaded the database, or is still out
abbrev pub LoadsOut : Bool → CellState → List Slot → ℕ → Result Bool CellError → CellState → Type 0
LoadsOut tells before db n (Ok true) after = LoadsDatabase tells before db n (Ok tt) after
LoadsOut tells before db n (Ok false) after = ⊥
LoadsOut tells before db n (Err error) after = LoadsDatabase tells before db n (Err error) after
