-- The cells of a world at their board, and what calls change of one of them.
use Rattle.std.specs.Prelude.{◌≡◌, ℕ, List, All, map, slice_index_or, slice_set}
use Rattle.atomic_table.specs.Seated.{TableId}
use Rattle.cj_replica.specs.Cells.{CellState}
use Rattle.cj_replica.specs.Seated.{SeatedCell}

-- what the world sees of its cells
abbrev pub states_of : List SeatedCell → List CellState
states_of cells = map (λ (x : SeatedCell). x.state) cells

-- the cells have their seats at this board
abbrev pub AreCellsAt : TableId → List SeatedCell → Type 0
AreCellsAt id cells = All (λ (x : SeatedCell). x.board ≡ id) cells

-- the cell of backend b has changed in this way, and no other cell has changed
pub record ChangesCell (old : List CellState) (b : ℕ) (How : CellState → CellState → Type 0) (new : List CellState) : Type 0 where
  pub before : CellState
  pub after : CellState
  pub value : before ≡ slice_index_or old b before
  pub set : new ≡ slice_set old b after
  pub how : How before after
