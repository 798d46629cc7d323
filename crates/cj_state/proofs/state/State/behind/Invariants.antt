use Rattle.std.proofs.Common.{◌≡◌, map, drop}
use Rattle.cj_state.proofs.Common.{CellState, first_lagging, states_of}
use Rattle.cj_state.proofs.state.State.behind.Given as goal

abbrev pub invariant-loop-b : goal.invariant-loop-b
invariant-loop-b g l =
    first_lagging l.self-inside.book.state.history l.b (map (λ (x : CellState). x.position) (states_of (drop l.b l.cell-items)))
    ≡ first_lagging l.self-inside.book.state.history 0 (map (λ (x : CellState). x.position) (states_of l.self-inside.cells.items))
