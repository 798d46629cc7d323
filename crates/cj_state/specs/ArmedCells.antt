-- How often backends were armed, and what arming one makes of the cells.
use Rattle.std.specs.Prelude.{ℕ, Bool, List, map, slice_index_or, slice_set}
use Rattle.std.specs.declared.option.Option.{Option}
use Rattle.std.specs.declared.option.Option.TheVariants.{None, Some}
use Rattle.cj_outside.specs.Causes.{next}
use Rattle.cj_backend.specs.Backends.{arming_after}
use Rattle.cj_replica.specs.Cells.{CellState}

-- the cells, of which cell b has its backend armed once more, if it can be
abbrev pub armed_at : Bool → List CellState → ℕ → CellState → List CellState
armed_at can cells b d = slice_set cells b (record (slice_index_or cells b d) { arming = arming_after can (slice_index_or cells b d).arming })

-- how often each backend was armed
abbrev pub armings_of : List CellState → List ℕ
armings_of cells = map (λ (x : CellState). x.arming.times) cells

-- how often each backend was armed, with one time more for the backend given, if any
abbrev pub armings_after : List ℕ → Option ℕ → List ℕ
armings_after armings None = armings
armings_after armings (Some b) = slice_set armings b (next (slice_index_or armings b 0))
