-- The faults that backends have counted.
use Rattle.std.specs.Prelude.{ℕ, Bool, true, false, List, map, slice_index_or, slice_set}
use Rattle.std.specs.declared.option.Option.{Option}
use Rattle.std.specs.declared.option.Option.TheVariants.{None, Some}
use Rattle.cj_outside.specs.Causes.{next}
use Rattle.cj_cluster.specs.declared.moves.Did.{Did}
use Rattle.cj_cluster.specs.declared.moves.Did.TheVariants as did
use Rattle.cj_replica.specs.Cells.{CellState}

-- how many faults each backend has counted
abbrev pub faults_of : List CellState → List ℕ
faults_of cells = map (λ (x : CellState). x.faults) cells

-- how many faults each backend has counted, with one more for the backend given, if any
abbrev pub faults_after : List ℕ → Option ℕ → List ℕ
faults_after faults None = faults
faults_after faults (Some b) = slice_set faults b (next (slice_index_or faults b 0))

-- the backend failed in the entry
abbrev pub did_fail : Did → Bool
did_fail (did.Done o) = false
did_fail did.Skipped = false
did_fail did.Failed = true
did_fail did.Starved = false
