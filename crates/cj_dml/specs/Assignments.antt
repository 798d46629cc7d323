-- Assignments of UPDATE.
use Rattle.std.specs.Prelude.{◌≡◌, ℕ, List, map, if◌then◌else◌}
use Rattle.std.specs.List.{list_any}
use Rattle.std.specs.declared.option.Option.{Option}
use Rattle.std.specs.declared.option.Option.TheVariants.{None, Some}
use Rattle.cj_model.specs.declared.value.Value.{Value}
use Rattle.cj_model.specs.Database.Tables.{cell}
use Rattle.cj_model.specs.Database.Updates as updates
use Rattle.cj_expr.specs.Shapes.{formula}
use Rattle.cj_dml.specs.declared.update.Assignment.{Assignment}
use Rattle.cj_rowstore.specs.RowEntries.{RowEntries, puts}

-- an assignment of the code as the vocabulary has it
abbrev pub assignment_by_place : Assignment → updates.Assignment
assignment_by_place a = record { place = a.place; value = formula a.value }

-- the assignments of the code as the vocabulary has them
abbrev pub assignments : List Assignment → List updates.Assignment
assignments assigns = map assignment_by_place assigns

-- the assignments leave the key of each row as it is
pub record KeepsKey (k : ℕ) (assigns : List updates.Assignment) : Type 0 where
  pub same : (row : List Value) → cell (updates.assigned assigns row) k ≡ cell row k

-- the changes that give the rows their new values; none where a value does not fit 64 bits
abbrev pub values_or_none : ℕ → List updates.Assignment → List (List Value) → Option RowEntries
values_or_none k assigns rows = if list_any (updates.overflows assigns) rows then None else Some (puts k (map (updates.assigned assigns) rows))
