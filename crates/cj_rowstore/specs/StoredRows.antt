-- Rows as the tree keeps them.
use Rattle.std.specs.Prelude.{List}
use Rattle.cj_model.specs.declared.value.Value.{Value}
use Rattle.cj_rowstore.specs.declared.stored_row.Storage.{Storage}
use Rattle.cj_rowstore.specs.declared.stored_row.Storage.TheVariants.{Pair, Own}

-- the values of a row
abbrev pub RowValues : Type 0
RowValues = List Value

-- the row that the storage holds
abbrev pub row_held : Storage → RowValues
row_held (Pair values) = values
row_held (Own row) = row
