-- Groups of rows that the code holds by reference.
use Rattle.std.specs.Prelude.{List, map}
use Rattle.std.specs.Borrow.{Bor}
use Rattle.std.specs.Map.Iter.{deref}
use Rattle.cj_model.specs.declared.value.Value.{Value}

-- the rows of a group
abbrev pub rows_of : Bor (List (Bor (List Value))) → List (List Value)
rows_of group = map deref (deref group)

-- the rows of each group
abbrev pub rows_in : List (Bor (List (Bor (List Value)))) → List (List (List Value))
rows_in groups = map rows_of groups
