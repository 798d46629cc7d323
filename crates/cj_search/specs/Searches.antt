-- Walks over the rows of a table that skip rows which can't meet the condition.
use Rattle.std.specs.Prelude.{◌≡◌, ◌≤◌, true, ⊤, List, [], ◌∷◌, ◌++◌, filter, length, option_copied, option_to_list}
use Rattle.std.specs.Ordering.{is_le}
use Rattle.std.specs.declared.option.Option.{Option}
use Rattle.cj_model.specs.declared.value.Value.{Value}
use Rattle.cj_model.specs.Database.Evaluation.{satisfies}
use Rattle.cj_model.specs.Database.Tables.{IsTable, cell}
use Rattle.cj_model.specs.Database.Values.{value_cmp}
use Rattle.cj_expr.specs.Reaches.{is_from}
use Rattle.cj_search.specs.declared.matching.Search.{Search}
use Rattle.cj_search.specs.declared.matching.Way.{Way}
use Rattle.cj_search.specs.declared.matching.Way.TheVariants.{Key, Walk}

-- the rows that the walk has not passed yet and that meet the condition
abbrev pub rows_found : Search → List (List Value)
rows_found s = filter (satisfies s.cond.now) s.scan

-- the rows that the walk has not passed yet are the last ones of the table
pub record IsSearch (s : Search) : Type 0 where
  pub table : IsTable s.view.now
  pub before : List (List Value)
  pub ends : s.view.now.rows ≡ before ++ s.scan

-- the walk has just taken this row, and the rows that it has not passed yet follow it to the end of the table
pub record IsAtRow (s : Search) (row : List Value) : Type 0 where
  pub table : IsTable s.view.now
  pub before : List (List Value)
  pub ends : s.view.now.rows ≡ before ++ row ∷ s.scan

-- no row from the key on that is below the start meets the condition
pub record NoneBetween (s : Search) (key : Value) (start : Option Value) : Type 0 where
  pub at : (row : List Value) → is_le (value_cmp key (cell row s.view.now.schema.key)) ≡ true → satisfies s.cond.now row ≡ true → is_from start (cell row s.view.now.schema.key) ≡ true

-- from the row on the walk finds what it would have found before, and has no more rows to pass
pub record GoesOn (old : Search) (row : List Value) (new : Search) : Type 0 where
  pub found : filter (satisfies new.cond.now) (row ∷ new.scan) ≡ filter (satisfies old.cond.now) (row ∷ old.scan)
  pub fewer : length new.scan ≤ length old.scan
  pub search : IsSearch new

-- no row from this one on meets the condition, and the walk finds nothing more
pub record IsOver (old : Search) (row : List Value) (new : Search) : Type 0 where
  pub none : filter (satisfies old.cond.now) (row ∷ old.scan) ≡ []
  pub found : rows_found new ≡ []
  pub search : IsSearch new

-- ---- both ways

-- the rows that either way is still to give
abbrev pub rows_left : Way → List (List Value)
rows_left (Key row) = option_to_list (option_copied row)
rows_left (Walk s) = rows_found s

-- the walk, if it is one, has the last rows of a table before it
abbrev pub IsWay : Way → Type 0
IsWay (Key row) = ⊤
IsWay (Walk s) = IsSearch s
