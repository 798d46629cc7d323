-- Which backend a query is asked of, and how many queries each has answered.
use Rattle.std.specs.Prelude.{ℕ, List, map, slice_index_or, slice_set, Result, Ok, Err}
use Rattle.std.specs.declared.option.Option.{Option}
use Rattle.std.specs.declared.option.Option.TheVariants.{None, Some}
use Rattle.cj_outside.specs.Causes.{next}
use Rattle.cj_model.specs.Cluster.Balancing.{Balance, IsFirst, is_ahead, one_less}
use Rattle.cj_book.specs.Books.{read_at}
use Rattle.cj_replica.specs.Cells.{CellState}

-- how many queries each backend has answered
abbrev pub asks_of : List CellState → List ℕ
asks_of cells = map (λ (x : CellState). x.asks) cells

-- how many queries each backend has answered, with one more for the backend given, if any
abbrev pub asks_with : List ℕ → Option ℕ → List ℕ
asks_with asks None = asks
asks_with asks (Some b) = slice_set asks b (next (slice_index_or asks b 0))

-- backend b, if it answered
abbrev pub answered_by : {T E : Type 0} → ℕ → Result T E → Option ℕ
answered_by b (Ok answered) = Some b
answered_by b (Err error) = None

-- the policy picks backend b of the candidates
abbrev pub PicksFirst : Balance → ℕ → ℕ → Type 0
PicksFirst balance candidates b = IsFirst (is_ahead balance.policy balance.weights balance.standing) candidates b

-- the balance after a pick of backend b whose read began and is over
abbrev pub read_over : Balance → ℕ → Balance
read_over balance b = record balance { standing = record (read_at balance b).standing { pending = one_less (read_at balance b).standing.pending b } }
