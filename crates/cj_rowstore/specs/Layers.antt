-- Entries with changes laid over them, both in rising key. A change is a new value, or none where the entry is
-- removed.
use Rattle.std.specs.Prelude.{List, [], ◌∷◌}
use Rattle.std.specs.Ordering.{match_ordering}
use Rattle.std.specs.declared.cmp.Ordering.{Ordering}
use Rattle.std.specs.declared.option.Option.{Option}
use Rattle.std.specs.declared.option.Option.TheVariants.{None, Some}

module _ {K X : Type 0} where
  -- the entries, preceded by one for `k` where there is a value
  abbrev pub given : K → Option X → List (K × X) → List (K × X)
  given k None es = es
  given k (Some v) es = (k, v) ∷ es

  -- the entries that have a value
  abbrev pub kept : List (K × Option X) → List (K × X)
  kept [] = []
  kept (c ∷ cs) = given c.0 c.1 (kept cs)

  module _ (R : K → K → Ordering) where
    -- the entries that are left of an entry and of those after it, under changes
    abbrev pub onto : (List (K × Option X) → List (K × X)) → K × X → List (K × Option X) → List (K × X)
    onto rest b [] = b ∷ rest []
    onto rest b (c ∷ cs) = match_ordering (R b.0 c.0) (b ∷ rest (c ∷ cs)) (given c.0 c.1 (rest cs)) (given c.0 c.1 (onto rest b cs))

    -- the entries with the changes made, in rising key
    abbrev pub merged : List (K × X) → List (K × Option X) → List (K × X)
    merged [] cs = kept cs
    merged (b ∷ bs) cs = onto (λ ds. merged bs ds) b cs
