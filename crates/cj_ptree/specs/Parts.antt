-- Pairs in rising key, divided into parts. Each part has a bound: its keys are not below it, and the keys of all parts
-- before it are. The bound of the first part says nothing.
use Rattle.std.specs.Prelude.{◌≡◌, true, List, [], ◌∷◌, ⊤}
use Rattle.std.specs.List.{AllByRecursion, flat_map}
use Rattle.std.specs.declared.cmp.Ordering.{Ordering}
use Rattle.std.specs.declared.cmp.Ordering.TheVariants.{Less}
use Rattle.std.specs.Ordering.{is_le}
use Rattle.cj_ptree.specs.Pairs.{AreBelow, AreFrom, PairsRise, is_filled}

module _ {K V : Type 0} where
  -- the pairs of all parts
  abbrev pub all_pairs : List (K × List (K × V)) → List (K × V)
  all_pairs ps = flat_map (λ p. p.1) ps

module _ {K V : Type 0} (R : K → K → Ordering) where
  -- the part begins at its bound, and the pairs are below that
  abbrev pub IsAfter : List (K × V) → K × List (K × V) → Type 0
  IsAfter es q = AreBelow R q.0 es × AreFrom R q.0 q.1

  -- the keys rise, no part is empty, and the bounds divide the parts
  abbrev pub IsDivided : List (K × List (K × V)) → Type 0
  IsDivided [] = ⊤
  IsDivided (p ∷ ps) = PairsRise R p.1 × (is_filled p.1 ≡ true) × AllByRecursion (IsAfter p.1) ps × IsDivided ps

  -- the key is not below the bound of a part with others before it
  abbrev pub StartsAt : K → List (K × List (K × V)) → K → Type 0
  StartsAt k [] bound = ⊤
  StartsAt k (p ∷ ps) bound = is_le (R bound k) ≡ true

  -- the key is below the bound of the first part, if there is one
  abbrev pub EndsBelow : K → List (K × List (K × V)) → Type 0
  EndsBelow k [] = ⊤
  EndsBelow k (q ∷ qs) = R k q.0 ≡ Less
