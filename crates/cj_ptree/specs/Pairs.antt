-- Pairs of a key and a value, in rising key.
use Rattle.std.specs.Prelude.{◌≡◌, ℕ, Bool, true, false, suc, List, [], ◌∷◌, ⊤, take, drop, map, filter, length, ◌<◌, ◌≤◌, slice_index_or}
use Rattle.std.specs.List.{AllByRecursion}
use Rattle.std.specs.declared.cmp.Ordering.{Ordering}
use Rattle.std.specs.declared.cmp.Ordering.TheVariants.{Less, Equal}
use Rattle.std.specs.declared.option.Option.{Option}
use Rattle.std.specs.declared.option.Option.TheVariants.{None, Some}
use Rattle.std.specs.Ordering.{is_le}
use Rattle.std.specs.BTreeMap.{insert_entry, is_at}
use Rattle.std.specs.Map.{remove_entry}

-- whether the list has an item
abbrev pub is_filled : {X : Type 0} → List X → Bool
is_filled [] = false
is_filled (x ∷ xs) = true

module _ {K V : Type 0} (R : K → K → Ordering) where
  -- each key is above k
  abbrev pub AreAbove : K → List (K × V) → Type 0
  AreAbove k es = AllByRecursion (λ e. R k e.0 ≡ Less) es

  -- each key is below k
  abbrev pub AreBelow : K → List (K × V) → Type 0
  AreBelow k es = AllByRecursion (λ e. R e.0 k ≡ Less) es

  -- no key is below k
  abbrev pub AreFrom : K → List (K × V) → Type 0
  AreFrom k es = AllByRecursion (λ e. is_le (R k e.0) ≡ true) es

  -- each key is below the keys after it
  abbrev pub PairsRise : List (K × V) → Type 0
  PairsRise [] = ⊤
  PairsRise (e ∷ es) = AreAbove e.0 es × PairsRise es

  -- the pair at the index has the key, between those below it and those above it
  pub record IsHit (k : K) (es : List (K × V)) (i : ℕ) : Type 0 where
    pub within : i < length es
    pub below : AreBelow k (take i es)
    pub same : (d : K × V) → R k (slice_index_or es i d).0 ≡ Equal
    pub above : AreAbove k (drop (suc i) es)

  -- the key, which no pair has, belongs before the index
  pub record IsMissing (k : K) (es : List (K × V)) (i : ℕ) : Type 0 where
    pub within : i ≤ length es
    pub below : AreBelow k (take i es)
    pub above : AreAbove k (drop i es)

  -- the pairs after one change: the key has this value, or is removed where there is none
  abbrev pub with_change : List (K × V) → K → Option V → List (K × V)
  with_change es k None = remove_entry (is_at (R k)) es
  with_change es k (Some v) = insert_entry R es k v

-- the pairs whose values stay, with these values edited
abbrev pub retained : {K V : Type 0} → (V → Bool) → (V → V) → List (K × V) → List (K × V)
retained stays edited es = map (λ e. (e.0, edited e.1)) (filter (λ e. stays e.1) es)
