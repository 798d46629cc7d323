-- Nodes, seen as the pairs in them and below them.
use Rattle.std.specs.Prelude.{◌≡◌, true, List, [], ◌++◌, ⊤}
use Rattle.std.specs.declared.cmp.Ordering.{Ordering}
use Rattle.std.specs.declared.option.Option.{Option}
use Rattle.std.specs.declared.option.Option.TheVariants.{None, Some}
use Rattle.std.specs.BTreeMap.{insert_entry, is_at}
use Rattle.std.specs.Map.{lookup}
use Rattle.cj_ptree.specs.declared.added.Added.{Added}
use Rattle.cj_ptree.specs.Pairs.{AreBelow, AreFrom, is_filled}

module _ {K V N : Type 0} (pairs : N → List (K × V)) where
  -- the pairs of the node that was split off
  abbrev pub right_pairs : Option (K × N) → List (K × V)
  right_pairs None = []
  right_pairs (Some right) = pairs right.1

  module _ (IsBuilt : N → Type 0) (R : K → K → Ordering) where
    -- the node that was split off begins at its bound, and the pairs left are below that
    abbrev pub IsSplit : List (K × V) → Option (K × N) → Type 0
    IsSplit left None = ⊤
    IsSplit left (Some right) = AreBelow R right.0 left × AreFrom R right.0 (pairs right.1) × (is_filled left ≡ true) × (is_filled (pairs right.1) ≡ true) × IsBuilt right.1

    -- the pairs are divided between the node and the one that was split off it
    pub record SplitsOff (old new : N) (right : Option (K × N)) : Type 0 where
      pub shared : pairs new ++ right_pairs right ≡ pairs old
      pub split : IsSplit (pairs new) right
      pub built : IsBuilt new

    -- the pairs, and those split off, are the old ones with this pair put
    pub record Inserts (old : List (K × V)) (k : K) (v : V) (added : Added K V N) (new : N) : Type 0 where
      pub value : added.old ≡ lookup (is_at (R k)) old
      pub put : pairs new ++ right_pairs added.right ≡ insert_entry R old k v
      pub split : IsSplit (pairs new) added.right
