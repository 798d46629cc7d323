-- Which statements are listed under a table, and which of them a change drops.
use Rattle.std.specs.Prelude.{◌≡◌, ℕ, Bool, true, ◌&&◌, List, [], ◌∷◌, ◌++◌, All, is_some}
use Rattle.std.specs.HashMap.{HashMap, get}
use Rattle.std.specs.HashSet.{HashSet}
use Rattle.std.specs.List.{list_any}
use Rattle.std.specs.Option.{option_map_or}
use Rattle.std.specs.Str.{bytes_eq}
use Rattle.cj_model.specs.declared.cached.Cached.{Cached}
use Rattle.cj_model.specs.declared.select.Select.{Select}
use Rattle.cj_model.specs.Cluster.Caching.{cached_entry, needs_one_of}
use Rattle.cj_model.specs.Proving.SameStatements.{same_statement}

-- whether a statement needs one of these tables and is kept
abbrev pub is_due : List (List ℕ) → List Cached → Select → Bool
is_due set entries s = needs_one_of set s && is_some (cached_entry s entries)

-- statements by tables; S and T are the types of the hashers
abbrev pub ByTable : Type 0 → Type 0 → Type 0
ByTable S T = HashMap (List ℕ) (HashSet Select S) T

module _ {S T : Type 0} where
  -- the statements that are listed under a table
  abbrev pub listed : ByTable S T → List ℕ → List Select
  listed m table = option_map_or (λ (set : HashSet Select S). set.keys) (get bytes_eq m table) []

  abbrev pub lists : ByTable S T → List ℕ → Select → Bool
  lists m table s = list_any (same_statement s) (listed m table)

  -- an entry's statement is listed under each of its tables
  abbrev pub IsListed : ByTable S T → Cached → Type 0
  IsListed m e = All (λ table. lists m table e.select ≡ true) e.select.tables

  -- each entry's statement is listed under each of its tables
  unfoldable pub AreListed : ByTable S T → List Cached → Type 0
  AreListed m entries = All (IsListed m) entries

  -- each statement with P is still listed where it was
  abbrev pub StillLists : (Select → Type 0) → ByTable S T → ByTable S T → Type 0
  StillLists P m n = (table : List ℕ) (s : Select) → P s → lists m table s ≡ true → lists n table s ≡ true

  -- the statements that are listed under each of some tables
  abbrev pub all_listed : ByTable S T → List (List ℕ) → List Select
  all_listed m [] = []
  all_listed m (table ∷ tables) = listed m table ++ all_listed m tables
