-- Entries by their keys.
use Rattle.std.specs.Prelude.{List}
use Rattle.std.specs.declared.option.Option.{Option}
use Rattle.std.specs.BTreeMap.{is_at}
use Rattle.std.specs.Map.{lookup}
use Rattle.std.specs.declared.cmp.Ordering.{Ordering}

-- the value of the entry with this key, if there is one
abbrev pub at : {K X : Type 0} → (K → K → Ordering) → K → List (K × X) → Option X
at R q es = lookup (is_at (R q)) es
