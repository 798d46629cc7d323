-- The order of markers' names.
use Rattle.std.specs.Prelude.{ℕ, List}
use Rattle.std.specs.Cmp.{IsTotalOrder}
use Rattle.std.specs.Cmp.Lexicographic.{slice_cmp, nat_list_cmp_total}
use Rattle.std.specs.declared.cmp.Ordering.{Ordering}
use Rattle.std.specs.Ordering.{nat_cmp}
use Rattle.cj_recovery.specs.declared.markers.MarkerName.{MarkerName}

-- names go by their bytes
abbrev pub marker_cmp : MarkerName → MarkerName → Ordering
marker_cmp x y = slice_cmp nat_cmp x.name y.name

pub marker_total : IsTotalOrder marker_cmp
marker_total = record { antisymm = λ x y. nat_list_cmp_total.antisymm x.name y.name; trans = λ x y z. nat_list_cmp_total.trans x.name y.name z.name; congr = λ x y z. nat_list_cmp_total.congr x.name y.name z.name }

-- a name as a key
abbrev pub named : List ℕ → MarkerName
named name = record { name = name }
