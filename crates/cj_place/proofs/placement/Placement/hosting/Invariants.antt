use Rattle.std.proofs.Common.{◌≡◌, ◌&&◌, ℕ, take}
use Rattle.cj_model.specs.Cluster.Masks.{in_mask}
use Rattle.cj_model.specs.Cluster.Placements.{hosts_all}
use Rattle.cj_place.specs.Layouts.{placement_of}
use Rattle.cj_place.proofs.placement.Placement.hosting.Given as goal

abbrev pub invariant-loop-table : goal.invariant-loop-table
invariant-loop-table l = (b : ℕ) → in_mask l.left b ≡ (in_mask l.mask b && hosts_all (placement_of l.self) b (take l.table-index l.tables))
