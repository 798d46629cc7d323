use Rattle.std.proofs.Common.{◌≡◌, drop, map}
use Rattle.cj_place.proofs.Common.{HostRow, find, is_last_host, placement_of}
use Rattle.cj_place.proofs.placement.Placement.last_of.Given as goal

abbrev pub invariant-loop-row : goal.invariant-loop-row
invariant-loop-row l =
    find (is_last_host (placement_of l.self) l.b l.enabled) (map (λ (row : HostRow). row.given.table) (drop l.row-index l.rows))
    ≡ find (is_last_host (placement_of l.self) l.b l.enabled) (map (λ (row : HostRow). row.given.table) l.rows)
