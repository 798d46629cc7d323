use Rattle.std.proofs.Common.{◌≡◌, [], drop, map}
use Rattle.cj_place.proofs.Common.{HostRow, filter, fold, hosts, is_name, name_cmp, placement_of, put_by}
use Rattle.cj_place.proofs.placement.Placement.covered_of.Given as goal

abbrev pub invariant-loop-row : goal.invariant-loop-row
invariant-loop-row l =
    fold (put_by name_cmp) l.set (filter is_name (filter (hosts (placement_of l.self) l.b) (map (λ (row : HostRow). row.given.table) (drop l.row-index l.rows))))
    ≡ fold (put_by name_cmp) [] (filter is_name (filter (hosts (placement_of l.self) l.b) (map (λ (row : HostRow). row.given.table) l.rows)))
