use Rattle.std.proofs.Common.{◌≡◌, [], drop, map}
use Rattle.cj_place.proofs.Common.{HostRow, filter, fold, hosts, name_cmp, placement_of, put_by}
use Rattle.cj_place.proofs.placement.Placement.hosted_of.Given as goal

abbrev pub invariant-loop-row : goal.invariant-loop-row
invariant-loop-row l =
    fold (put_by name_cmp) l.set (filter (hosts (placement_of l.self) l.b) (map (λ (row : HostRow). row.given.table) (drop l.row-index l.rows)))
    ≡ fold (put_by name_cmp) [] (filter (hosts (placement_of l.self) l.b) (map (λ (row : HostRow). row.given.table) l.rows))
