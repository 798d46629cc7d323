use Rattle.std.proofs.Common.{◌≡◌, List, ℕ, [], map, ap, sym, ◌∙◌, subst}
use Rattle.std.specs.Prelude.{IfOk, filter, fold}
use Rattle.cj_place.proofs.Common.{HostRow, Layout, PlaceRow, hosts, map-map, name_cmp, placement_of, put_by}
use Rattle.cj_place.proofs.placement.Placement.hosted.Goals as goal

pub returns : goal.returns
returns c =
    let tables : map (λ (row : HostRow). row.given.table) c.as_slice.result.now ≡ map (λ (row : PlaceRow). row.table) c.args.self.now.rows =
    ap (map (λ (row : HostRow). row.given.table)) c.as_slice.ensures
    ∙ sym (map-map (λ (row : PlaceRow). row.table) (λ (row : HostRow). row.given) c.self.inside.rows)
    ∙ ap (λ (l : Layout). map (λ (row : PlaceRow). row.table) l.rows) c.self.view_is in
    subst (λ (ts : List (List ℕ)). IfOk c.hosted_of.result (λ set. set ≡ fold (put_by name_cmp) [] (filter (hosts (placement_of c.args.self.now) c.args.b) ts))) tables c.hosted_of.ensures
