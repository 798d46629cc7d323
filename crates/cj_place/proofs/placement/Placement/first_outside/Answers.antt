use Rattle.std.proofs.Common.{◌≡◌, map, ap, sym, ◌∙◌}
use Rattle.cj_place.proofs.Common.{HostRow, Layout, PlaceRow, find, is_outside, map-map, placement_of}
use Rattle.cj_place.proofs.placement.Placement.first_outside.Goals as goal

pub returns : goal.returns
returns c =
    let tables : map (λ (row : HostRow). row.given.table) c.as_slice.result.now ≡ map (λ (row : PlaceRow). row.table) c.args.self.now.rows =
    ap (map (λ (row : HostRow). row.given.table)) c.as_slice.ensures
    ∙ sym (map-map (λ (row : PlaceRow). row.table) (λ (row : HostRow). row.given) c.self.inside.rows)
    ∙ ap (λ (l : Layout). map (λ (row : PlaceRow). row.table) l.rows) c.self.view_is in
    c.outside_of.ensures ∙ ap (find (is_outside (placement_of c.args.self.now) c.args.b c.args.set.now)) tables
