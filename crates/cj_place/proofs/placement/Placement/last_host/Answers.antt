use Rattle.std.proofs.Common.{◌≡◌, false, map, ap, sym, ◌∙◌}
use Rattle.cj_place.proofs.Common.{HostRow, Layout, PlaceRow, cond-false, find, is_last_host, map-map, placement_of}
use Rattle.cj_place.proofs.placement.Placement.last_host.Goals as goal

pub returns : goal.returns
returns c =
    let layout = c.args.self.now in
    let part : layout.full ≡ false = sym (ap (λ (l : Layout). l.full) c.self.view_is) ∙ c.if-self.false in
    let tables : map (λ (row : HostRow). row.given.table) c.as_slice.result.now ≡ map (λ (row : PlaceRow). row.table) layout.rows =
    ap (map (λ (row : HostRow). row.given.table)) c.as_slice.ensures
    ∙ sym (map-map (λ (row : PlaceRow). row.table) (λ (row : HostRow). row.given) c.self.inside.rows)
    ∙ ap (λ (l : Layout). map (λ (row : PlaceRow). row.table) l.rows) c.self.view_is in
    c.last_of.ensures ∙ ap (find (is_last_host (placement_of layout) c.args.b c.args.enabled)) tables ∙ sym (cond-false layout.full _ _ part)
