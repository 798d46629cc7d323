use Rattle.std.proofs.Common.{List, ap, ◌∙◌}
use Rattle.cj_place.proofs.Common.{HostRow, Layout, in_mask, mask_in, placement_of}
use Rattle.cj_model.specs.Cluster.Placements as placements
use Rattle.cj_place.proofs.Placing.{part_hosts}
use Rattle.cj_place.proofs.placement.Placement.hosts.Goals as goal

pub returns : goal.returns
returns c = λ b.
    let table = c.args.table.now in
    ap (λ m. in_mask m b) (c.mask_at.ensures ∙ ap (λ (rows : List HostRow). mask_in rows table) c.as_slice.ensures)
    ∙ part_hosts c.self.inside.names table b c.self.inside.full c.self.inside.rows c.if-self.false c.self.invariant.masks c.self.invariant.rises
    ∙ ap (λ (l : Layout). placements.hosts (placement_of l) b table) c.self.view_is
