use Rattle.std.proofs.Common.{rules}
use Rattle.cj_place.proofs.Common.{in_mask, placement_of}
use Rattle.cj_place.proofs.Hosting.{hosting_more}
use Rattle.cj_place.proofs.placement.Placement.hosting.Goals as goal

pub loop-table-preserved : goal.loop-table-preserved
loop-table-preserved c = λ b.
    hosting_more (placement_of c.args.self.now) (in_mask c.args.mask b) c.args.tables.now c.loop-table.table-index c.table-item.result c.loop-table.left c.hosts-left.result b
    (search rules) c.table-item.is (c.loop-table.invariant b) (c.hosts-left.ensures b)
