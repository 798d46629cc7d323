use Rattle.cj_place.specs.Layouts.{placement_of}
use Rattle.cj_place.proofs.LastHosts.{last_is}
use Rattle.cj_place.proofs.placement.Placement.is_last_host.Goals as goal

pub returns : goal.returns
returns c = last_is (placement_of c.args.self.now) c.args.b c.args.enabled c.args.table.now c.hosts.result c.is_lone_bit.result c.requires c.hosts.ensures c.is_lone_bit.ensures
