use Rattle.std.proofs.Common.{◌≡◌, map, take}
use Rattle.cj_query.specs.Projections.{bound_item_of}
use Rattle.cj_query.proofs.projection.bound_each.Given as goal

abbrev pub invariant-loop-item : goal.invariant-loop-item
invariant-loop-item l = l.out.items ≡ map (bound_item_of l.scope) (take l.item-index l.items)
