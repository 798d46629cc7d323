use Rattle.cj_cache.proofs.ByTable.{looked_listed}
use Rattle.cj_cache.proofs.cache.Cache.touch.Goals as goal

pub invariant_of-self : goal.invariant_of-self
invariant_of-self c = (c.bring_to_front-hit.ensures.capacity _ c.self.invariant.0, looked_listed c.self.inside.by_table c.args.select.now _ _ c.bring_to_front-hit.ensures.entries c.self.invariant.1)

pub invariant_of-self-else-hit : goal.invariant_of-self-else-hit
invariant_of-self-else-hit c = (c.bring_to_front-hit.ensures.capacity _ c.self.invariant.0, looked_listed c.self.inside.by_table c.args.select.now _ _ c.bring_to_front-hit.ensures.entries c.self.invariant.1)
