use Rattle.cj_cache.proofs.cache.Cache.drop_needing.Goals as goal

pub invariant_of-self : goal.invariant_of-self
invariant_of-self c = (c.drop_needing.ensures.capacity _ c.self.invariant.0, c.drop_needing.ensures.listed)
