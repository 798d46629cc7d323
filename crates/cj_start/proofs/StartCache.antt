-- The entry that ends a transaction leaves the result cache.
use Rattle.std.proofs.Common.{◌≡◌, ap, ◌∙◌}
use Rattle.cj_start.proofs.Common.{CacheFollowsLog, Core, Entry, follows_abort, IsSameWorldButLog, log, log-sched}
use Rattle.cj_start.proofs.Common.{with_cache, with_core, with_entry, WorldState}
use Rattle.cj_model.specs.declared.request.Act.TheVariants as act
use Rattle.cj_moves.proofs.SameWorlds.{with_same_cache}

-- the end of a transaction by the administrator leaves the cache
pub aborted_after : (old new : WorldState) (e : Entry) → e.act ≡ act.Abort → new.core ≡ with_entry old.core e → IsSameWorldButLog (with_cache (with_core old new.core) new.cache) new → CacheFollowsLog old new → IsSameWorldButLog (with_core old (with_entry old.core e)) new
aborted_after old new e aborts core same follows =
    with_same_cache old new (with_entry old.core e) same core
    (follows_abort (log old.core.history) (log new.core.history) old.cache new.cache e aborts (ap (λ (c : Core). log c.history) core ∙ log-sched old.core.history e) follows)
