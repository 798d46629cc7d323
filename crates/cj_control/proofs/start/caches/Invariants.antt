use Rattle.std.proofs.Common.{◌≡◌, [], All}
use Rattle.cj_model.specs.Cluster.Caching.{CacheState}
use Rattle.cj_control.proofs.start.caches.Given as goal

abbrev pub invariant-loop-number : goal.invariant-loop-number
invariant-loop-number l = All (λ (c : CacheState). c.entries ≡ []) l.caches.items
