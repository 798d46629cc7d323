use Rattle.std.proofs.Common.{◌≡◌, filter, take}
use Rattle.cj_model.specs.Cluster.Caching.{needs_one_of}
use Rattle.cj_cache.proofs.Cited.{listed, lru_cache, popped_each}
use Rattle.cj_cache.proofs.held.pop_listed.Given as goal

abbrev pub invariant-loop-select : goal.invariant-loop-select
invariant-loop-select l = l.held ≡ lru_cache (popped_each (filter (needs_one_of l.set) (take l.select-index (listed l.by_table l.table))) l.fn.held.entries) l.fn.held.cap
