use Rattle.std.proofs.Common.{◌≡◌, drop}
use Rattle.cj_cache_shard.specs.Shards.{with_each_dropped}
use Rattle.cj_cache_shard.proofs.shard.drop_each.Given as goal

abbrev pub invariant-loop-set : goal.invariant-loop-set
invariant-loop-set l = with_each_dropped (drop l.set-index l.touched) l.cache ≡ with_each_dropped l.touched l.fn.cache
