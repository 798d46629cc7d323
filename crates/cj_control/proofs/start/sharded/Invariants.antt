use Rattle.std.proofs.Common.{◌≡◌, ◌+◌, ◌≤◌, [], All, length, vec_capacity}
use Rattle.cj_model.specs.Cluster.Caching.{CacheState}
use Rattle.cj_board.specs.Seats.{pass_view}
use Rattle.cj_control.proofs.start.sharded.Given as goal

abbrev pub invariant-loop-cache : goal.invariant-loop-cache
invariant-loop-cache g l =
    record {
      same : pass_view l.pass.seat ≡ pass_view l.fn.pass.seat;
      empty : All (λ (c : CacheState). c.entries ≡ []) l.caches.items;
      count : length l.shards.items + length l.caches.items ≡ length l.fn.shards.items + length l.fn.caches.items;
      room : length l.fn.shards.items + length l.fn.caches.items ≤ vec_capacity l.shards;
    }

abbrev pub decreases-loop-cache : goal.decreases-loop-cache
decreases-loop-cache g l = length l.caches.items
