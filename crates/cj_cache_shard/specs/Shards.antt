-- What a shard of the result cache gives, and what a look at it leaves.
use Rattle.std.specs.Prelude.{◌≡◌, ◌⊎◌, ℕ, Bool, true, false, List, fold}
use Rattle.std.specs.declared.result.Result.{Result}
use Rattle.std.specs.declared.result.Result.TheVariants.{Ok, Err}
use Rattle.cj_model.specs.declared.memory.NoMemory.{NoMemory}
use Rattle.cj_model.specs.declared.request.Request.TheVariants as request
use Rattle.cj_model.specs.declared.select.Select.{Select}
use Rattle.cj_model.specs.Cluster.Caching.{CacheState, after_look, has_answer, without_tables}
use Rattle.cj_model.specs.Cluster.Placements.{Placement}
use Rattle.cj_cluster.specs.declared.event.Event.{Event}
use Rattle.cj_cluster.specs.History.Answering.{HasNoServer, HasServer}
use Rattle.cj_cluster.specs.History.Freshness.{IsFreshCache}
use Rattle.cj_cluster.specs.History.Histories.{log}
use Rattle.cj_cluster.specs.History.Legality.{IsLegal}
use Rattle.cj_book.specs.declared.news.Heard.{Heard}
use Rattle.cj_book.specs.News.{IsHeard, IsOwedAt, IsRightAt}
use Rattle.cj_cache_shard.specs.declared.shard.Found.{Found}
use Rattle.cj_cache_shard.specs.declared.shard.Found.TheVariants.{Kept, Absent, Behind}

-- what contracts see of a shard: its cache, the history that it has heard of, and how far that goes
pub record ShardState : Type 0 where
  pub cache : CacheState
  pub front : List Event
  pub heard : Heard

-- It has heard of a legal history, and how far that goes. Each kept answer is fresh there, and right if the backends
-- tell what they hold.
pub record IsShard (tells : Bool) (x : ShardState) : Type 0 where
  pub legal : IsLegal x.front
  pub hears : IsHeard x.front x.heard
  pub fresh : IsFreshCache tells (log x.front) x.cache

-- a kept answer is right at history h, which is all that there was at the look, at a position that its session is owed
abbrev pub IsFound : Bool → Placement → List Event → Select → ℕ → Found → Type 0
IsFound tells p h select least (Kept answer n) = IsLegal h × IsRightAt tells p h 0 select answer.value n × IsOwedAt h least n
IsFound tells p h select least Absent = Unit {0}
IsFound tells p h select least (Behind entries) = Unit {0}

-- What a look leaves of the cache of a shard that has heard of history h, with so many entries. An answer is found
-- exactly if it is kept and a backend serves the query, unless the shard is behind.
abbrev pub LooksInShard : Placement → List Event → ℕ → Select → CacheState → Result Found NoMemory → CacheState → Type 0
LooksInShard p h entries select old (Ok (Kept answer n)) new = HasServer p h (request.Select select) × (has_answer select old ≡ true) × (new ≡ after_look select old)
LooksInShard p h entries select old (Ok Absent) new = (HasServer p h (request.Select select) × (has_answer select old ≡ false) × (new ≡ after_look select old)) ⊎ (HasNoServer p h (request.Select select) × (new ≡ old))
LooksInShard p h entries select old (Ok (Behind n)) new = (n ≡ entries) × (new ≡ old)
LooksInShard p h entries select old (Err e) new = HasServer p h (request.Select select) × (has_answer select old ≡ true) × (new ≡ after_look select old)

-- the cache without the answers that need a table of one of the sets
abbrev pub with_each_dropped : List (List (List ℕ)) → CacheState → CacheState
with_each_dropped sets c = fold (λ left set. without_tables set left) c sets
