-- The names that answers of this crate cite, its own lemmas among them, passed on from one place. Declares nothing.
pub use Rattle.cj_cache.proofs.ByTable.{fewer_listed, put_listed, unneeded_listed}
pub use Rattle.cj_cache.proofs.Common.{Cached, Held, Select, all_listed, entries_held, entries_of_map, same_statement, without_each}
pub use Rattle.cj_cache.proofs.Maps.{answer_shown, brought_shown, keys_shown, popped_shown, put_shown, some_shown}
pub use Rattle.cj_cache.proofs.Needing.{needing_dropped, none_needs, one_unneeded_by_all}
pub use Rattle.cj_cache.specs.Kept.{HasCapacity, cached, popped_each}
pub use Rattle.cj_cache.specs.Proving.ByTable.{AreListed, IsListed, StillLists, listed, lists}
pub use Rattle.cj_model.specs.Cluster.Caching.{CacheState, after_keep, without, without_tables}
pub use Rattle.lru.specs.LruCache.{LruCache, lru_cache, put_entries}
pub use Rattle.std.proofs.lemmas.Grind.{common_steps}
pub use Rattle.std.proofs.lemmas.List.{take_all}
pub use Rattle.std.proofs.lemmas.List.Elements.{All-more, All-same}
pub use Rattle.std.specs.List.{IsDistinct}
pub use Rattle.std.specs.Map.{lookup}
pub use Rattle.std.specs.Prelude.{option_map, ⊤}
