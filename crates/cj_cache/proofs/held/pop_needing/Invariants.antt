use Rattle.std.proofs.Common.{◌≡◌, drop, filter}
use Rattle.cj_model.specs.Cluster.Caching.{needs_one_of}
use Rattle.cj_cache.proofs.Cited.{all_listed, entries_of_map, without_each}
use Rattle.cj_cache.proofs.held.pop_needing.Given as goal

abbrev pub invariant-loop-table : goal.invariant-loop-table
invariant-loop-table l =
    record {
      cap : l.held.cap ≡ l.fn.held.cap;
      left : without_each (filter (needs_one_of l.set) (all_listed l.by_table (drop l.table-index l.set))) (entries_of_map l.held) ≡ without_each (filter (needs_one_of l.set) (all_listed l.by_table l.set)) (entries_of_map l.fn.held);
    }
