use Rattle.std.proofs.Common.{◌≡◌, filter, map, rules, arith, ◌∙◌}
use Rattle.cj_model.specs.Cluster.Caching.{needs_one_of}
use Rattle.cj_cache.proofs.Cited.{Cached, IsDistinct, all_listed, common_steps, entries_of_map, keys_shown, needing_dropped, same_statement, without_each}
use Rattle.cj_cache.proofs.held.pop_needing.Goals as goal

pub returns-clause-entries : goal.returns-clause-entries
returns-clause-entries c =
    let set = c.args.set.now in
    let old = entries_of_map c.args.held.now in
    let distinct : IsDistinct same_statement (map (λ (e : Cached). e.select) old) = keys_shown c.args.held.now.entries (search rules) in
    let left : entries_of_map c.loop-table.held ≡ without_each (filter (needs_one_of set) (all_listed c.args.by_table.now set)) old = grind (arith, common_steps) in
    left ∙ needing_dropped set c.args.by_table.now old distinct c.requires
