use Rattle.std.proofs.Common.{◌≡◌, List, filter, length, map, take, arith, ap, ◌∙◌}
use Rattle.cj_model.specs.Cluster.Caching.{needs_one_of}
use Rattle.cj_cache.proofs.Cited.{Select, cached, common_steps, entries_of_map, listed, popped_each, popped_shown, take_all}
use Rattle.cj_cache.proofs.held.pop_listed.Goals as goal

pub returns-clause-entries : goal.returns-clause-entries
returns-clause-entries c =
    let needs = needs_one_of c.args.set.now in
    let under = listed c.args.by_table.now c.args.table.now in
    let here : under ≡ c.as_slice-select-items.result.now = grind (arith, common_steps) in
    let long = ap (λ (ss : List Select). length ss) here in
    let whole : take c.loop-select.select-index under ≡ under = take_all c.loop-select.select-index under (omega (arith, long, c.loop-select-test.false)) in
    ap entries_of_map c.loop-select.invariant
    ∙ (ap (λ (ss : List Select). map cached (popped_each (filter needs ss) c.args.held.now.entries)) whole ∙ popped_shown (filter needs under) c.args.held.now.entries)
