use Rattle.std.proofs.Common.{◌≡◌, ◌<◌, false, not, All, List, ℕ, length, get_or, rules, arith, ap, sym, subst}
use Rattle.std.specs.List.{list_any}
use Rattle.std.specs.Str.{bytes_eq}
use Rattle.cj_model.specs.Cluster.Caching.{needs_one_of}
use Rattle.cj_cache.proofs.Cited.{AreListed, Cached, entries_of_map, fewer_listed, none_needs, one_unneeded_by_all}
use Rattle.cj_cache.proofs.held.drop_needing.Goals as goal

pub loop-table-init : goal.loop-table-init
loop-table-init c =
    subst (AreListed c.args.by_table.now) (sym c.pop_needing.ensures.entries) (fewer_listed c.args.by_table.now (λ (e : Cached). not (needs_one_of c.args.set.now e.select)) (entries_of_map c.args.held.now) c.requires)

pub unlist_table-requires-clause-unneeded : goal.unlist_table-requires-clause-unneeded
unlist_table-requires-clause-unneeded c =
    let set = c.args.set.now in
    let i = c.loop-table.table-index in
    let long = ap (λ (xs : List (List ℕ)). length xs) c.as_slice-table-items.ensures.names in
    let lt : i < length set = omega (arith, long, c.loop-table-test.true) in
    let is : c.table-item.result ≡ get_or set i c.table-item.result = search rules in
    let left = subst (All (λ (e : Cached). needs_one_of set e.select ≡ false)) (sym c.pop_needing.ensures.entries) (none_needs set (entries_of_map c.args.held.now)) in
    subst (λ (t : List ℕ). All (λ (e : Cached). list_any (bytes_eq t) e.select.tables ≡ false) (entries_of_map c.pop_needing.new.held)) (sym is) (one_unneeded_by_all set i c.table-item.result lt (entries_of_map c.pop_needing.new.held) left)
