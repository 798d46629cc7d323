use Rattle.std.proofs.Common.{rules, ◌≡◌, ℕ, List, length, true, slice_index_or, sym, ap, arith}
use Rattle.cj_cache.proofs.Cited.{All-more, All-same, lists, take_all}
use Rattle.cj_cache.proofs.by_table.list.Goals as goal

pub loop-table-preserved : goal.loop-table-preserved
loop-table-preserved c =
    let tables = c.args.select.now.tables in
    let i = c.loop-table.table-index in
    let long = ap (λ (xs : List (List ℕ)). length xs) c.as_slice-table-items.ensures in
    let here : lists c.list_under.new.by_table (slice_index_or tables i c.table-item.result) c.args.select.now ≡ true = search rules in (
      All-more (λ table. lists c.list_under.new.by_table table c.args.select.now ≡ true) tables i c.table-item.result (omega (arith, long, c.loop-table-test.true)) (λ k d lt. c.list_under.ensures.others _ _ tt (c.loop-table.invariant.0 k d lt)) here,
      λ table s p was. c.list_under.ensures.others table s tt (c.loop-table.invariant.1 table s tt was),
    )

pub returns-clause-listed : goal.returns-clause-listed
returns-clause-listed c =
    let tables = c.args.select.now.tables in
    let long = ap (λ (xs : List (List ℕ)). length xs) c.as_slice-table-items.ensures in
    All-same (λ table. lists c.loop-table.by_table table c.args.select.now ≡ true) tables _ (sym (take_all c.loop-table.table-index tables (omega (arith, long, c.loop-table-test.false)))) c.loop-table.invariant.0
