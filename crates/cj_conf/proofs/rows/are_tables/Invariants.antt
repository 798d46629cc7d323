use Rattle.std.proofs.Common.{◌≡◌, drop}
use Rattle.cj_conf.proofs.Common.{all_items, array_view, is_table, items_view}
use Rattle.cj_conf.proofs.rows.are_tables.Given as goal

abbrev pub invariant-loop-value : goal.invariant-loop-value
invariant-loop-value l = all_items is_table (array_view l.array) ≡ all_items is_table (items_view (drop l.value-index l.value-items))
