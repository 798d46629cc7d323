use Rattle.std.proofs.Common.{◌≡◌, drop}
use Rattle.cj_conf.proofs.Common.{all_items, array_view, is_text, items_view}
use Rattle.cj_conf.proofs.rows.are_texts.Given as goal

abbrev pub invariant-loop-value : goal.invariant-loop-value
invariant-loop-value l = all_items is_text (array_view l.array) ≡ all_items is_text (items_view (drop l.value-index l.value-items))
