use Rattle.std.proofs.Common.{◌≡◌, drop}
use Rattle.cj_conf.proofs.Cited.{Tables, array_view, as_table, each, items_view, onto, placed_of, config_row}
use Rattle.cj_conf.proofs.rows.each_placed.Given as goal

abbrev pub invariant-loop-value : goal.invariant-loop-value
invariant-loop-value l =
    each (λ row. config_row Tables placed_of (as_table row)) (array_view l.array)
    ≡ onto l.tables (each (λ row. config_row Tables placed_of (as_table row)) (items_view (drop l.value-index l.value-items)))
