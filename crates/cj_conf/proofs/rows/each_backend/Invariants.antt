use Rattle.std.proofs.Common.{◌≡◌, drop}
use Rattle.cj_conf.proofs.Cited.{All, Backends, IsWeighted, array_view, as_table, backend_row, each, items_view, onto, config_row}
use Rattle.cj_conf.proofs.rows.each_backend.Given as goal

abbrev pub invariant-loop-value : goal.invariant-loop-value
invariant-loop-value l =
    (each (λ row. config_row Backends backend_row (as_table row)) (array_view l.array)
    ≡ onto l.backends (each (λ row. config_row Backends backend_row (as_table row)) (items_view (drop l.value-index l.value-items))))
    × All IsWeighted l.backends
