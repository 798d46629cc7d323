use Rattle.std.proofs.Common.{◌≡◌, drop}
use Rattle.cj_conf.proofs.Cited.{Hosts, array_view, each, items_view, name_in, onto}
use Rattle.cj_conf.proofs.rows.names_of.Given as goal

abbrev pub invariant-loop-value : goal.invariant-loop-value
invariant-loop-value l = each (name_in Hosts) (array_view l.array) ≡ onto l.names (each (name_in Hosts) (items_view (drop l.value-index l.value-items)))
