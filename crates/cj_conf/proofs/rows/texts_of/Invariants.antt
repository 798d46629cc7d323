use Rattle.std.proofs.Common.{◌≡◌, drop}
use Rattle.cj_conf.proofs.Cited.{Logins, array_view, each, items_view, onto, text_in}
use Rattle.cj_conf.proofs.rows.texts_of.Given as goal

abbrev pub invariant-loop-value : goal.invariant-loop-value
invariant-loop-value l = each (text_in Logins) (array_view l.array) ≡ onto l.texts (each (text_in Logins) (items_view (drop l.value-index l.value-items)))
