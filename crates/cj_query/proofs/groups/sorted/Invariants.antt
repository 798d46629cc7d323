use Rattle.std.proofs.Common.{◌≡◌, map, take}
use Rattle.cj_query.proofs.Cited.{deref, led_by, seen}
use Rattle.cj_query.proofs.groups.sorted.Given as goal

abbrev pub invariant-loop-row : goal.invariant-loop-row
invariant-loop-row l = map seen l.ranked.items ≡ map (led_by l.place) (map deref (take l.row-index l.rows))
