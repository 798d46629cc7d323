use Rattle.std.proofs.Common.{◌≡◌, map, take}
use Rattle.cj_query.proofs.Cited.{deref, seen}
use Rattle.cj_query.proofs.ranked.rows_of.Given as goal

abbrev pub invariant-loop-row : goal.invariant-loop-row
invariant-loop-row l = map deref l.out.items ≡ map (λ r. r.1) (map seen (take l.row-index l.ranked))
