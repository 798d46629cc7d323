use Rattle.std.proofs.Common.{◌≡◌, [], ◌∷◌, map, take}
use Rattle.cj_query.proofs.Common.{deref, rows_in}
use Rattle.cj_query.proofs.groups.singles.Given as goal

abbrev pub invariant-loop-at : goal.invariant-loop-at
invariant-loop-at l = rows_in l.out.items ≡ map (λ row. row ∷ []) (map deref (take l.at l.rows))
