use Rattle.std.proofs.Common.{◌≡◌, ◌++◌, map}
use Rattle.cj_query.proofs.Common.{IsBarred, ranked_by, rows_kept, wanted}
use Rattle.cj_query.proofs.top.first_matching_ranked.Given as goal

abbrev pub invariant-loop-row : goal.invariant-loop-row
invariant-loop-row l = record {
  same : wanted l.ranking (rows_kept l.kept ++ map (ranked_by l.ranking) l.row-iterator) ≡ wanted l.ranking (map (ranked_by l.ranking) l.fn.rows);
  barred : IsBarred l.ranking l.kept;
}
