use Rattle.std.proofs.Common.{◌≡◌, ◌+◌, map, drop}
use Rattle.cj_query.proofs.Common.{deref, prefix_len, same_at}
use Rattle.cj_query.proofs.groups.same_len.Given as goal

abbrev pub invariant-loop-row : goal.invariant-loop-row
invariant-loop-row l = record {
  len : l.len ≡ l.row-index;
  so_far : prefix_len (same_at l.place l.first) (map deref l.rows) ≡ l.row-index + prefix_len (same_at l.place l.first) (map deref (drop l.row-index l.rows));
}
