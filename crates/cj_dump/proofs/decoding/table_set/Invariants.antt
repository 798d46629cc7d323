use Rattle.std.proofs.Common.{◌≡◌, [], drop}
use Rattle.cj_dump.proofs.Common.{fold, name_cmp, put_by}
use Rattle.cj_dump.proofs.decoding.table_set.Given as goal

abbrev pub invariant-loop-name : goal.invariant-loop-name
invariant-loop-name l = fold (put_by name_cmp) l.set (drop l.name-index l.names) ≡ fold (put_by name_cmp) [] l.names
