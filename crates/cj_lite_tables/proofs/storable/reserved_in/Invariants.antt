use Rattle.std.proofs.Common.{◌≡◌, length, map}
use Rattle.cj_model.specs.Sql.Lexical.{find_keyword}
use Rattle.cj_lite_tables.proofs.storable.reserved_in.Given as goal

abbrev pub invariant-loop-table : goal.invariant-loop-table
invariant-loop-table l = find_keyword (map (λ k. (k.0.now, k.1)) l.table) l.name ≡ find_keyword (map (λ k. (k.0.now, k.1)) l.initial.table) l.name

abbrev pub decreases-loop-table : goal.decreases-loop-table
decreases-loop-table l = length l.table
