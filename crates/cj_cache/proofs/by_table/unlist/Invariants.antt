use Rattle.std.proofs.Common.{◌≡◌, false}
use Rattle.cj_cache.proofs.Cited.{StillLists, same_statement}
use Rattle.cj_cache.proofs.by_table.unlist.Given as goal

abbrev pub invariant-loop-table : goal.invariant-loop-table
invariant-loop-table l = StillLists (λ s. same_statement l.select s ≡ false) l.fn.by_table l.by_table
