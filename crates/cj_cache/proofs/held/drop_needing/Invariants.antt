use Rattle.cj_cache.proofs.Cited.{AreListed, entries_of_map}
use Rattle.cj_cache.proofs.held.drop_needing.Given as goal

abbrev pub invariant-loop-table : goal.invariant-loop-table
invariant-loop-table l = AreListed l.by_table (entries_of_map l.held)
