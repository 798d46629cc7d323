use Rattle.cj_cache.proofs.Cited.{AreListed, entries_of_map}
use Rattle.cj_cache.proofs.held.unlist_table.Given as goal

abbrev pub invariant-loop-select : goal.invariant-loop-select
invariant-loop-select l = AreListed l.by_table (entries_of_map l.held)
