use Rattle.std.proofs.Common.{◌≡◌, true, All, take}
use Rattle.cj_cache.proofs.Cited.{StillLists, lists, ⊤}
use Rattle.cj_cache.proofs.by_table.list.Given as goal

abbrev pub invariant-loop-table : goal.invariant-loop-table
invariant-loop-table l = All (λ table. lists l.by_table table l.select ≡ true) (take l.table-index l.select.tables) × StillLists (λ _. ⊤) l.fn.by_table l.by_table
