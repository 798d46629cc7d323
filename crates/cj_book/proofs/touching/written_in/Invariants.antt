use Rattle.std.proofs.Common.{◌≡◌, ℕ, List, min, take}
use Rattle.cj_book.proofs.Common.{has_table, has_written, log}
use Rattle.cj_book.proofs.touching.written_in.Given as goal

abbrev pub invariant-loop-n : goal.invariant-loop-n
invariant-loop-n l = (table : List ℕ) → has_table l.tables table ≡ has_written table l.tx (take (min l.n l.end) (log l.book.state.history))
