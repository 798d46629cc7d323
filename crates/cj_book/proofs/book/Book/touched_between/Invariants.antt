use Rattle.std.proofs.Common.{◌≡◌, ℕ, ◌+◌, ◌<◌, ◌≤◌, List, [], length, get_or}
use Rattle.cj_cluster.specs.History.Freshness.{touches}
use Rattle.cj_cluster.specs.History.Histories.{log}
use Rattle.cj_book.specs.Touching.{has_table}
use Rattle.cj_book.proofs.book.Book.touched_between.Given as goal

abbrev pub invariant-loop-n : goal.invariant-loop-n
invariant-loop-n l =
    record {
      within : (l.from ≤ l.n) × (l.n ≤ l.end);
      long : l.from + length l.touched.items ≡ l.n;
      each : (i : ℕ) → i < length l.touched.items → (table : List ℕ) → has_table (get_or l.touched.items i []) table ≡ touches (log l.self.state.history) (l.from + i) table;
    }
