use Rattle.cj_book.proofs.Cited.{NoneTouches, log}
use Rattle.cj_book.proofs.touching.is_touched_behind.Given as goal

abbrev pub invariant-loop-n : goal.invariant-loop-n
invariant-loop-n l = NoneTouches (log l.book.state.history) l.at l.n l.select
