use Rattle.std.proofs.Common.{◌≡◌, ◌++◌}
use Rattle.cj_book.proofs.Cited.{IsRecovered, book_board, book_view, history, placement_of}
use Rattle.cj_book.proofs.recovered.gather.Given as goal

abbrev pub invariant-loop-event : goal.invariant-loop-event
invariant-loop-event l = record {
  can_next : (goal.iterator-loop-event).can_next l.event-iterator;
  is_finite : (goal.iterator-loop-event).is_finite l.event-iterator;
  board : book_board l.seat ≡ book_board l.fn.seat;
  view : book_view l.seat ≡ record (book_view l.fn.seat) { front = history l.seat };
  events : history l.seat ++ l.event-iterator.rest.items ≡ l.fn.events.items;
  kept : IsRecovered (placement_of l.placement) (history l.seat) l.found;
}
