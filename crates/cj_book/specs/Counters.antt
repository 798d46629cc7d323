-- Events of a session that may have an own pass, which counts them.
use Rattle.std.specs.Prelude.{◌≡◌, ◌<◌}
use Rattle.std.specs.declared.option.Option.{Option}
use Rattle.std.specs.declared.option.Option.TheVariants.{None, Some}
use Rattle.atomic_table.specs.Seated.{TableId}
use Rattle.cj_cluster.specs.declared.event.Event.{Event}
use Rattle.cj_board.specs.declared.view.SeatView.{SeatView}
use Rattle.cj_board.specs.Seats.{pass_board, pass_view}
use Rattle.cj_board.specs.Steps.{HasCountNotes}
use Rattle.cj_book.specs.declared.counter.Counter.{Counter}
use Rattle.cj_book.specs.declared.counter.Counter.TheVariants.{Nobody, Own}
use Rattle.cj_book.specs.Seated.{knows_counted, own_book_after, own_pass_after, view_after, SeatedBook}

-- what the own pass of the session knows, where the session has one
abbrev pub own_view : Counter → Option SeatView
own_view Nobody = None
own_view (Own p) = Some (pass_view p)

-- the own pass, where there is one, is of this board and of a session
abbrev pub IsOn : TableId → Counter → Type 0
IsOn board Nobody = Unit {0}
IsOn board (Own p) = (pass_board p ≡ board) × (0 < (pass_view p).own_session)

-- the book's knowledge after the own pass, where there is one, counted one event more and told the book
abbrev pub hearing : Option SeatView → SeatView → SeatView
hearing None v = v
hearing (Some w) v = knows_counted v w

-- the event is counted, where it is one more of a session that has an own pass
abbrev pub CanCount : SeatedBook → Option SeatView → Event → Type 0
CanCount book own e = HasCountNotes (hearing own book.view).given book.state.history (hearing own book.view).count_notes e

-- what the book knows after an event of the session, where one came
abbrev pub book_after : Option Event → Option SeatView → SeatView → SeatView
book_after came None v = view_after came v
book_after came (Some w) v = own_book_after came v w

-- what the own pass knows after an event of the session, where one came
abbrev pub pass_after : Option Event → Option SeatView → SeatView → Option SeatView
pass_after came None v = None
pass_after came (Some w) v = Some (own_pass_after came v w)
