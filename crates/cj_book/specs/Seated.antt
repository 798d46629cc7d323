-- What contracts see of a book at its seat.
use Rattle.std.specs.Prelude.{◌≡◌, ℕ, ◌+◌, All, Result, Ok, Err}
use Rattle.std.specs.declared.option.Option.{Option}
use Rattle.std.specs.declared.option.Option.TheVariants.{None, Some}
use Rattle.atomic_table.specs.Seated.{TableId}
use Rattle.cj_cluster.specs.declared.event.Event.{Event}
use Rattle.cj_board.specs.declared.view.SeatView.{SeatView}
use Rattle.cj_board.specs.Steps.{HasPositionNotes, HasFaultTokens, HasCountNotes, after_append, after_count, after_join, after_learning, after_opening, after_split}
use Rattle.cj_board.specs.Views.{next_session, own_pass_of, pass_of, pass_without_tokens}
use Rattle.cj_book.specs.declared.error.BookError.{BookError}
use Rattle.cj_book.specs.declared.error.BookError.TheVariants.{InProgress, NoBackend, HistoryFull, LogFault, NoMemory}
use Rattle.cj_book.specs.declared.pending.Pending.{Pending}
use Rattle.cj_book.specs.Books.{BookState, IsOpenSession}

-- A book: what follows from its history, of which board its seat is, and what the seat knows, which has the history in
-- front. Beside it, whether an entry or a marker is on its way into the recovery log, where one is.
pub record SeatedBook : Type 0 where
  pub state : BookState
  pub board : TableId
  pub view : SeatView
  pub pending : Option Pending

-- the book stands at the same seat, and has heard and told nothing
abbrev pub HasSameSeat : SeatedBook → SeatedBook → Type 0
HasSameSeat old new = (new.board ≡ old.board) × (new.view ≡ old.view) × (new.pending ≡ old.pending)

-- ---- events

-- where the event is one more of a session that has an own pass, that was counted
abbrev pub IsCounted : SeatedBook → Event → Type 0
IsCounted book e = HasCountNotes book.view.given book.state.history book.view.count_notes e

-- what the seat must know before the event comes
pub record CanCome (v : SeatView) (e : Event) : Type 0 where
  pub positions : HasPositionNotes v.front v.position_notes e
  pub faults : HasFaultTokens v.fault_tokens e
  pub counts : HasCountNotes v.given v.front v.count_notes e

-- the event that comes: `e` after Ok, none after an error
abbrev pub event_at_ok : {T : Type 0} → Event → Result T BookError → Option Event
event_at_ok e (Ok x) = Some e
event_at_ok e (Err error) = None

-- the event that comes: `e` after Ok, `fault` after `LogFault`, none after another error
abbrev pub event_or_fault : {T : Type 0} → Event → Event → Result T BookError → Option Event
event_or_fault e fault (Ok x) = Some e
event_or_fault e fault (Err (InProgress n)) = None
event_or_fault e fault (Err NoBackend) = None
event_or_fault e fault (Err (HistoryFull n)) = None
event_or_fault e fault (Err LogFault) = Some fault
event_or_fault e fault (Err NoMemory) = None

-- what the seat knows after an event that came, where one did
abbrev pub view_after : Option Event → SeatView → SeatView
view_after None v = v
view_after (Some e) v = after_append e v

-- ---- own passes

-- the next session of the book is the next of its board: each was opened with an own pass
abbrev pub GivesOwnPassesOnly : SeatedBook → Type 0
GivesOwnPassesOnly book = book.state.greatest + 1 ≡ next_session book.view

-- each session that has an own pass is open, and none is the administrator's
abbrev pub OwnersAreOpen : SeatedBook → Type 0
OwnersAreOpen book = All (IsOpenSession book.state.sessions) book.view.given

-- what the book knows after it gave the next session an own pass, with a note of the pass's count
abbrev pub own_opened : SeatView → SeatView
own_opened v = after_learning (after_opening v) (pass_of (own_pass_of v))

-- what the book knows after it told a pass
abbrev pub told_book : SeatView → SeatView → SeatView
told_book v w = after_learning v (pass_without_tokens w)

-- what a pass knows after the book told the pass
abbrev pub told_pass : SeatView → SeatView → SeatView
told_pass v w = after_join w (pass_without_tokens (told_book v w))

-- what the book knows after an own pass counted one event more and told the book
abbrev pub knows_counted : SeatView → SeatView → SeatView
knows_counted v w = after_learning v (pass_of (after_count w))

-- What the book knows after an event of a session with an own pass, where one came. The pass counts the event first.
-- The book then learns of the count, the event comes, and the book tells the pass. The pass was told before.
abbrev pub own_book_after : Option Event → SeatView → SeatView → SeatView
own_book_after None v w = v
own_book_after (Some e) v w = told_book (after_append e (knows_counted v w)) (after_split (after_count w))

-- what a session's own pass knows after an event of the session, where one came
abbrev pub own_pass_after : Option Event → SeatView → SeatView → SeatView
own_pass_after None v w = w
own_pass_after (Some e) v w = told_pass (after_append e (knows_counted v w)) (after_split (after_count w))

-- the number of events that a pass has counted, after one more where one came
abbrev pub count_after : Option Event → ℕ → ℕ
count_after None n = n
count_after (Some e) n = n + 1
