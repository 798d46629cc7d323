-- What each step asks for, and the view of the seat after it.
use Rattle.std.specs.Prelude.{◌≡◌, ℕ, suc, ◌+◌, ◌<◌, ◌≤◌, Bool, true, false, not, leb, eqb, cond, ◌==◌, List, [], ◌∷◌, ◌++◌, length, filter, Contains}
use Rattle.std.specs.declared.option.Option.{Option}
use Rattle.std.specs.declared.option.Option.TheVariants.{None, Some}
use Rattle.cj_cluster.specs.declared.event.Event.{Event}
use Rattle.cj_cluster.specs.declared.event.Event.TheVariants.{Sched, Ended, ReadFailed, LogFailed, Disabled, Enabled, Marker}
use Rattle.cj_cluster.specs.History.Histories.{log, is_enabled, notes_failure}
use Rattle.cj_board.specs.declared.view.SeatView.{SeatView}
use Rattle.cj_board.specs.declared.view.Role.{Role}
use Rattle.cj_board.specs.declared.view.Role.TheVariants.{Book, Cell, Pass}
use Rattle.cj_board.specs.Counting.{event_count_of}
use Rattle.cj_board.specs.Points.{max_word, fault_tokens_of}
use Rattle.cj_board.specs.Views.{next_session}

-- ---- to append an event

-- each backend that is enabled after an end, or that becomes enabled, is noted to be at the end of the log
abbrev pub HasPositionNotes : List Event → List (ℕ × ℕ) → Event → Type 0
HasPositionNotes h notes (Sched e) = Unit {0}
HasPositionNotes h notes (Ended failed starved) = (b : ℕ) → is_enabled (h ++ Ended failed starved ∷ []) b ≡ true → Contains notes (b, length (log h))
HasPositionNotes h notes (ReadFailed s q b) = Unit {0}
HasPositionNotes h notes (LogFailed s q) = Unit {0}
HasPositionNotes h notes (Disabled b) = Unit {0}
HasPositionNotes h notes (Enabled b) = Contains notes (b, length (log h))
HasPositionNotes h notes (Marker name b) = Unit {0}

-- there is a fault token of each backend that is said to have failed
abbrev pub HasFaultTokens : List ℕ → Event → Type 0
HasFaultTokens tokens e = (b : ℕ) → notes_failure b e ≡ true → 0 < fault_tokens_of b tokens

-- if the event is one of a session with an own pass, it is counted
abbrev pub HasCountNotes : List ℕ → List Event → List (ℕ × ℕ) → Event → Type 0
HasCountNotes given h notes e = (s : ℕ) → Contains given s → event_count_of s h < event_count_of s (h ++ e ∷ []) → (n : ℕ) × Contains notes (s, n) × (event_count_of s (h ++ e ∷ []) ≤ n)

-- the tokens without one of each of these backends
abbrev pub spend : (ℕ → Bool) → List ℕ → List ℕ
spend these [] = []
spend these (t ∷ ts) = cond (these t) (spend (λ b. cond (eqb b t) false (these b)) ts) (t ∷ spend these ts)

-- the seat after an append: the event is the last it has seen, and one token is spent for each failure noted by it
abbrev pub after_append : Event → SeatView → SeatView
after_append e v = record v { front = v.front ++ e ∷ []; fault_tokens = spend (λ b. notes_failure b e) v.fault_tokens }

-- ---- at a cell's seat

abbrev pub with_position : ℕ → Role → Role
with_position p (Book m) = Book m
with_position p (Cell b q) = Cell b p
with_position p Pass = Pass

-- the seat of a cell at this position, or out
abbrev pub at_position : ℕ → SeatView → SeatView
at_position p v = record v { role = with_position p v.role }

-- a fault word with one fault more, unless it is full
abbrev pub one_fault_more : ℕ → ℕ
one_fault_more n = cond (leb max_word n) n (n + 1)

-- the seat of a cell that knows of n faults, with one token more of backend b
abbrev pub with_faults : ℕ → ℕ → SeatView → SeatView
with_faults b n v = record v { faults = n; fault_tokens = b ∷ v.fault_tokens }

-- the seat of a cell after backend b failed once more
abbrev pub after_fault : ℕ → SeatView → SeatView
after_fault b v = with_faults b (one_fault_more v.faults) v

-- ---- at a pass

-- the seat of a pass that looked at the position word of backend b, which was n
abbrev pub after_looking : ℕ → ℕ → SeatView → SeatView
after_looking b n v = record v { looks = v.looks ++ (b, n) ∷ [] }

-- the word that tells the position, or that the backend is out
abbrev pub word_of_position : Option ℕ → ℕ
word_of_position None = max_word
word_of_position (Some p) = p

abbrev pub after_count : SeatView → SeatView
after_count v = record v { count = v.count + 1 }

-- the seat from which a pass was split off, with all tokens
abbrev pub after_split : SeatView → SeatView
after_split v = record v { fault_tokens = [] }

-- ---- where another seat is joined

abbrev pub longer_of : List Event → List Event → List Event
longer_of g h = cond (leb (length g) (length h)) h g

-- a seat with the notes and tokens of another added
abbrev pub with_notes : SeatView → SeatView → SeatView
with_notes v w = record v {
  front_before = v.front;
  front_joined = w.front;
  position_notes = v.position_notes ++ w.position_notes;
  fault_notes = v.fault_notes ++ w.fault_notes;
  count_notes = v.count_notes ++ w.count_notes;
  fault_tokens = v.fault_tokens ++ w.fault_tokens;
}

-- the seat after a join: with the notes and tokens of both, and the longer front
abbrev pub after_join : SeatView → SeatView → SeatView
after_join v w = record (with_notes v w) { front = longer_of v.front w.front }

-- the book's seat after a join: its front, which is the history, stays
abbrev pub after_learning : SeatView → SeatView → SeatView
after_learning v w = with_notes v w

-- ---- at the book's seat

abbrev pub one_cell_more : Role → Role
one_cell_more (Book m) = Book (suc m)
one_cell_more (Cell b p) = Cell b p
one_cell_more Pass = Pass

abbrev pub after_making_cell : SeatView → SeatView
after_making_cell v = record v { role = one_cell_more v.role }

-- the book's seat after the next session was given an own pass
abbrev pub after_opening : SeatView → SeatView
after_opening v = record v { given = next_session v ∷ v.given; last_given = next_session v }

-- the book's seat after an own pass was taken back
abbrev pub after_closing : SeatView → SeatView → SeatView
after_closing v w = record (with_notes v w) { given = filter (λ s. not (s == w.own_session)) v.given }
