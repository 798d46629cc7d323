-- What contracts see of a book's recovery log, and what holds between the log and the history.
use Rattle.std.specs.Prelude.{◌≡◌, ◌⊎◌, ℕ, ◌+◌, ◌-◌, ◌^◌, ◌≤◌, Bool, true, List, length, Result, Ok, Err}
use Rattle.cj_cluster.specs.declared.event.Event.{Event}
use Rattle.cj_board.specs.Counting.{log_failure_sessions}
use Rattle.cj_log.specs.Logs.{LogState}
use Rattle.cj_recovery.specs.Openings.{items_of}
use Rattle.cj_book.specs.declared.error.StartError.{StartError}
use Rattle.cj_book.specs.Books.{BookState, last_write_failed}
use Rattle.cj_book.specs.Seated.{SeatedBook}

-- A book's recovery log. Beside it, how many faults its store had counted when the book was opened.
pub record BookLogState (S : Type 0) : Type 0 where
  pub log : LogState S
  pub faults_at_opening : ℕ

-- while the count of the log's store rose from `before` to `now`, it failed no more often than that; or the count
-- stands at its last value
abbrev pub HasCountedLogFaults : List Event → ℕ → ℕ → Type 0
HasCountedLogFaults h before now = (length (log_failure_sessions h) + before ≤ now) ⊎ (now ≡ 2 ^ 64 - 1)

-- The log follows the history: its items are the history's entries and markers. Its store has counted each failure
-- that the history tells of.
pub record LogFollows {S : Type 0} (tells : Bool) (count : S → ℕ) (l : BookLogState S) (h : List Event) : Type 0 where
  pub logged : tells ≡ true → items_of h ≡ l.log.items
  -- the gate behind the items is torn only behind a write that failed
  pub gate : tells ≡ true → l.log.torn ≡ true → last_write_failed h ≡ true
  pub faults : HasCountedLogFaults h l.faults_at_opening (count l.log.store)

-- what an opening found, but for the seat
abbrev pub opened_state : {S : Type 0} → Result (SeatedBook × BookLogState S) (StartError × S) → Result (BookState × LogState S) (StartError × S)
opened_state (Ok (book, l)) = Ok (book.state, l.log)
opened_state (Err e) = Err e
