-- What contracts see of a book behind its lock.
use Rattle.std.specs.Prelude.{◌≡◌, ℕ, ◌<◌, ◌≤◌, ◌⊎◌, Bool, true, Contains, IfSome}
use Rattle.std.specs.declared.option.Option.{Option}
use Rattle.std.specs.declared.option.Option.TheVariants.{None}
use Rattle.atomic_table.specs.Seated.{TableId}
use Rattle.cj_model.specs.declared.limits.TheConstants.{SESSION_NUMBER_LIMIT}
use Rattle.cj_cluster.specs.History.Histories.{is_free}
use Rattle.cj_place.specs.Layouts.{Layout}
use Rattle.cj_board.specs.declared.view.SeatView.{SeatView}
use Rattle.cj_board.specs.Counting.{session_after}
use Rattle.cj_book.specs.BookLogs.{BookLogState, LogFollows}
use Rattle.cj_book.specs.Seated.{GivesOwnPassesOnly, SeatedBook}
use Rattle.cj_locked.specs.Turns.{turn_amount}

-- a book, and its recovery log where nobody has the turn
pub record LockedState (S : Type 0) : Type 0 where
  pub book : SeatedBook
  pub log : Option (BookLogState S)

-- where nobody has the turn, no entry is open and nothing is pending, and the log follows the history
pub record IsVacant {S : Type 0} (tells : Bool) (count : S → ℕ) (book : SeatedBook) (l : BookLogState S) : Type 0 where
  pub idle : is_free book.state.history ≡ true
  pub unpending : book.pending ≡ None
  pub follows : LogFollows tells count l book.state.history

-- the last session that was given an own pass, where one was, is in range and has a count note, unless the history has
-- a session not below
pub record LastIsNoted (v : SeatView) : Type 0 where
  pub known : (v.last_given < session_after 0 v.front) ⊎ ((k : ℕ) × (v.last_given ≤ SESSION_NUMBER_LIMIT) × Contains v.count_notes (v.last_given, k))

-- It is the book of this board and this layout, each of whose sessions was opened with an own pass. The ledger's total
-- is the turn's amount.
pub record IsLocked {S : Type 0} (board : TableId) (layout : Layout) (tells : Bool) (count : S → ℕ) (total : ℕ) (x : LockedState S) : Type 0 where
  pub on : x.book.board ≡ board
  pub laid : x.book.state.layout ≡ layout
  pub gives : GivesOwnPassesOnly x.book
  pub counted : total ≡ turn_amount x.book.state.history x.book.pending
  pub vacant : IfSome x.log (IsVacant tells count x.book)
  pub noted : LastIsNoted x.book.view
