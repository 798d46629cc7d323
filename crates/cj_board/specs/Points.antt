-- The board's rule: what holds between any two steps, one definition for each point.
-- Word 0 is the length of the history. Word 2 b + 1 is the position of backend b, or says that it is out.
-- Word 2 b + 2 is its number of faults.
-- Each seat has a number, in the order in which they were made, and a view.
use Rattle.std.specs.Prelude.{◌≡◌, ◌≢◌, ◌⊎◌, ℕ, suc, ◌+◌, ◌*◌, ◌<◌, ◌≤◌, ◌==◌, true, List, [], length, slice_index, count_by, sum_by, All, Contains}
use mathlib.Core.Option.{some}
use mathlib.Core.List.{IsPrefix}
use lib.ListN.{get_elem?}
use Rattle.atomic_table.specs.Table.{State}
use Rattle.cj_cluster.specs.declared.event.Event.{Event}
use Rattle.cj_cluster.specs.History.Histories.{log, is_free, is_enabled, failures_noted}
use Rattle.cj_cluster.specs.History.Legality.{IsLegal}
use Rattle.cj_board.specs.declared.view.SeatView.{SeatView}
use Rattle.cj_board.specs.declared.view.Role.{Role}
use Rattle.cj_board.specs.declared.view.Role.TheVariants.{Book, Cell, Pass}
use Rattle.cj_board.specs.Counting.{event_count_of}

-- the position word of a backend that is out, and the fault word that rises no more
abbrev pub max_word : ℕ
max_word = 18446744073709551615

abbrev pub position_word : List ℕ → ℕ → ℕ
position_word ws b = slice_index ws (2 * b + 1)

abbrev pub fault_word : List ℕ → ℕ → ℕ
fault_word ws b = slice_index ws (2 * b + 2)

-- what holds of the number and the view of each seat
abbrev pub AtEachSeat : List SeatView → (ℕ → SeatView → Type 0) → Type 0
AtEachSeat vs F = (j : ℕ) (v : SeatView) → get_elem? vs j ≡ some v → F j v

-- ---- who has which seat

-- `who 0` is the book's seat, which has seen the whole history; `who (b + 1)` is that of backend b's cell, once made
abbrev pub HasSeat : ℕ → ℕ → (ℕ → ℕ) → List Event → ℕ → Role → List Event → Type 0
HasSeat n made who h j (Book m) front = (j ≡ who 0) × (m ≡ made) × (front ≡ h)
HasSeat n made who h j (Cell b p) front = (j ≡ who (suc b)) × (b < made) × (b < n)
HasSeat n made who h j Pass front = Unit {0}

-- One book at most, and one cell at most for each of the backends below `made`. The words of the others are 0.
pub record SeatsAreKnown (n made : ℕ) (who : ℕ → ℕ) (h : List Event) (ws : List ℕ) (vs : List SeatView) : Type 0 where
  pub words : length ws ≡ 2 * n + 1
  pub positions : (b : ℕ) → made ≤ b → position_word ws b ≡ 0
  pub faults : (b : ℕ) → made ≤ b → fault_word ws b ≡ 0
  pub seats : AtEachSeat vs (λ j v. HasSeat n made who h j v.role v.front)

-- ---- each front is a beginning of the one history

-- the front begins the history, and those of the last join begin it
abbrev pub BeginsHistory : List Event → SeatView → Type 0
BeginsHistory h v = IsPrefix v.front h × IsPrefix v.front_before v.front × IsPrefix v.front_joined v.front

-- The history is legal, its length is the first word, and what each seat has seen begins it.
pub record FrontsBeginHistory (h : List Event) (ws : List ℕ) (vs : List SeatView) : Type 0 where
  pub count : length h ≡ slice_index ws 0
  pub legal : IsLegal h
  pub fronts : AtEachSeat vs (λ j v. BeginsHistory h v)

-- ---- positions are in the log

abbrev pub IsInLog : ℕ → List Event → Type 0
IsInLog p h = p ≢ max_word → p ≤ length (log h)

-- a cell knows its position, which is in the log that it has seen
abbrev pub KnowsPosition : List ℕ → Role → List Event → Type 0
KnowsPosition ws (Book m) front = Unit {0}
KnowsPosition ws (Cell b p) front = (p ≡ position_word ws b) × IsInLog p front
KnowsPosition ws Pass front = Unit {0}

-- Each backend is out, or its position is in the log; and each cell knows its own.
pub record PositionsAreInLog (h : List Event) (ws : List ℕ) (vs : List SeatView) : Type 0 where
  pub in_log : (b : ℕ) → IsInLog (position_word ws b) h
  pub known : AtEachSeat vs (λ j v. KnowsPosition ws v.role v.front)

-- ---- enabled backends have the whole log

-- While no entry is open, each enabled backend is at the end of the log.
abbrev pub EnabledAreAtEnd : List Event → List ℕ → Type 0
EnabledAreAtEnd h ws = is_free h ≡ true → (b : ℕ) → is_enabled h b ≡ true → position_word ws b ≡ length (log h)

-- ---- cells were at the end of the log

-- Wherever history h was idle with backend b enabled, p is the end of the log at that moment,
-- or a longer log was seen.
abbrev pub StandsAtEnd : ℕ → ℕ → List Event → List Event → Type 0
StandsAtEnd b p front h = (m : List Event) → IsPrefix m h → is_free m ≡ true → is_enabled m b ≡ true → (p ≡ length (log m)) ⊎ (length (log m) < length (log front))

abbrev pub CellStandsAtEnd : List Event → Role → List Event → Type 0
CellStandsAtEnd h (Book m) front = Unit {0}
CellStandsAtEnd h (Cell b p) front = StandsAtEnd b p front h
CellStandsAtEnd h Pass front = Unit {0}

-- Wherever no entry was open and its backend was enabled, a cell is at the end of that log, or has seen a longer one.
-- A cell that is not made yet is at 0.
pub record CellsStandAtEnd (made : ℕ) (h : List Event) (vs : List SeatView) : Type 0 where
  pub cells : AtEachSeat vs (λ j v. CellStandsAtEnd h v.role v.front)
  pub unmade : (b : ℕ) → made ≤ b → StandsAtEnd b 0 [] h

-- ---- notes of positions

-- backend b was at n: n is in the log, and if that is still its end, b is still there
abbrev pub IsPositionNote : List Event → List ℕ → ℕ × ℕ → Type 0
IsPositionNote h ws x = (x.1 ≤ length (log h)) × (length (log h) ≡ x.1 → position_word ws x.0 ≡ x.1)

-- Each note of a position still holds.
abbrev pub PositionNotesHold : List Event → List ℕ → List SeatView → Type 0
PositionNotesHold h ws vs = AtEachSeat vs (λ j v. All (IsPositionNote h ws) v.position_notes)

-- ---- what is said to have failed did fail

-- backend b had n faults
abbrev pub IsFaultNote : List ℕ → ℕ × ℕ → Type 0
IsFaultNote ws x = x.1 ≤ fault_word ws x.0

-- a cell knows how many faults its backend had
abbrev pub KnowsFaults : List ℕ → Role → ℕ → Type 0
KnowsFaults ws (Book m) faults = Unit {0}
KnowsFaults ws (Cell b p) faults = faults ≡ fault_word ws b
KnowsFaults ws Pass faults = Unit {0}

-- how many tokens are of backend b
abbrev pub fault_tokens_of : ℕ → List ℕ → ℕ
fault_tokens_of b tokens = count_by (λ t. t == b) tokens

abbrev pub all_fault_tokens_of : ℕ → List SeatView → ℕ
all_fault_tokens_of b vs = sum_by (λ (v : SeatView). fault_tokens_of b v.fault_tokens) vs

-- Each note of faults holds. Unless its fault word is full, a backend had a fault of its own for each failure
-- that the history notes of it, and for each token.
pub record FailuresHaveFaults (h : List Event) (ws : List ℕ) (vs : List SeatView) : Type 0 where
  pub notes : AtEachSeat vs (λ j v. All (IsFaultNote ws) v.fault_notes)
  pub known : AtEachSeat vs (λ j v. KnowsFaults ws v.role v.faults)
  pub covered : (b : ℕ) → fault_word ws b ≢ max_word → failures_noted h b + all_fault_tokens_of b vs ≤ fault_word ws b

-- ---- own passes count their sessions' events

-- the book knows which sessions have an own pass, and which was given last
abbrev pub KnowsGiven : List ℕ → ℕ → Role → List ℕ → ℕ → Type 0
KnowsGiven given last (Book m) g l = (g ≡ given) × (l ≡ last)
KnowsGiven given last (Cell b p) g l = Unit {0}
KnowsGiven given last Pass g l = Unit {0}

-- the own pass of session s had count n, and has no less now
abbrev pub IsCountNote : ℕ → (ℕ → ℕ) → ℕ × ℕ → Type 0
IsCountNote last count_of x = (x.1 ≤ count_of x.0) × (x.0 ≤ last)

-- `holder s` is the one seat that has the own pass of session s, and `count_of s` its count
pub record CountsSessions (given : List ℕ) (last : ℕ) (holder count_of : ℕ → ℕ) (j : ℕ) (v : SeatView) : Type 0 where
  pub book : KnowsGiven given last v.role v.given v.last_given
  pub own : 0 < v.own_session → (j ≡ holder v.own_session) × (v.count ≡ count_of v.own_session) × Contains given v.own_session
  pub notes : All (IsCountNote last count_of) v.count_notes

-- A session that was given an own pass has no more events in the history than the pass has counted.
-- No other seat has that pass, and no note of its count is higher.
pub record OwnPassesCount (h : List Event) (vs : List SeatView) : Type 0 where
  pub given : List ℕ
  pub last : ℕ
  pub holder : ℕ → ℕ
  pub count_of : ℕ → ℕ
  pub seats : AtEachSeat vs (CountsSessions given last holder count_of)
  pub counted : (s : ℕ) → Contains given s → event_count_of s h ≤ count_of s
  pub members : All (λ s. s ≤ last) given

-- ---- all of it

pub record IsKept (n made : ℕ) (who : ℕ → ℕ) (h : List Event) (ws : List ℕ) (vs : List SeatView) : Type 0 where
  pub known : SeatsAreKnown n made who h ws vs
  pub begin : FrontsBeginHistory h ws vs
  pub positions : PositionsAreInLog h ws vs
  pub notes : PositionNotesHold h ws vs
  pub enabled : EnabledAreAtEnd h ws
  pub ends : CellsStandAtEnd made h vs
  pub faults : FailuresHaveFaults h ws vs
  pub counts : OwnPassesCount h vs

-- the rule of a board with n backends
pub record IsKeptBoard (n : ℕ) (s : State Event SeatView) : Type 0 where
  pub made : ℕ
  pub who : ℕ → ℕ
  pub history : List Event
  pub kept : IsKept n made who history s.words s.views
