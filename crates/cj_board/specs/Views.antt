-- Views of the seats that are made, and of those that are split off others.
use Rattle.std.specs.Prelude.{◌≡◌, ◌≢◌, ℕ, ◌<◌, ◌≤◌, leb, eqb, cond, List, [], ◌∷◌, ◌++◌, All}
use Rattle.cj_board.specs.declared.view.SeatView.{SeatView}
use Rattle.cj_board.specs.declared.view.Role.{Role}
use Rattle.cj_board.specs.declared.view.Role.TheVariants.{Book, Cell, Pass}
use Rattle.cj_board.specs.Counting.{session_after}
use Rattle.cj_board.specs.Points.{max_word}

-- ---- roles

-- the position of a cell
abbrev pub role_position : Role → ℕ
role_position (Book m) = 0
role_position (Cell b p) = p
role_position Pass = 0

-- how many cells the book has made
abbrev pub cells_made : Role → ℕ
cells_made (Book m) = m
cells_made (Cell b p) = 0
cells_made Pass = 0

abbrev pub IsBook : Role → Type 0
IsBook r = r ≡ Book (cells_made r)

abbrev pub IsCellOf : ℕ → Role → Type 0
IsCellOf b r = r ≡ Cell b (role_position r)

abbrev pub IsPass : Role → Type 0
IsPass r = r ≡ Pass

abbrev pub IsNotBook : Role → Type 0
IsNotBook r = (m : ℕ) → r ≢ Book m

-- ---- sessions

-- the sessions that were given an own pass are above 0, and none is above the last
abbrev pub AreGiven : List ℕ → ℕ → Type 0
AreGiven given last = All (λ s. (0 < s) × (s ≤ last)) given

-- ---- views that know nothing yet

abbrev pub new_view : Role → SeatView
new_view r = record {
  role = r;
  front = [];
  front_before = [];
  front_joined = [];
  position_notes = [];
  fault_notes = [];
  count_notes = [];
  fault_tokens = [];
  faults = 0;
  own_session = 0;
  count = 0;
  given = [];
  last_given = 0;
  looks = [];
}

-- the book of an empty history, with so many cells made
abbrev pub book_with_cells : ℕ → SeatView
book_with_cells m = new_view (Book m)

abbrev pub empty_pass : SeatView
empty_pass = new_view Pass

abbrev pub next_cell : Role → Role
next_cell (Book m) = Cell m 0
next_cell (Cell b p) = Pass
next_cell Pass = Pass

-- the next cell that the book makes
abbrev pub next_cell_of : SeatView → SeatView
next_cell_of v = new_view (next_cell v.role)

-- ---- passes cut from a view

-- what a cell notes of its position, unless it is out
abbrev pub position_note_of : Role → List (ℕ × ℕ)
position_note_of (Book m) = []
position_note_of (Cell b p) = cond (leb max_word p) [] ((b, p) ∷ [])
position_note_of Pass = []

-- what a cell notes of its faults
abbrev pub fault_note_of : Role → ℕ → List (ℕ × ℕ)
fault_note_of (Book m) faults = []
fault_note_of (Cell b p) faults = (b, faults) ∷ []
fault_note_of Pass faults = []

-- what an own pass notes of its count
abbrev pub count_note_of : ℕ → ℕ → List (ℕ × ℕ)
count_note_of own count = cond (eqb own 0) [] ((own, count) ∷ [])

-- a pass split off a seat, with its front and notes
abbrev pub pass_without_tokens : SeatView → SeatView
pass_without_tokens v = record empty_pass {
  front = v.front;
  position_notes = v.position_notes ++ position_note_of v.role;
  fault_notes = v.fault_notes ++ fault_note_of v.role v.faults;
  count_notes = v.count_notes ++ count_note_of v.own_session v.count;
}

-- a pass split off a seat, with its front, notes and fault tokens
abbrev pub pass_of : SeatView → SeatView
pass_of v = record (pass_without_tokens v) { fault_tokens = v.fault_tokens }

abbrev pub next_session : SeatView → ℕ
next_session v = session_after v.last_given v.front

-- the own pass of the next session, split off the book's seat
abbrev pub own_pass_of : SeatView → SeatView
own_pass_of v = record (pass_without_tokens v) { own_session = next_session v }
