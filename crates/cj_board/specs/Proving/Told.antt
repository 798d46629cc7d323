-- What a step at a word tells the seat that makes it. `st` is the step, `m` the seat before, `n` the number found,
-- and `m'` the seat after.
use Rattle.std.specs.Prelude.{◌≡◌, ◌≢◌, ℕ, ◌+◌, ◌*◌, ◌<◌, ◌≤◌, length, Contains}
use mathlib.Core.Option.{some}
use mathlib.Core.List.{IsPrefix}
use Rattle.atomic_table.specs.Table.{Me, Step}
use Rattle.cj_cluster.specs.declared.event.Event.{Event}
use Rattle.cj_cluster.specs.History.Legality.{IsLegal}
use Rattle.cj_model.specs.declared.limits.TheConstants.{EVENT_LIMIT}
use Rattle.cj_board.specs.declared.view.SeatView.{SeatView}
use Rattle.cj_board.specs.Counting.{event_count_of}
use Rattle.cj_board.specs.Points.{max_word, IsInLog, StandsAtEnd}
use Rattle.cj_board.specs.Views.{IsBook, IsCellOf, role_position}
use Rattle.cj_board.specs.Steps.{after_append, at_position, with_faults, after_looking, after_count}

abbrev pub SeatNow : Type 0
SeatNow = Me Event SeatView

abbrev pub StepNow : Type 0
StepNow = Step Event

abbrev pub ToldAppend : StepNow → SeatNow → ℕ → SeatNow → Type 0
ToldAppend st m n m' = (e : Event) → st.said ≡ some e → m' ≡ (after_append e m.0, m.1)

abbrev pub ToldAdvance : StepNow → SeatNow → ℕ → SeatNow → Type 0
ToldAdvance st m n m' = (m' ≡ (at_position (n + 1) m.0, m.1)) × (n ≡ role_position m.0.role) × (n < EVENT_LIMIT)

abbrev pub ToldStoredPosition : StepNow → SeatNow → ℕ → SeatNow → Type 0
ToldStoredPosition st m n m' = m' ≡ (at_position n m.0, m.1)

abbrev pub ToldPosition : StepNow → SeatNow → ℕ → SeatNow → Type 0
ToldPosition st m n m' = (b : ℕ) → st.word ≡ 2 * b + 1 → (m' ≡ (after_looking b n m.0, m.1)) × (n ≢ max_word → n ≤ EVENT_LIMIT)

abbrev pub ToldStoredFaults : StepNow → SeatNow → ℕ → SeatNow → Type 0
ToldStoredFaults st m n m' = (b : ℕ) → st.word ≡ 2 * b + 2 → m' ≡ (with_faults b n m.0, m.1)

abbrev pub ToldFaults : StepNow → SeatNow → ℕ → SeatNow → Type 0
ToldFaults st m n m' = (m' ≡ m) × (n ≡ m.0.faults)

-- the fronts of the last join begin the front, which is legal; the book gave each session whose count it has noted
abbrev pub ToldFronts : StepNow → SeatNow → ℕ → SeatNow → Type 0
ToldFronts st m n m' = (m' ≡ m) × IsPrefix m.0.front_before m.0.front × IsPrefix m.0.front_joined m.0.front × IsLegal m.0.front × (IsBook m.0.role → (s k : ℕ) → Contains m.0.count_notes (s, k) → s ≤ m.0.last_given)

-- what the rule says of backend b, at its cell's seat: the faults that are noted of it, and its position
pub record ToldOfCell (b : ℕ) (v : SeatView) : Type 0 where
  pub faults : (n : ℕ) → Contains v.fault_notes (b, n) → n ≤ v.faults
  pub within : IsInLog (role_position v.role) v.front
  pub stands : StandsAtEnd b (role_position v.role) v.front v.front

abbrev pub ToldCell : StepNow → SeatNow → ℕ → SeatNow → Type 0
ToldCell st m n m' = (m' ≡ m) × ((b : ℕ) → IsCellOf b m.0.role → ToldOfCell b m.0)

abbrev pub ToldCountUp : StepNow → SeatNow → ℕ → SeatNow → Type 0
ToldCountUp st m n m' = m' ≡ (after_count m.0, m.1)

-- the session of an own pass has no more events than were counted
abbrev pub ToldCount : StepNow → SeatNow → ℕ → SeatNow → Type 0
ToldCount st m n m' = (m' ≡ m) × (0 < m.0.own_session → event_count_of m.0.own_session m.0.front ≤ m.0.count)

-- the seat has seen no more events than there are
abbrev pub ToldEvents : StepNow → SeatNow → ℕ → SeatNow → Type 0
ToldEvents st m n m' = (m' ≡ m) × (length m.0.front ≤ n)
