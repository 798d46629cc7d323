-- What a pass knows more after a call.
use Rattle.std.specs.Prelude.{◌≡◌, ℕ, ◌<◌, ◌≤◌, ◌⊎◌, Contains}
use mathlib.Core.List.{IsPrefix}
use Rattle.cj_board.specs.declared.view.SeatView.{SeatView}
use Rattle.cj_board.specs.Counting.{session_after}
use Rattle.cj_board.specs.Points.{fault_tokens_of}

-- it has seen as much or more, and counts the same session's events as before
pub record HasSeenMore (old new : SeatView) : Type 0 where
  pub front : IsPrefix old.front new.front
  pub own : new.own_session ≡ old.own_session
  pub count : new.count ≡ old.count

-- and it has each note and each fault token that it had
pub record HasNotedMore (old new : SeatView) : Type 0 where
  pub seen : HasSeenMore old new
  pub positions : (note : ℕ × ℕ) → Contains old.position_notes note → Contains new.position_notes note
  pub faults : (note : ℕ × ℕ) → Contains old.fault_notes note → Contains new.fault_notes note
  pub tokens : (b : ℕ) → fault_tokens_of b old.fault_tokens ≤ fault_tokens_of b new.fault_tokens

-- session n was given: there is a count note of it, or the front has an entry or a log failure of a session not below n
abbrev pub WasGiven : SeatView → ℕ → Type 0
WasGiven v n = ((k : ℕ) × Contains v.count_notes (n, k)) ⊎ (n < session_after 0 v.front)
