-- What a backend gives that is asked for all that it holds, and what the pass that heard of it knows.
use Rattle.std.specs.Prelude.{◌≡◌, ◌⊎◌, ℕ, ◌<◌, ◌≤◌, Bool, true, List, length, Contains}
use Rattle.std.specs.declared.result.Result.{Result}
use Rattle.std.specs.declared.result.Result.TheVariants.{Ok, Err}
use Rattle.cj_model.specs.declared.database.Slot.{Slot}
use Rattle.cj_model.specs.Cluster.Placements.{Placement, part}
use Rattle.cj_model.specs.Database.Storable.{IsStorable}
use Rattle.cj_cluster.specs.History.Histories.{database_after, log}
use Rattle.cj_board.specs.declared.view.SeatView.{SeatView}
use Rattle.cj_board.specs.Points.{max_word}
use Rattle.cj_replica.specs.declared.replica.CellError.{CellError}
use Rattle.cj_replica.specs.declared.replica.CellError.TheVariants.{Failed, Starved}

-- a new fault note of backend b stands above each that the pass had, or the fault word rises no more
pub record NotesFault (b : ℕ) (old new : SeatView) : Type 0 where
  pub count : ℕ
  pub noted : Contains new.fault_notes (b, count)
  pub higher : (max_word ≤ count) ⊎ ((k : ℕ) → Contains old.fault_notes (b, k) → k < count)

-- what backend b gives at position n of the log that the pass has seen then: its part of the database there, if it tells
-- what it holds; if it failed, the pass has noted a fault more
abbrev pub GivesPart : Bool → Placement → ℕ → ℕ → SeatView → SeatView → Result (List Slot) CellError → Type 0
GivesPart tells p b n old new (Ok db) = IsStorable db × (n ≤ length (log new.front)) × (tells ≡ true → db ≡ part p b (database_after (log new.front) n))
GivesPart tells p b n old new (Err Failed) = NotesFault b old new
GivesPart tells p b n old new (Err Starved) = Unit {0}
