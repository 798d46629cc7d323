-- How a world begins.
use Rattle.std.specs.Prelude.{◌≡◌, ℕ, ◌<◌, Bool, true, List, [], All, length, replicate, slice_index_or}
use Rattle.std.specs.declared.option.Option.{Option}
use Rattle.std.specs.declared.option.Option.TheVariants.{Some}
use Rattle.cj_model.specs.declared.database.Slot.{Slot}
use Rattle.cj_cluster.specs.declared.event.Event.{Event}
use Rattle.cj_cluster.specs.History.Histories.{log}
use Rattle.cj_model.specs.Cluster.Placements.{Placement}
use Rattle.cj_cluster.specs.Moves.Cores.{Core}
use Rattle.cj_replica.specs.Cells.{CellState}
use Rattle.cj_book.specs.Starts.{greatest_session}

-- The core at the opening of a log: no backend has taken an entry or is enabled, and no session is open. Session
-- numbers go on above the greatest in the log.
abbrev pub opened_core : Placement → List Event → Core
opened_core p h =
    record {
      placement = p;
      history = h;
      positions = replicate p.backends (Some 0);
      begun = replicate p.backends [];
      failed = 0;
      starved = 0;
      sessions = [];
      greatest = greatest_session (log h);
      dumps = [];
    }

-- the cell of backend b, which has taken no entry
pub record IsFresh (p : Placement) (b : ℕ) (x : CellState) : Type 0 where
  pub number : x.b ≡ b
  pub placement : x.placement ≡ p
  pub position : x.position ≡ Some 0
  pub begun : x.begun ≡ []

-- the cells of the backends by their numbers, none of which has taken an entry
pub record AreFresh (p : Placement) (cells : List CellState) : Type 0 where
  pub as_many : length cells ≡ p.backends
  pub each : (b : ℕ) (d : CellState) → b < length cells → IsFresh p b (slice_index_or cells b d)

-- if contents are visible, each backend is empty
abbrev pub AreEmpty : Bool → List (Option (List Slot)) → Type 0
AreEmpty tells told = tells ≡ true → All (λ (t : Option (List Slot)). t ≡ Some []) told
