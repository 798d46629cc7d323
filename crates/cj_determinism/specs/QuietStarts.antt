-- Starts over a log in which no backend failed.
use Rattle.std.specs.Prelude.{◌≡◌, ℕ, ◌+◌, List, []}
use Rattle.cj_model.specs.Cluster.Placements.{Placement}
use Rattle.cj_cluster.specs.declared.event.Event.{Event}
use Rattle.cj_cluster.specs.Moves.Moves.{opened_for}
use Rattle.cj_log.specs.declared.item.LogItem.{LogItem}
use Rattle.cj_recovery.specs.Openings.{OpensTo}
use Rattle.cj_state.specs.Effects.{with_core}
use Rattle.cj_state.specs.Faults.{faults_of}
use Rattle.cj_state.specs.Worlds.{WorldState}
use Rattle.cj_core.specs.QuietCalls.{CanCountMore}
use Rattle.cj_core.specs.Solos.{SoloState}
use Rattle.cj_start.specs.Started.{HasStarted}

-- a start over a log with these items, in which no backend counted a fault, where each could
pub record StartsQuietly (p : Placement) (items : List LogItem) (w : WorldState) : Type 0 where
  pub opening : List Event
  pub opens : OpensTo items opening
  pub faults : List ℕ
  pub started : HasStarted p opening faults w
  pub can_count : CanCountMore faults
  pub none_counted : faults_of w.cells ≡ faults

-- the session that is opened first at a world
abbrev pub first_session : WorldState → SoloState
first_session w = record { world = with_core w (opened_for w.core []); session = w.core.greatest + 1 }
