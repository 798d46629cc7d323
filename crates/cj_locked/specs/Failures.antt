-- What becomes of a failure in a query, from what a pass had seen to what it has seen then.
use Rattle.std.specs.Prelude.{◌≡◌, ℕ, ◌<◌, List, [], ◌∷◌, ◌++◌, length}
use mathlib.Core.List.{IsPrefix}
use Rattle.cj_model.specs.declared.request.Request.TheVariants as request
use Rattle.cj_model.specs.declared.select.Select.{Select}
use Rattle.cj_model.specs.Cluster.Placements.{Placement}
use Rattle.cj_cluster.specs.declared.event.Event.{Event}
use Rattle.cj_cluster.specs.declared.event.Event.TheVariants.{ReadFailed}
use Rattle.cj_cluster.specs.History.Answering.{HasNoServer, HasServer}
use Rattle.cj_cluster.specs.History.Histories.{events_left}
use Rattle.cj_locked.specs.declared.failure.ReadFailure.{ReadFailure}
use Rattle.cj_locked.specs.declared.failure.ReadFailure.TheVariants.{Noted, Full, Unserved}

-- at history m backend b failed in request q of session s: the event came, or there was no room for it; G is seen then
abbrev pub FailsAt : Placement → List Event → ℕ → ℕ → ℕ → Select → ReadFailure → List Event → Type 0
FailsAt p m s q b select Noted G = (0 < events_left m) × (G ≡ m ++ ReadFailed s q b ∷ [])
FailsAt p m s q b select (Full n) G = (events_left m < 1) × (n ≡ length m) × (G ≡ m) × HasServer p m (request.Select select)
FailsAt p m s q b select Unserved G = (events_left m < 1) × (G ≡ m) × HasNoServer p m (request.Select select)

-- it came now, since the pass had seen F
pub record FailsSince (p : Placement) (F G : List Event) (s q b : ℕ) (select : Select) (result : ReadFailure) : Type 0 where
  pub m : List Event
  pub longer : IsPrefix F m
  pub at : FailsAt p m s q b select result G
