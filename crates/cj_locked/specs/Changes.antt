-- What becomes of an event that is no entry, from what a pass had seen to what it has seen then.
use Rattle.std.specs.Prelude.{◌≡◌, ◌<◌, Bool, true, false, List, [], ◌∷◌, ◌++◌, length, Result, Ok, Err}
use mathlib.Core.List.{IsPrefix}
use Rattle.cj_cluster.specs.declared.event.Event.{Event}
use Rattle.cj_cluster.specs.History.Histories.{events_left}
use Rattle.cj_book.specs.declared.error.BookError.{BookError}
use Rattle.cj_book.specs.declared.error.BookError.TheVariants.{InProgress, NoBackend, HistoryFull, LogFault, NoMemory}

-- the event came at history m, where `wanted` and where there was room; G is seen then
abbrev pub BringsAt : List Event → Event → Bool → Result Bool BookError → List Event → Type 0
BringsAt m x wanted (Ok true) G = (wanted ≡ true) × (0 < events_left m) × (G ≡ m ++ x ∷ [])
BringsAt m x wanted (Ok false) G = (wanted ≡ false) × (G ≡ m)
BringsAt m x wanted (Err (InProgress n)) G = ⊥
BringsAt m x wanted (Err NoBackend) G = ⊥
BringsAt m x wanted (Err (HistoryFull n)) G = (wanted ≡ true) × (events_left m < 1) × (n ≡ length m) × (G ≡ m)
BringsAt m x wanted (Err LogFault) G = ⊥
BringsAt m x wanted (Err NoMemory) G = ⊥

-- it came now, since the pass had seen F
pub record BringsSince (F G : List Event) (x : Event) (wanted : List Event → Bool) (result : Result Bool BookError) : Type 0 where
  pub m : List Event
  pub longer : IsPrefix F m
  pub at : BringsAt m x (wanted m) result G
