-- A cluster that threads share: of what it is made, and what it is taken apart into.
use Rattle.std.specs.Prelude.{◌≡◌, ℕ, ◌+◌, Bool, true, List, [], ◌∷◌, length}
use Rattle.std.specs.declared.option.Option.{Option}
use Rattle.std.specs.declared.option.Option.TheVariants.{Some}
use Rattle.atomic_table.specs.Seated.{TableId}
use Rattle.cj_auth.specs.Admission.{Register}
use Rattle.cj_book.specs.BookLogs.{BookLogState, LogFollows}
use Rattle.cj_book.specs.Seated.{SeatedBook}
use Rattle.cj_cluster.specs.declared.event.Event.{Event}
use Rattle.cj_cluster.specs.History.Histories.{database_after, is_enabled, is_free, log}
use Rattle.cj_dump.specs.declared.dump.Dump.{Dump}
use Rattle.cj_log.specs.declared.item.LogItem.{LogItem}
use Rattle.cj_model.specs.declared.database.Slot.{Slot}
use Rattle.cj_model.specs.Cluster.Placements.{Placement, part}
use Rattle.cj_recovery.specs.Openings.{OpensTo}
use Rattle.cj_replica.specs.Seated.{SeatedCell}
use Rattle.cj_start.specs.Started.{HasStarted}
use Rattle.cj_state.specs.Sharing.{IsTakenApart, NumbersFollowHistory}
use Rattle.cj_state.specs.Worlds.{WorldState, IsFresh, IsWorld}

-- The parts of a world that has just started: `World::start` and `World::into_shared` give each of these facts. The
-- pass and the seats are at one board.
pub record AreOfStarted {S : Type 0} (tells logged : Bool) (count : S → ℕ) (id pass : TableId) (b : SeatedBook) (l : BookLogState S) (xs : List SeatedCell) (register : Register) (taken : List Dump) : Type 0 where
  pub world : WorldState
  pub sound : IsWorld tells world
  pub fresh : IsFresh tells world
  pub numbers : NumbersFollowHistory world
  pub items : List LogItem
  pub opening : List Event
  pub opens : OpensTo items opening
  pub placement : Placement
  pub faults : List ℕ
  pub started : HasStarted placement opening faults world
  pub apart : IsTakenApart tells world id pass b xs register taken
  pub follows : LogFollows logged count l b.state.history

-- each has as its number how many come after it, and k more
abbrev pub FallTo : {X : Type 0} → (X → ℕ) → ℕ → List X → Type 0
FallTo number k [] = Unit {0}
FallTo number k (x ∷ xs) = (number x ≡ length xs + k) × FallTo number k xs

-- each is right for its place, which is counted from k
abbrev pub HoldFrom : {X : Type 0} → (ℕ → X → Type 0) → ℕ → List X → Type 0
HoldFrom P k [] = Unit {0}
HoldFrom P k (x ∷ xs) = P k x × HoldFrom P (k + 1) xs

-- backend b, which holds this, has its part of the one database, if it is enabled in history h and no entry is open
abbrev pub IsCurrentAt : Bool → Placement → List Event → ℕ → Option (List Slot) → Type 0
IsCurrentAt tells p h b told = tells ≡ true → is_free h ≡ true → is_enabled h b ≡ true → told ≡ Some (part p b (database_after (log h) (length (log h))))
