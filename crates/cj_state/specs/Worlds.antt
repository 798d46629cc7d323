-- What contracts see of a world, and what holds of every world.
use Rattle.std.specs.Prelude.{◌≡◌, ℕ, ◌<◌, ◌≤◌, Bool, true, List, [], length, map, All, slice_index_or}
use Rattle.cj_model.specs.declared.account.Account.{Account}
use Rattle.cj_model.specs.declared.request.Entry.{Entry}
use Rattle.cj_cluster.specs.declared.event.Event.{Event}
use Rattle.cj_cluster.specs.declared.moves.OpenSession.{OpenSession}
use Rattle.cj_model.specs.declared.limits.TheConstants.{BACKEND_LIMIT}
use Rattle.cj_model.specs.declared.policy.Policy.TheVariants.{RoundRobin}
use Rattle.cj_model.specs.Cluster.Balancing.{Balance, at_rest}
use Rattle.cj_model.specs.Cluster.Caching.{CacheState, empty_cache}
use Rattle.cj_model.specs.Cluster.Placements.{Placement, part}
use Rattle.cj_cluster.specs.History.Histories.{log, database_after}
use Rattle.cj_cluster.specs.Moves.Cores.{Core}
use Rattle.cj_cluster.specs.Proving.Invariants.{CoreInvariant, HasBegunDrafts, HoldsPart}
use Rattle.cj_cluster.specs.Moves.Runs.{AreBetween}
use Rattle.cj_cluster.specs.History.Freshness.{FollowsLog, IsFreshCache}
use Rattle.cj_auth.specs.Admission.{Register}
use Rattle.cj_place.specs.Layouts.{Layout, placement_of}
use Rattle.cj_dump.specs.declared.dump.Dump.{Dump}
use Rattle.cj_shelf.specs.MemoryShelves.{taken_of}
use Rattle.cj_log.specs.Logs.{LogState}
use Rattle.cj_book.specs.Books.{IsKeptIn}
use Rattle.cj_replica.specs.Cells.{CellState}

-- what no move changes: what the backends are called, and the accounts of the users
pub record Setup : Type 0 where
  pub names : List (List ℕ)
  pub accounts : Register

-- what is seen of the recovery log: the faults that its store has counted, and the bytes that the store holds
pub record LogView : Type 0 where
  pub faults : ℕ
  pub bytes : List ℕ

-- what contracts see of a world: the state that moves change, the cells by the numbers of their backends, what no
-- move changes, the recovery log, the result cache, and what the balancer knows of its picks
pub record WorldState : Type 0 where
  pub core : Core
  pub cells : List CellState
  pub setup : Setup
  pub recovery_log : LogView
  pub cache : CacheState
  pub balance : Balance

-- what is seen of a log
abbrev pub log_view : {S : Type 0} → (S → ℕ) → (S → List ℕ) → LogState S → LogView
log_view faults held log = record { faults = faults log.store; bytes = held log.store }

-- the world with this log
abbrev pub with_log : WorldState → LogView → WorldState
with_log w log = record w { recovery_log = log }

-- the world with this cache
abbrev pub with_cache : WorldState → CacheState → WorldState
with_cache w cache = record w { cache = cache }

-- the world with this balance
abbrev pub with_balance : WorldState → Balance → WorldState
with_balance w balance = record w { balance = balance }

-- the world's cache has fresh answers alone
abbrev pub IsFresh : Bool → WorldState → Type 0
IsFresh tells w = IsFreshCache tells (log w.core.history) w.cache

-- from one world to the other the cache has followed the log
abbrev pub CacheFollowsLog : WorldState → WorldState → Type 0
CacheFollowsLog old new = FollowsLog (log old.core.history) (log new.core.history) old.cache new.cache

-- the world is as before, but maybe for its log
abbrev pub IsSameWorldButLog : WorldState → WorldState → Type 0
IsSameWorldButLog old new = new ≡ with_log old new.recovery_log

-- the log's bytes keep the entries and markers of the history
abbrev pub KeepsHistory : WorldState → Type 0
KeepsHistory w = IsKeptIn w.recovery_log.bytes w.core.history

-- the accounts of the users
abbrev pub accounts_of : WorldState → List Account
accounts_of w = w.setup.accounts.accounts

-- the state of a core over these cells, of backends laid out so, with these dumps
abbrev pub core_of : Layout → List Event → List CellState → ℕ → ℕ → List OpenSession → ℕ → List Dump → Core
core_of l h cells failed starved sessions greatest dumps =
    record {
      placement = placement_of l;
      history = h;
      positions = map (λ (x : CellState). x.position) cells;
      begun = map (λ (x : CellState). x.begun) cells;
      failed = failed;
      starved = starved;
      sessions = sessions;
      greatest = greatest;
      dumps = map taken_of dumps;
    }

-- what is seen of a log without bytes
abbrev pub unseen_log : LogView
unseen_log = record { faults = 0; bytes = [] }

-- a balancer without backends
abbrev pub unseen_balance : Balance
unseen_balance = record { policy = RoundRobin; weights = []; standing = at_rest }

-- the world of these parts, with no log, cache or balance seen
abbrev pub world_of : Register → Layout → List Event → List CellState → ℕ → ℕ → List OpenSession → ℕ → List Dump → WorldState
world_of register l h cells failed starved sessions greatest dumps =
    record { core = core_of l h cells failed starved sessions greatest dumps; cells = cells; setup = record { names = l.names; accounts = register }; recovery_log = unseen_log; cache = empty_cache 0; balance = unseen_balance }

-- backend b's cell, which holds its part of the database after the entries that it has taken
pub record IsCell (tells : Bool) (p : Placement) (entries : List Entry) (b : ℕ) (x : CellState) : Type 0 where
  pub number : x.b ≡ b
  pub placement : x.placement ≡ p
  pub holds : HoldsPart tells p b entries x.told x.position
  pub drafts : HasBegunDrafts tells p b entries x.begun x.position

-- a dump of what its backend held after the entries that it had taken
pub record IsDumpOf (tells : Bool) (p : Placement) (entries : List Entry) (d : Dump) : Type 0 where
  pub within : d.position ≤ length entries
  pub holds : tells ≡ true → d.db ≡ part p d.source (database_after entries d.position)

-- each is a dump of what its backend held after the entries that it had taken
abbrev pub AreDumpsOf : Bool → Placement → List Entry → List Dump → Type 0
AreDumpsOf tells p entries dumps = All (IsDumpOf tells p entries) dumps

-- What holds of every world: its core is sound, cell b is that of backend b and at the position that the core says,
-- and each session is between two replies.
pub record IsWorld (tells : Bool) (w : WorldState) : Type 0 where
  pub sound : CoreInvariant w.core
  pub named : length w.setup.names ≡ w.core.placement.backends
  -- each account has a login at each backend
  pub registered : w.setup.accounts.backends ≡ w.core.placement.backends
  pub few : w.core.placement.backends ≤ BACKEND_LIMIT
  pub positions : w.core.positions ≡ map (λ (x : CellState). x.position) w.cells
  pub begun : w.core.begun ≡ map (λ (x : CellState). x.begun) w.cells
  pub cells : (b : ℕ) (d : CellState) → b < length w.cells → IsCell tells w.core.placement (log w.core.history) b (slice_index_or w.cells b d)
  pub between : AreBetween w.core
