-- The parts of a start.
use Rattle.std.specs.Prelude.{◌≡◌, ◌≢◌, ◌⊎◌, ℕ, ◌+◌, ◌<◌, ◌≤◌, Bool, true, false, is_some, List, ◌++◌, filter, map, slice_get, All}
use Rattle.std.specs.List.{AllPairs, range_with_len}
use Rattle.std.specs.Option.{option_map}
use Rattle.std.specs.declared.option.Option.{Option}
use Rattle.std.specs.declared.option.Option.TheVariants.{None, Some}
use Rattle.cj_model.specs.Cluster.Masks.{in_mask}
use Rattle.cj_outside.specs.Causes.{next}
use Rattle.cj_cluster.specs.declared.event.Event.TheVariants.{Enabled}
use Rattle.cj_cluster.specs.History.Histories.{log, is_free, is_enabled}
use Rattle.cj_cluster.specs.Moves.Cores.{Core, position_at}
use Rattle.cj_cluster.specs.Moves.Moves.{happened, is_orphan, last_number}
use Rattle.cj_state.specs.Effects.{with_core}
use Rattle.cj_state.specs.Faults.{faults_of}
use Rattle.cj_state.specs.Worlds.{WorldState}
use Rattle.cj_start.specs.Started.{with_abort, AbortsEach, StandsAfterStart}

-- ---- what is seen of one backend

-- the backend is at the position of before, and has counted no fault more
pub record IsSameAt (old now : WorldState) (b : ℕ) : Type 0 where
  pub position : position_at now.core b ≡ position_at old.core b
  pub faults : slice_get (faults_of now.cells) b ≡ slice_get (faults_of old.cells) b

-- the backend has taken so many entries, and has counted these faults and no more
pub record HasTaken (faults : List ℕ) (w : WorldState) (b p : ℕ) : Type 0 where
  pub position : position_at w.core b ≡ Some p
  pub counted : slice_get (faults_of w.cells) b ≡ slice_get faults b

-- the backend is out, and has counted one fault more than these
pub record HasFailedOut (faults : List ℕ) (w : WorldState) (b : ℕ) : Type 0 where
  pub position : position_at w.core b ≡ None
  pub counted : slice_get (faults_of w.cells) b ≡ option_map next (slice_get faults b)

-- ---- backends replay the log

-- nothing has changed but the cells and positions of backends
pub record OnlyReplays (old now : WorldState) : Type 0 where
  pub core : now.core ≡ record old.core { positions = now.core.positions; begun = now.core.begun }
  pub setup : now.setup ≡ old.setup
  pub recovery_log : now.recovery_log ≡ old.recovery_log
  pub cache : now.cache ≡ old.cache
  pub balance : now.balance ≡ old.balance

-- the backend carried out the entry after its position, or failed in it, and no other backend has changed
pub record TookNext (old now : WorldState) (b : ℕ) : Type 0 where
  pub others : (k : ℕ) → k ≢ b → IsSameAt old now k
  pub p : ℕ
  pub stood : position_at old.core b ≡ Some p
  pub here : HasTaken (faults_of old.cells) now b (p + 1) ⊎ HasFailedOut (faults_of old.cells) now b

-- the backend has taken the whole log, or failed in it
abbrev pub HasReplayed : List ℕ → WorldState → ℕ → Type 0
HasReplayed faults w b = HasTaken faults w b (last_number w.core) ⊎ HasFailedOut faults w b

-- ---- backends are enabled

-- the core after the backend was enabled, unless it is out
abbrev pub enabled_where : Option ℕ → ℕ → Core → Core
enabled_where None b c = c
enabled_where (Some p) b c = happened c (Enabled b)

-- Of the backends below i, those that are not out were enabled, in the order of their numbers.
pub record EnabledTo (old now : WorldState) (i : ℕ) : Type 0 where
  pub enabled : List ℕ
  pub rises : AllPairs (λ (a b : ℕ). a < b) enabled
  pub below : All (λ (b : ℕ). b < i) enabled
  pub after : now ≡ with_core old (record old.core { history = old.core.history ++ map Enabled enabled })
  pub idle : is_free now.core.history ≡ true
  pub entries : log now.core.history ≡ log old.core.history
  pub on : (b : ℕ) → b < i → is_enabled now.core.history b ≡ is_some (position_at old.core b)
  pub off : (b : ℕ) → i ≤ b → is_enabled now.core.history b ≡ false

-- ---- the open entry, which ends a transaction

-- nothing has changed but the cells and positions of backends, and the masks of the open entry
pub record OnlyTakes (old now : WorldState) : Type 0 where
  pub core : now.core ≡ record old.core { positions = now.core.positions; begun = now.core.begun; failed = now.core.failed; starved = now.core.starved }
  pub setup : now.setup ≡ old.setup
  pub recovery_log : now.recovery_log ≡ old.recovery_log
  pub cache : now.cache ≡ old.cache
  pub balance : now.balance ≡ old.balance

-- the backend is as before, also in the mask of those that failed
pub record IsUntouched (old now : WorldState) (b : ℕ) : Type 0 where
  pub same : IsSameAt old now b
  pub mask : in_mask now.core.failed b ≡ in_mask old.core.failed b

-- the backend is enabled and has yet to take the open entry
pub record IsDue (faults : List ℕ) (w : WorldState) (b : ℕ) : Type 0 where
  pub on : is_enabled w.core.history b ≡ true
  pub p : ℕ
  pub taken : HasTaken faults w b p
  pub next : last_number w.core ≡ p + 1
  pub unmasked : in_mask w.core.failed b ≡ false

-- the backend was out before the entry came
pub record WasOut (faults : List ℕ) (w : WorldState) (b : ℕ) : Type 0 where
  pub off : is_enabled w.core.history b ≡ false
  pub out : HasFailedOut faults w b
  pub unmasked : in_mask w.core.failed b ≡ false

-- the backend is enabled and has taken the open entry
pub record HasDone (faults : List ℕ) (w : WorldState) (b : ℕ) : Type 0 where
  pub on : is_enabled w.core.history b ≡ true
  pub taken : HasTaken faults w b (last_number w.core)
  pub unmasked : in_mask w.core.failed b ≡ false

-- the backend is enabled and failed in the open entry
pub record FailedInIt (faults : List ℕ) (w : WorldState) (b : ℕ) : Type 0 where
  pub on : is_enabled w.core.history b ≡ true
  pub out : HasFailedOut faults w b
  pub masked : in_mask w.core.failed b ≡ true

-- the backend has yet to take the open entry, or was out before it
abbrev pub StandsBefore : List ℕ → WorldState → ℕ → Type 0
StandsBefore faults w b = IsDue faults w b ⊎ WasOut faults w b

-- the backend has taken the open entry, failed in it, or was out before it
abbrev pub StandsBehind : List ℕ → WorldState → ℕ → Type 0
StandsBehind faults w b = HasDone faults w b ⊎ FailedInIt faults w b ⊎ WasOut faults w b

-- a backend before the open entry is then past it
abbrev pub TakesPast : WorldState → WorldState → ℕ → Type 0
TakesPast old now b = (faults : List ℕ) → StandsBefore faults old b → StandsBehind faults now b

-- ---- transactions are ended

-- each backend is as after a start, with these faults counted before it
abbrev pub AllStand : List ℕ → WorldState → Type 0
AllStand faults w = (b : ℕ) → b < w.core.placement.backends → StandsAfterStart faults w b

-- each backend is as after a start, with some faults counted before it
abbrev pub AreStanding : WorldState → Type 0
AreStanding w = (faults : List ℕ) × AllStand faults w

-- placement, sessions, accounts and cache are as before
pub record IsSameCluster (old now : WorldState) : Type 0 where
  pub placement : now.core.placement ≡ old.core.placement
  pub sessions : now.core.sessions ≡ old.core.sessions
  pub greatest : now.core.greatest ≡ old.core.greatest
  pub dumps : now.core.dumps ≡ old.core.dumps
  pub setup : now.setup ≡ old.setup
  pub cache : now.cache ≡ old.cache
  pub balance : now.balance ≡ old.balance

-- the administrator ended the transaction, by an entry that has ended
pub record TransactionEnded (tx : ℕ) (old now : WorldState) : Type 0 where
  pub failed : ℕ
  pub history : now.core.history ≡ with_abort old.core.history tx failed
  pub idle : is_free now.core.history ≡ true
  pub same : IsSameCluster old now
  pub stands : (faults : List ℕ) → AllStand faults old → AllStand faults now

-- the administrator ended the transaction, if it was open
abbrev pub EndedWhere : Bool → ℕ → WorldState → WorldState → Type 0
EndedWhere true tx old now = TransactionEnded tx old now
EndedWhere false tx old now = now ≡ old

-- the transactions with a number of at most i that were open were ended, one after another
pub record EndedTo (old now : WorldState) (i : ℕ) : Type 0 where
  pub history : AbortsEach old.core.history (filter (is_orphan old.core) (range_with_len 1 i)) now.core.history
  pub later : (tx : ℕ) → i < tx → tx ≤ last_number old.core → is_orphan now.core tx ≡ is_orphan old.core tx
  pub longer : last_number old.core ≤ last_number now.core
  pub idle : is_free now.core.history ≡ true
  pub same : IsSameCluster old now
  pub stands : (faults : List ℕ) → AllStand faults old → AllStand faults now
  pub uncalled : last_number old.core ≡ 0 → now.cells ≡ old.cells
