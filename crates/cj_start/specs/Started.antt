-- Where a start over an opened log leads.
use Rattle.std.specs.Prelude.{◌≡◌, ◌⊎◌, ℕ, ◌<◌, true, false, List, [], ◌∷◌, ◌++◌, All, filter, length, map, slice_get, Result, Ok, Err}
use Rattle.std.specs.List.{AllPairs, range_with_len}
use Rattle.std.specs.Option.{option_map}
use Rattle.std.specs.declared.option.Option.TheVariants.{None, Some}
use Rattle.cj_outside.specs.Causes.{next}
use Rattle.cj_model.specs.declared.request.Act.TheVariants as act
use Rattle.cj_model.specs.Cluster.Placements.{Placement}
use Rattle.cj_cluster.specs.declared.event.Event.{Event}
use Rattle.cj_cluster.specs.declared.event.Event.TheVariants.{Enabled, Ended, Sched}
use Rattle.cj_cluster.specs.History.Histories.{log, is_free, is_enabled}
use Rattle.cj_cluster.specs.Moves.Cores.{Core, position_at}
use Rattle.cj_cluster.specs.Moves.Moves.{entry_numbered, is_orphan, last_number, user_of}
use Rattle.cj_book.specs.declared.error.StartError.{StartError}
use Rattle.cj_book.specs.declared.error.StartError.TheVariants as errors
use Rattle.cj_book.specs.Starts.{greatest_session}
use Rattle.cj_state.specs.Beginnings.{opened_core}
use Rattle.cj_state.specs.Faults.{faults_of}
use Rattle.cj_state.specs.Worlds.{WorldState}
use mathlib.Core.List.{IsPrefix}

-- the numbers of the transactions that are open and whose sessions aren't, rising
abbrev pub orphans_of : Core → List ℕ
orphans_of c = filter (is_orphan c) (range_with_len 1 (length (log c.history)))

-- the history after the administrator ended this transaction; some backends failed in it, and none ran out of memory
abbrev pub with_abort : List Event → ℕ → ℕ → List Event
with_abort h tx failed = h ++ Sched (record { session = 0; seq = 0; tx = tx; user = user_of (entry_numbered (log h) tx); act = act.Abort }) ∷ Ended failed 0 ∷ []

-- the administrator ended each of these transactions, one after another
abbrev pub AbortsEach : List Event → List ℕ → List Event → Type 0
AbortsEach h [] z = z ≡ h
AbortsEach h (tx ∷ txs) z = (failed : ℕ) × AbortsEach (with_abort h tx failed) txs z

-- After a start a backend is enabled, has taken the whole log and has failed in nothing; or it failed, which it has
-- counted, and is out.
abbrev pub StandsAfterStart : List ℕ → WorldState → ℕ → Type 0
StandsAfterStart faults w b =
    ((is_enabled w.core.history b ≡ true) × (position_at w.core b ≡ Some (last_number w.core)) × (slice_get (faults_of w.cells) b ≡ slice_get faults b))
    ⊎ ((is_enabled w.core.history b ≡ false) × (position_at w.core b ≡ None) × (slice_get (faults_of w.cells) b ≡ option_map next (slice_get faults b)))

-- A start over a log that opens with this history: each backend replayed it, those that did not fail were enabled in
-- the order of their numbers, and then each transaction that was left open was ended. No session is open, and there
-- is no dump.
pub record HasStarted (p : Placement) (opening : List Event) (faults : List ℕ) (w : WorldState) : Type 0 where
  pub placement : w.core.placement ≡ p
  pub enabled : List ℕ
  pub rises : AllPairs (λ (a b : ℕ). a < b) enabled
  pub within : All (λ (b : ℕ). b < p.backends) enabled
  pub history : AbortsEach (opening ++ map Enabled enabled) (orphans_of (opened_core p opening)) w.core.history
  pub idle : is_free w.core.history ≡ true
  pub sessions : w.core.sessions ≡ []
  pub dumps : w.core.dumps ≡ []
  pub greatest : w.core.greatest ≡ greatest_session (log opening)
  pub cells : length w.cells ≡ p.backends
  pub backends : (b : ℕ) → b < p.backends → StandsAfterStart faults w b

-- a part of a start counts one fault of the log's store exactly if it answers that this failed; `NoMemory` is its
-- only other error
abbrev pub CountsFaultOfPart : {T : Type 0} → ℕ → Result T StartError → ℕ → Type 0
CountsFaultOfPart before (Ok x) now = now ≡ before
CountsFaultOfPart before (Err errors.StoreFault) now = now ≡ next before
CountsFaultOfPart before (Err errors.NoMemory) now = now ≡ before
CountsFaultOfPart before (Err (errors.BadRecord offset)) now = ⊥
CountsFaultOfPart before (Err (errors.BadEntry n)) now = ⊥

-- the history has grown, or is as before
abbrev pub IsLonger : WorldState → WorldState → Type 0
IsLonger old now = IsPrefix old.core.history now.core.history
