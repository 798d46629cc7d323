-- An entry at the backends.
use Rattle.std.specs.Prelude.{◌≡◌, ◌⊎◌, ℕ, ◌||◌, Bool, true, false, List, [], ◌∷◌, ◌++◌}
use Rattle.cj_model.specs.declared.request.Act.{Act}
use Rattle.cj_model.specs.declared.request.Entry.{Entry}
use Rattle.cj_model.specs.Cluster.Masks.{in_mask}
use Rattle.cj_cluster.specs.declared.event.Event.{Event}
use Rattle.cj_cluster.specs.declared.event.Event.TheVariants.{Sched, Ended}
use Rattle.cj_cluster.specs.History.Histories.{log, is_enabled, masks_of_ends}
use Rattle.cj_cluster.specs.History.Turns.{Call, entry_of_call}
use Rattle.cj_cluster.specs.Moves.Cores.{Core}
use Rattle.cj_cluster.specs.Moves.Moves.{takes_part_in}
use Rattle.cj_state.specs.Asking.{asks_of}
use Rattle.cj_state.specs.CalledLogins.{logins_of}
use Rattle.cj_state.specs.Worlds.{WorldState, accounts_of}
use Rattle.cj_calls.specs.CalledBackends.{CallsExactly, mask_with}

-- backend b is enabled, and takes part in the entry
abbrev pub IsPartOf : Core → Entry → ℕ → Type 0
IsPartOf c e b = (is_enabled c.history b ≡ true) × (takes_part_in c b e ≡ true)

-- whether a backend is in the mask of those that failed in an entry, or of those that ran out of memory in it
abbrev pub is_masked : ℕ → ℕ → ℕ → Bool
is_masked failed starved b = in_mask failed b || in_mask starved b

-- The entry was handed to each enabled backend. Those that took part in it and are in neither mask did it for the
-- call's user.
pub record HandsOutEntry (s : ℕ) (c : Call) (act : Act) (failed : List ℕ) (old new : WorldState) : Type 0 where
  pub starved : ℕ
  pub ended : new.core.history ≡ old.core.history ++ Sched (entry_of_call s c act) ∷ Ended (mask_with 0 failed) starved ∷ []
  pub logins : CallsExactly (accounts_of old) c.user (λ b. IsPartOf old.core (entry_of_call s c act) b × (is_masked (mask_with 0 failed) starved b ≡ false)) (λ b. is_masked (mask_with 0 failed) starved b ≡ true)
      (logins_of old.cells) (logins_of new.cells)

-- From one history to the other an entry ended, and in it the backends of this mask ran out of memory; or none ended,
-- and the mask is 0.
abbrev pub EndsStarving : ℕ → List Event → List Event → Type 0
EndsStarving starved h g = ((failed : ℕ) × (masks_of_ends g ≡ masks_of_ends h ++ (failed, starved) ∷ [])) ⊎ ((starved ≡ 0) × (masks_of_ends g ≡ masks_of_ends h))

-- Nothing was scheduled, and no backend was called.
pub record CallsNone (old new : WorldState) : Type 0 where
  pub unscheduled : log new.core.history ≡ log old.core.history
  pub cells : new.cells ≡ old.cells

-- a write asks no backend a query, and the balancer picks none for it
pub record CarriesOut (s : ℕ) (c : Call) (act : Act) (failed : List ℕ) (old new : WorldState) : Type 0 where
  pub handed : CallsNone old new ⊎ HandsOutEntry s c act failed old new
  pub asks : asks_of new.cells ≡ asks_of old.cells
  pub balance : new.balance ≡ old.balance
