-- What the moves of one backend keep: the placement, the requests that each session has made, how often backends were enabled, and the faults of the log's store.
use Rattle.std.proofs.Common.{◌≡◌, ◌∙◌, refl, sym, ap, subst, ℕ, ◌+◌, add-zero, cond, Bool, List, [], ◌∷◌, ◌++◌, Ok, Err, arith}
use Rattle.std.specs.Prelude.{count_by}
use Rattle.std.proofs.lemmas.List.Sums.{sum_by-append}
use Rattle.cj_workload.proofs.Common.{Core, session_at, WorldState}
use Rattle.cj_cluster.specs.declared.event.Event.{Event}
use Rattle.cj_cluster.specs.declared.event.Event.TheVariants as event
use Rattle.cj_cluster.specs.declared.moves.Move.{Move}
use Rattle.cj_cluster.specs.declared.moves.Move.TheVariants.{Arm, Disable, Replay, Enable, Dump, Load}
use Rattle.cj_cluster.specs.declared.moves.Moved.TheVariants as moved
use Rattle.cj_cluster.specs.declared.moves.MoveError.TheVariants.{NoMemory}
use Rattle.cj_core.proofs.Common.{Arms, Disables, DoesMove, Dumps, Enables, Loads, MoveResult, MovesTo, Replays, happened, not_now}
use Rattle.cj_core.specs.Solos.{SoloState}
use Rattle.cj_moves.specs.Counting.{HasLogCauses}
use Rattle.cj_cluster.proofs.Soundness.{by_reason}
use Rattle.cj_workload.specs.Proving.Keeping.{IsOfBackend, KeepsSolo, enabled_by}
use Rattle.cj_workload.specs.Summaries.{enablings, is_enabling}

-- from one core to another so many backends were enabled, and no request was made
pub record KeepsCore (enabled : ℕ) (c z : Core) : Type 0 where
  pub placement : z.placement ≡ c.placement
  pub requests : (s : ℕ) → (session_at z s).requests ≡ (session_at c s).requests
  pub counted : enablings z.history ≡ enablings c.history + enabled

-- events more
pub grown : (h more : List Event) (n : ℕ) → enablings more ≡ n → enablings (h ++ more) ≡ enablings h + n
grown h more n is = sum_by-append (λ (e : Event). cond (is_enabling e) 1 0) h more ∙ ap (λ (k : ℕ). enablings h + k) is

module _ (tells : Bool) (c z : Core) where
  same_core : KeepsCore 0 c c
  same_core = record { placement = refl; requests = λ s. refl; counted = omega arith }

  as_it_was : z ≡ c → KeepsCore 0 c z
  as_it_was is = subst (λ (x : Core). KeepsCore 0 c x) (sym is) same_core

  -- an event more
  with_event : (e : Event) (n : ℕ) → count_by is_enabling (e ∷ []) ≡ n → z ≡ happened c e → KeepsCore n c z
  with_event e n is same =
      subst (λ (x : Core). KeepsCore n c x) (sym same) (record { placement = refl; requests = λ s. refl; counted = grown c.history (e ∷ []) n is })

  arms : (g : MoveResult) → Arms c g z → KeepsCore (enabled_by g) c z
  arms (Ok moved.Armed) h = as_it_was h
  arms _ h = absurd h

  disables : (b : ℕ) (g : MoveResult) → Disables c b g z → KeepsCore (enabled_by g) c z
  disables b (Ok moved.Disabled) h = with_event (event.Disabled b) 0 refl h.1
  disables b (Ok (moved.Refused r)) h = as_it_was h.2
  disables b _ h = absurd h

  enables : (b : ℕ) (g : MoveResult) → Enables c b g z → KeepsCore (enabled_by g) c z
  enables b (Ok moved.Enabled) h = with_event (event.Enabled b) 1 refl h.1
  enables b (Ok (moved.Refused r)) h = as_it_was h.2
  enables b _ h = absurd h

  replays : (b : ℕ) (g : MoveResult) → Replays tells c b g z → KeepsCore (enabled_by g) c z
  replays b (Ok (moved.Replayed n d)) h = subst (λ (x : Core). KeepsCore 0 c x) (sym h.1.2) (record { placement = refl; requests = λ s. refl; counted = omega arith })
  replays b _ h = absurd h

  dumps : (b : ℕ) (name : List ℕ) (g : MoveResult) → Dumps c b name g z → KeepsCore (enabled_by g) c z
  dumps b name (Ok (moved.Dumped n)) h = subst (λ (x : Core). KeepsCore 0 c x) (sym h.1) (record { placement = refl; requests = λ s. refl; counted = omega arith })
  dumps b name (Ok moved.Failed) h = as_it_was h
  dumps b name (Err NoMemory) h = as_it_was h
  dumps b name _ h = absurd h

  loads : (b : ℕ) (name : List ℕ) (g : MoveResult) → Loads tells c b name g z → KeepsCore (enabled_by g) c z
  loads b name (Ok (moved.Loaded n)) h = subst (λ (x : Core). KeepsCore 0 c x) (sym h.after) (record { placement = refl; requests = λ s. refl; counted = omega arith })
  loads b name (Ok moved.Failed) h = as_it_was h
  loads b name (Ok moved.Starved) h = as_it_was h
  loads b name _ h = absurd h

  does : (m : Move) (g : MoveResult) → IsOfBackend m → DoesMove tells c m g z → KeepsCore (enabled_by g) c z
  does (Arm b) g kind h = arms g h
  does (Disable b) g kind h = disables b g h
  does (Replay b) g kind h = replays b g h
  does (Enable b) g kind h = enables b g h
  does (Dump b name) g kind h = dumps b name g h
  does (Load b name) g kind h = loads b name g h
  does _ g kind h = absurd kind

  -- any move of one backend
  pub keeps_moved : (m : Move) (g : MoveResult) → IsOfBackend m → MovesTo tells c m g z → KeepsCore (enabled_by g) c z
  keeps_moved m g kind h = by_reason (not_now c m) (DoesMove tells c m g z) (KeepsCore (enabled_by g) c z) g c z h (λ now t. does m g kind t) (λ why is same. subst (λ (r : MoveResult). KeepsCore (enabled_by r) c z) (sym is) (as_it_was same))

-- ---- a session

-- such a move writes nothing to the log
log_kept : (m : Move) (g : MoveResult) (old new : WorldState) → IsOfBackend m → HasLogCauses old new m g → new.recovery_log.faults ≡ old.recovery_log.faults
log_kept (Arm b) g old new kind h = h
log_kept (Disable b) g old new kind h = h
log_kept (Replay b) g old new kind h = h
log_kept (Enable b) g old new kind h = h
log_kept (Dump b name) g old new kind h = h
log_kept (Load b name) g old new kind h = h
log_kept _ g old new kind h = absurd kind

module _ (tells : Bool) (a z : SoloState) where
  -- a move
  pub keeps_made : (m : Move) (g : MoveResult) → IsOfBackend m → MovesTo tells a.world.core m g z.world.core → HasLogCauses a.world z.world m g → z.session ≡ a.session → KeepsSolo 0 (enabled_by g) a z
  keeps_made m g kind moves log_causes session =
      let kept = keeps_moved tells a.world.core z.world.core m g kind moves in
      record {
        placement = kept.placement;
        session = session;
        requests = kept.requests z.session ∙ (ap (λ (s : ℕ). (session_at a.world.core s).requests) session ∙ sym (add-zero _));
        counted = kept.counted;
        log_faults = log_kept m g a.world z.world kind log_causes;
      }

-- one after another
pub keeps_both : (n m i j : ℕ) (a b z : SoloState) → KeepsSolo n i a b → KeepsSolo m j b z → KeepsSolo (n + m) (i + j) a z
keeps_both n m i j a b z h k =
    let q = h.requests in
    let r = k.requests in
    let e = h.counted in
    let f = k.counted in
    record { placement = k.placement ∙ h.placement; session = k.session ∙ h.session; requests = omega (arith, q, r); counted = omega (arith, e, f); log_faults = k.log_faults ∙ h.log_faults }
