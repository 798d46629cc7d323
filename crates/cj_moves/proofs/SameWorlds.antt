-- What calls and starts both say of a world: how many cells it has, and what is the same in it.
use Rattle.std.proofs.Common.{◌≡◌, ℕ, Bool, List, [], ◌∷◌, length, slice_get, Some, refl, ap, sym, ◌∙◌, ⊎_elim, ◌⊎◌, inl, inr, zero, suc, set}
use Rattle.cj_replica.specs.Cells.{CellState}
use Rattle.cj_state.proofs.Common.{Core}
use Rattle.cj_state.specs.Worlds.{IsWorld, WorldState, IsSameWorldButLog, with_cache, with_log}
use Rattle.std.proofs.lemmas.List.{length-map}
use Rattle.cj_model.specs.Cluster.Caching.{CacheState}
use Rattle.cj_state.specs.Effects.{with_core}

-- there are as many cells as backends
pub cells_count : (tells : Bool) (w : WorldState) → IsWorld tells w → length w.cells ≡ w.core.placement.backends
cells_count tells w world = sym (length-map w.cells (λ (x : CellState). x.position)) ∙ (ap length (sym world.positions) ∙ world.sound.cells)

-- a place of a list is as before, or it is the one that was set
pub got_or_set : {A : Type 0} (xs : List A) (b k : ℕ) (v : A) → (slice_get (set xs b v) k ≡ slice_get xs k) ⊎ ((k ≡ b) × (slice_get (set xs b v) k ≡ Some v))
got_or_set [] b k v = inl refl
got_or_set (x ∷ xs) zero zero v = inr (refl, refl)
got_or_set (x ∷ xs) zero (suc k) v = inl refl
got_or_set (x ∷ xs) (suc b) zero v = inl refl
got_or_set (x ∷ xs) (suc b) (suc k) v = ⊎_elim (λ e. inl e) (λ here. inr (ap suc here.0, here.1)) (got_or_set xs b k v)

-- the whole world, from its core, its cache and its log
module _ (old new : WorldState) (core : Core) (same : IsSameWorldButLog (with_cache (with_core old new.core) new.cache) new) (core_is : new.core ≡ core) where
  pub with_same_cache : new.cache ≡ old.cache → IsSameWorldButLog (with_core old core) new
  with_same_cache cache =
      same
      ∙ (ap (λ (k : Core). with_log (with_cache (with_core old k) new.cache) new.recovery_log) core_is
      ∙ ap (λ (q : CacheState). with_log (with_cache (with_core old core) q) new.recovery_log) cache)
