-- Backends that were just made, beside a store of dumps.
use Rattle.std.proofs.Common.{◌≡◌, refl, sym, ap, subst, ◌∙◌, Bool, true, false, List, [], length, ℕ, All, Some, None, Option, map, replicate}
use Rattle.std.specs.Prelude.{if◌then◌else◌}
use Rattle.std.proofs.lemmas.List.{length-map, length-replicate}
use Rattle.std.proofs.lemmas.List.Elements.{All-replicate}
use Rattle.cj_model.specs.declared.database.Slot.{Slot}
use Rattle.cj_mem.specs.MemoryBackends.{MemoryState, fresh_state, never_armed}
use Rattle.cj_beside.specs.Besides.{told_beside}
use Rattle.cj_beside.proofs.Wrapping.{of_wrapped}
use Rattle.cj_core.specs.Starts.{HaveBegunNone, state_by}
use Rattle.cj_top.proofs.NewBackends.{map_replicate}
use Rattle.cj_top.specs.Configured.{new_backend}

-- what is told of an empty one
told_empty : (kept : Bool) → told_beside kept (Some []) ≡ (if kept then Some [] else None)
told_empty true = refl
told_empty false = refl

module _ {X : Type 0} (inner : X → MemoryState) (kept : Bool) (n : ℕ) (xs : List X) (new : map inner xs ≡ replicate n fresh_state) where
  -- each is alike, in all that goes by the backend in it
  alike : {A : Type 0} (part : MemoryState → A) → map (λ (x : X). part (inner x)) xs ≡ replicate n (part fresh_state)
  alike part = of_wrapped inner part xs (replicate n fresh_state) new ∙ map_replicate part n fresh_state

  -- there are so many
  pub new_count : length xs ≡ n
  new_count = sym (length-map xs inner) ∙ (ap length new ∙ length-replicate n fresh_state)

  -- they are seen as new
  pub new_seen : map (state_by {X = X} (λ x. told_beside kept (inner x).told) (λ x. 0) (λ x. (inner x).asks) (λ x. (inner x).login) (λ x. never_armed)) xs ≡ replicate n (new_backend kept)
  new_seen =
      alike (λ (s : MemoryState). record { told = told_beside kept s.told; faults = 0; asks = s.asks; login = s.login; arming = never_armed })
      ∙ ap (λ (t : Option (List Slot)). replicate n (record { told = t; faults = 0; asks = 0; login = None; arming = never_armed })) (told_empty kept)

  -- where they tell what they hold, they hold nothing
  pub new_empty : kept ≡ true → All (λ (t : Option (List Slot)). t ≡ Some []) (map (λ (x : X). told_beside kept (inner x).told) xs)
  new_empty on =
      subst (All (λ (t : Option (List Slot)). t ≡ Some [])) (sym (alike (λ (s : MemoryState). told_beside kept s.told)))
      (All-replicate (λ (t : Option (List Slot)). t ≡ Some []) n (told_beside kept (Some [])) (told_empty kept ∙ ap (λ (t : Bool). if t then Some [] else None) on))

  -- and they have begun no transaction
  pub new_begun_none : HaveBegunNone (map (λ (x : X). (inner x).begun) xs)
  new_begun_none = subst HaveBegunNone (sym (alike (λ (s : MemoryState). s.begun))) (All-replicate (λ (ts : List ℕ). ts ≡ []) n [] refl)
