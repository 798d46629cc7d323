-- What a balancer keeps, and what its search for the first candidate knows.
use Rattle.std.specs.Prelude.{◌≡◌, ℕ, ◌^◌, ◌<◌, ◌≤◌, Bool, true, false, List, length, slice_index, Option, None, Some, IfSome}
use Rattle.cj_model.specs.Cluster.Masks.{in_mask}
use Rattle.cj_model.specs.Cluster.Balancing.{Balance, is_ahead}
use Rattle.cj_model.specs.declared.limits.TheConstants.{BACKEND_LIMIT}
use Rattle.cj_balance.specs.declared.balancer.TheConstants.{MOST_WEIGHT}

-- each weight is 1 to 1,000
abbrev pub AreWeights : List ℕ → Type 0
AreWeights weights = (k : ℕ) → k < BACKEND_LIMIT → (0 < slice_index weights k) × (slice_index weights k ≤ MOST_WEIGHT)

-- there is a count for each of 16 backends, which fits 32 bits
abbrev pub AreCounts : List ℕ → Type 0
AreCounts counts = (length counts ≡ BACKEND_LIMIT) × ((k : ℕ) → k < BACKEND_LIMIT → slice_index counts k < 2 ^ 32)

-- the weights, the last picked backend and both counts are those of 16 backends
pub record KeepsBalance (weights : List ℕ) (last : Option ℕ) (used pending : List ℕ) : Type 0 where
  pub weight_count : length weights ≡ BACKEND_LIMIT
  pub weighted : AreWeights weights
  pub below : IfSome last (λ b. b < BACKEND_LIMIT)
  pub uses : AreCounts used
  pub pendings : AreCounts pending

-- b is the first of the candidates below a limit
pub record IsFirstBelow (ahead : ℕ → ℕ → Bool) (candidates limit b : ℕ) : Type 0 where
  pub below : b < limit
  pub candidate : in_mask candidates b ≡ true
  pub none_ahead : (k : ℕ) → k < limit → in_mask candidates k ≡ true → ahead k b ≡ false
  pub lower : (k : ℕ) → k < b → in_mask candidates k ≡ true → ahead b k ≡ true

-- the answer is the first of the candidates below a limit, or that there are none
abbrev pub FirstBelow : (ℕ → ℕ → Bool) → ℕ → ℕ → Option ℕ → Type 0
FirstBelow ahead candidates limit None = (k : ℕ) → k < limit → in_mask candidates k ≡ false
FirstBelow ahead candidates limit (Some b) = IsFirstBelow ahead candidates limit b

abbrev pub IsFirstOrNone : Balance → ℕ → ℕ → Option ℕ → Type 0
IsFirstOrNone b candidates limit first = FirstBelow (is_ahead b.policy b.weights b.standing) candidates limit first
