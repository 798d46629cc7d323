-- Balancing: which of up to 16 backends a read is sent to, among the candidates of a mask.
use Rattle.std.specs.Prelude.{◌≡◌, ℕ, ◌+◌, ◌-◌, ◌*◌, ◌^◌, ◌<◌, ◌==◌, Bool, true, false, List, nat_lt, slice_index, slice_set, if◌then◌else◌, replicate, Option, None, Some}
use Rattle.cj_model.specs.declared.policy.Policy.{Policy}
use Rattle.cj_model.specs.declared.policy.Policy.TheVariants.{RoundRobin, Weighted, LeastPending}
use Rattle.cj_model.specs.declared.limits.TheConstants.{BACKEND_LIMIT}
use Rattle.cj_model.specs.Cluster.Masks.{in_mask}

-- the backend that was picked last, and of each backend how often it was used and how many of its reads are pending
pub record BalanceState : Type 0 where
  pub last : Option ℕ
  pub used : List ℕ
  pub pending : List ℕ

-- a balance: its policy, the weight of each backend, and the counts so far
pub record Balance : Type 0 where
  pub policy : Policy
  pub weights : List ℕ
  pub standing : BalanceState

-- 0 for each backend
abbrev pub zeros : List ℕ
zeros = replicate BACKEND_LIMIT 0

-- nothing was picked yet, and no read is pending
abbrev pub at_rest : BalanceState
at_rest = record { last = None; used = zeros; pending = zeros }

-- how many steps up it is from the last picked backend to b, where 0 comes after 15; 16 to the last picked itself
abbrev pub steps_from : ℕ → ℕ → ℕ
steps_from last b = if nat_lt last b then b - last else BACKEND_LIMIT + b - last

-- how many steps up it is to b from the last picked backend, or from 0 before any pick
abbrev pub steps_to : Option ℕ → ℕ → ℕ
steps_to None b = b
steps_to (Some last) b = steps_from last b

-- whether the policy prefers backend a to b: it comes sooner after the last picked,
-- or its used / weight is less as an exact fraction, or it has fewer reads pending
abbrev pub is_ahead : Policy → List ℕ → BalanceState → ℕ → ℕ → Bool
is_ahead RoundRobin weights s a b = nat_lt (steps_to s.last a) (steps_to s.last b)
is_ahead Weighted weights s a b = nat_lt (slice_index s.used a * slice_index weights b) (slice_index s.used b * slice_index weights a)
is_ahead LeastPending weights s a b = nat_lt (slice_index s.pending a) (slice_index s.pending b)

-- b is the first of the candidates: none is ahead of it, and it is ahead of each candidate with a lower number
pub record IsFirst (ahead : ℕ → ℕ → Bool) (candidates b : ℕ) : Type 0 where
  pub candidate : in_mask candidates b ≡ true
  pub none_ahead : (k : ℕ) → in_mask candidates k ≡ true → ahead k b ≡ false
  pub lower : (k : ℕ) → k < b → in_mask candidates k ≡ true → ahead b k ≡ true

-- the counts with one more at b, and below with one less
abbrev pub one_more : List ℕ → ℕ → List ℕ
one_more counts b = slice_set counts b (slice_index counts b + 1)

abbrev pub one_less : List ℕ → ℕ → List ℕ
one_less counts b = slice_set counts b (slice_index counts b - 1)

-- the counts, all set to 0 if one more at b would make 2^32
abbrev pub with_room : List ℕ → ℕ → List ℕ
with_room used b = if slice_index used b + 1 == 2 ^ 32 then zeros else used

-- how often each backend was used, after b was picked: only the weighted policy counts that
abbrev pub used_after : Policy → List ℕ → ℕ → List ℕ
used_after RoundRobin used b = used
used_after Weighted used b = one_more (with_room used b) b
used_after LeastPending used b = used

-- the counts after b was picked
abbrev pub picked : Policy → BalanceState → ℕ → BalanceState
picked policy s b = record s { last = Some b; used = used_after policy s.used b }

-- the policy picks b of the candidates, and leaves these counts; there is one such pick at most (`picks_one`)
pub record Picks (policy : Policy) (weights : List ℕ) (before : BalanceState) (candidates b : ℕ) (after : BalanceState) : Type 0 where
  pub first : IsFirst (is_ahead policy weights before) candidates b
  pub stands : after ≡ picked policy before b
