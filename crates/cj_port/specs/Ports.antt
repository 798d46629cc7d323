-- What contracts see of a port in memory.
use Rattle.std.specs.Prelude.{◌≡◌, ◌↔◌, ◌⊎◌, ℕ, List, [], ◌∷◌, Result, Ok, Err, Contains, IsErr}
use Rattle.cj_outside.specs.declared.source.Failed.{Failed}
use Rattle.cj_outside.specs.Causes.{next}

-- the connections left, how many were given, the numbers of the calls that are to fail, the calls and the faults so far
pub record PortState (C : Type 0) : Type 0 where
  pub left : List C
  pub accepted : ℕ
  pub fails : List ℕ
  pub calls : ℕ
  pub faults : ℕ

-- the first connection left is given; at a failure all are left
abbrev pub GivesNext : {C : Type 0} → List C → List C → Result C Failed → Type 0
GivesNext left left' (Ok connection) = left ≡ connection ∷ left'
GivesNext left left' (Err _) = left' ≡ left

-- the call has the next number, and fails exactly if that number is listed or no connection is left
pub record FailsAsListedOrEmpty {C : Type 0} (old new : PortState C) (result : Result C Failed) : Type 0 where
  pub list : new.fails ≡ old.fails
  pub number : new.calls ≡ next old.calls
  pub listed : IsErr result ↔ Contains old.fails new.calls ⊎ (old.left ≡ [])
