-- What contracts see of a source, a sink and a store in memory.
use Rattle.std.specs.Prelude.{ℕ, List, Result, Contains, ◌↔◌, ◌≡◌, ◌⊎◌}
use Rattle.cj_outside.specs.Causes.{next}

-- the bytes left or held, the numbers of the calls that are to fail, the calls so far and the faults so far
pub record State : Type 0 where
  pub bytes : List ℕ
  pub fails : List ℕ
  pub calls : ℕ
  pub faults : ℕ

-- the call has the next number, and fails exactly if that number is listed
pub record FailsAsListed {T E : Type 0} (IsFault : Result T E → Type 0) (old new : State) (result : Result T E) : Type 0 where
  pub list : new.fails ≡ old.fails
  pub number : new.calls ≡ next old.calls
  pub listed : IsFault result ↔ Contains old.fails new.calls

-- the call has the next number, and fails exactly if that number is listed or it would pass a limit
pub record FailsAsListedOr {T E : Type 0} (Passes : Type 0) (IsFault : Result T E → Type 0) (old new : State) (result : Result T E) : Type 0 where
  pub list : new.fails ≡ old.fails
  pub number : new.calls ≡ next old.calls
  pub listed : IsFault result ↔ Contains old.fails new.calls ⊎ Passes
