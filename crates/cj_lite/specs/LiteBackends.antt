-- What contracts see of a backend over SQLite, and what its calls begin and end with.
use Rattle.std.specs.Prelude.{◌≡◌, ℕ, false, List, [], ◌∷◌, ◌++◌}
use Rattle.std.specs.declared.option.Option.{Option}
use Rattle.std.specs.declared.option.Option.TheVariants.{None, Some}
use Rattle.std.specs.declared.result.Result.{Result}
use Rattle.std.specs.declared.result.Result.TheVariants.{Ok, Err}
use Rattle.cj_outside.specs.Causes.{next}
use Rattle.cj_model.specs.declared.database.Slot.{Slot}
use Rattle.cj_backend.specs.declared.backend.BackendError.{BackendError}
use Rattle.cj_backend.specs.declared.backend.BackendError.TheVariants as backend
use Rattle.cj_backend.specs.Backends.{Arming}
use Rattle.cj_lite_tables.specs.declared.error.LiteError.{LiteError}
use Rattle.cj_lite_tables.specs.declared.error.LiteError.TheVariants as lite

-- the counts of a backend over SQLite; contracts see nothing of what it holds
pub record LiteState : Type 0 where
  pub faults : ℕ
  pub asks : ℕ
  pub begun : List ℕ
  pub login : Option (List ℕ)

-- the state of a new backend, which has counted nothing
abbrev pub fresh_state : LiteState
fresh_state = record { faults = 0; asks = 0; begun = []; login = None }

-- what a backend over SQLite tells of its contents: nothing
abbrev pub untold : Option (List Slot)
untold = None

-- the arming of a backend over SQLite, which can't be armed
abbrev pub never_armed : Arming
never_armed = record { armed = false; times = 0 }

-- a call is entered under this login, or an allocation fails and the state is unchanged
abbrev pub Enters : LiteState → List ℕ → Result Unit BackendError → LiteState → Type 0
Enters old user (Ok x) new = new ≡ record old { login = Some user }
Enters old user (Err backend.Failed) new = ⊥
Enters old user (Err backend.NoMemory) new = new ≡ old

-- a fault of the database is counted and answered as Failed, and an allocation failure is answered as such
abbrev pub EndsCall : {T : Type 0} → LiteState → Result T LiteError → Result T BackendError → LiteState → Type 0
EndsCall old (Ok x) result new = (result ≡ Ok x) × (new ≡ old)
EndsCall old (Err lite.Fault) result new = (result ≡ Err backend.Failed) × (new ≡ record old { faults = next old.faults })
EndsCall old (Err lite.NoMemory) result new = (result ≡ Err backend.NoMemory) × (new ≡ old)

-- the transaction is added to those begun, or an allocation fails and the state is unchanged
abbrev pub AddsBegun : LiteState → ℕ → Result Unit BackendError → LiteState → Type 0
AddsBegun old tx (Ok x) new = new ≡ record old { begun = old.begun ++ tx ∷ [] }
AddsBegun old tx (Err backend.NoMemory) new = new ≡ old
AddsBegun old tx (Err backend.Failed) new = ⊥
