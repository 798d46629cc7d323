-- What contracts see of a backend in memory, and what its calls begin with.
use Rattle.std.specs.Prelude.{◌≡◌, ℕ, Bool, true, false, List, [], ◌∷◌, ◌++◌}
use Rattle.std.specs.declared.option.Option.{Option}
use Rattle.std.specs.declared.option.Option.TheVariants.{None, Some}
use Rattle.std.specs.declared.result.Result.{Result}
use Rattle.std.specs.declared.result.Result.TheVariants.{Ok, Err}
use Rattle.cj_model.specs.declared.database.Slot.{Slot}
use Rattle.cj_model.specs.declared.request.Act.{Act}
use Rattle.cj_model.specs.Database.Steps.{acted}
use Rattle.cj_backend.specs.declared.backend.BackendError.{BackendError}
use Rattle.cj_backend.specs.declared.backend.BackendError.TheVariants.{Failed, NoMemory}
use Rattle.cj_backend.specs.Backends.{Arming}

-- the state of a backend in memory as contracts see it
pub record MemoryState : Type 0 where
  -- what contracts see of the contents: nothing from a change that was not carried out to the next load that is
  pub told : Option (List Slot)
  -- the database that the backend holds, whether contracts see it or not
  pub held : List Slot
  pub asks : ℕ
  pub begun : List ℕ
  pub login : Option (List ℕ)

-- the state of a new backend: an empty database, and nothing counted
abbrev pub fresh_state : MemoryState
fresh_state = record { told = Some []; held = []; asks = 0; begun = []; login = None }

-- the arming of a backend in memory, which can't be armed
abbrev pub never_armed : Arming
never_armed = record { armed = false; times = 0 }

-- what is held after an act: the act's database, or the earlier one after an error
abbrev pub held_after : {T : Type 0} → List Slot → ℕ → Act → Result T BackendError → List Slot
held_after held tx act (Ok x) = (acted held tx act).db
held_after held tx act (Err e) = held

-- what is held after a load: the loaded database, or the earlier one after an error
abbrev pub held_loaded : {T : Type 0} → List Slot → List Slot → Result T BackendError → List Slot
held_loaded held db (Ok x) = db
held_loaded held db (Err e) = held

-- the database where it is known to be right, else nothing
abbrev pub told_where_known : Bool → List Slot → Option (List Slot)
told_where_known true db = Some db
told_where_known false db = None

-- a call is entered under this login, or an allocation fails and the state is unchanged
abbrev pub Enters : MemoryState → List ℕ → Result Unit BackendError → MemoryState → Type 0
Enters old user (Ok x) new = new ≡ record old { login = Some user }
Enters old user (Err Failed) new = ⊥
Enters old user (Err NoMemory) new = new ≡ old

-- a change is entered under this login, or an allocation fails and contracts no longer see the contents
abbrev pub EntersChange : MemoryState → List ℕ → Result Unit BackendError → MemoryState → Type 0
EntersChange old user (Ok x) new = Enters old user (Ok x) new
EntersChange old user (Err e) new = Enters (record old { told = None }) user (Err e) new

-- the transaction is added to those begun, or an allocation fails and contracts no longer see the contents
abbrev pub AddsBegun : MemoryState → ℕ → Result Unit BackendError → MemoryState → Type 0
AddsBegun old tx (Ok x) new = new ≡ record old { begun = old.begun ++ tx ∷ [] }
AddsBegun old tx (Err NoMemory) new = new ≡ record old { told = None }
AddsBegun old tx (Err Failed) new = ⊥
