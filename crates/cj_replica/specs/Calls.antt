-- What the calls of an entry give and leave at its backend.
use Rattle.std.specs.Prelude.{◌≡◌, ◌⊎◌, ℕ, ◌||◌, ◌==◌, true, if◌then◌else◌, List, [], ◌∷◌, ◌++◌, IfOk, IfSome}
use Rattle.std.specs.declared.option.Option.{Option}
use Rattle.std.specs.declared.option.Option.TheVariants.{None, Some}
use Rattle.std.specs.Option.{option_map}
use Rattle.std.specs.declared.result.Result.{Result}
use Rattle.std.specs.declared.result.Result.TheVariants.{Ok, Err}
use Rattle.cj_model.specs.declared.database.Slot.{Slot}
use Rattle.cj_model.specs.declared.request.Act.{Act}
use Rattle.cj_model.specs.declared.request.Act.TheVariants as act
use Rattle.cj_model.specs.declared.answer.Outcome.{Outcome}
use Rattle.cj_model.specs.Database.Steps.{acted}
use Rattle.cj_cluster.specs.History.Transactions.{has_begun}
use Rattle.cj_replica.specs.declared.replica.CellError.{CellError}
use Rattle.cj_replica.specs.declared.replica.CellError.TheVariants.{Failed, Starved}

-- a backend can carry out the act: no begin, and an end only of a transaction that has begun there
abbrev pub CanCarryOut : List ℕ → ℕ → Act → Type 0
CanCarryOut begun tx act.Begin = ⊥
CanCarryOut begun tx (act.Write w) = Unit {0}
CanCarryOut begun tx (act.Create c) = Unit {0}
CanCarryOut begun tx (act.Drop table) = Unit {0}
CanCarryOut begun tx act.Commit = has_begun begun tx ≡ true
CanCarryOut begun tx act.Abort = has_begun begun tx ≡ true

-- the transactions begun after a write in transaction tx, 0 for none
abbrev pub begun_at_write : List ℕ → ℕ → List ℕ
begun_at_write begun tx = if tx == 0 || has_begun begun tx then begun else begun ++ tx ∷ []

-- the contents visible after a call: `after` if it succeeded, none after a fault, and none or `before` if memory ran
-- out
abbrev pub TellsAfter : {T : Type 0} → Option (List Slot) → Option (List Slot) → Result T CellError → Option (List Slot) → Type 0
TellsAfter before after (Ok x) now = now ≡ after
TellsAfter before after (Err Failed) now = now ≡ None
TellsAfter before after (Err Starved) now = (now ≡ None) ⊎ (now ≡ before)

-- the contents visible after an act: those that it makes of the ones before, or what an error leaves visible
abbrev pub TellsCarried : {T : Type 0} → Option (List Slot) → ℕ → Act → Result T CellError → Option (List Slot) → Type 0
TellsCarried before tx a result now = TellsAfter before (option_map (λ db. (acted db tx a).db) before) result now

-- the outcome is that of the act on the visible contents
abbrev pub SaysCarried : Option (List Slot) → ℕ → Act → Result Outcome CellError → Type 0
SaysCarried told tx a result = IfOk result (λ o. IfSome told (λ db. o ≡ (acted db tx a).outcome))

-- the last login is the one given, or after an error maybe the one before
abbrev pub LogsInAt : {T : Type 0} → Option (List ℕ) → List ℕ → Result T CellError → Option (List ℕ) → Type 0
LogsInAt before given (Ok x) now = now ≡ Some given
LogsInAt before given (Err e) now = (now ≡ Some given) ⊎ (now ≡ before)
