-- What calls of a backend give and leave. Contents that are visible to contracts are `Some` database, else `None`.
use Rattle.std.specs.Prelude.{◌≡◌, ◌⊎◌, ℕ, Bool, true, false, if◌then◌else◌, not, ◌==◌, List, [], ◌∷◌, ◌++◌, filter, Contains, IfSome, IfOk, IsErrOf}
use Rattle.std.specs.declared.option.Option.{Option}
use Rattle.std.specs.declared.option.Option.TheVariants.{None, Some}
use Rattle.std.specs.Option.{option_map}
use Rattle.std.specs.declared.result.Result.{Result}
use Rattle.std.specs.declared.result.Result.TheVariants.{Ok, Err}
use Rattle.cj_outside.specs.Causes.{CountsFault, next}
use Rattle.cj_model.specs.declared.database.Slot.{Slot}
use Rattle.cj_model.specs.declared.request.Act.{Act}
use Rattle.cj_model.specs.declared.select.Select.{Select}
use Rattle.cj_model.specs.declared.answer.Asked.{Asked}
use Rattle.cj_model.specs.declared.answer.Outcome.{Outcome}
use Rattle.cj_model.specs.Database.Steps.{acted}
use Rattle.cj_model.specs.Database.Queries.{ask}
use Rattle.cj_model.specs.Database.Storable.{writers}
use Rattle.cj_backend.specs.declared.backend.BackendError.{BackendError}
use Rattle.cj_backend.specs.declared.backend.BackendError.TheVariants as errors

-- ---- causes

-- a fault is counted if and only if the backend answers that it failed
abbrev pub HasBackendCause : {T : Type 0} → ℕ → ℕ → Result T BackendError → Type 0
HasBackendCause before now result = CountsFault (IsErrOf result errors.Failed) before now

-- ---- arming

-- how a backend is armed to fail
pub record Arming : Type 0 where
  -- whether the next call that may fail does so
  pub armed : Bool
  -- how often the backend was armed, up to the largest `u64`
  pub times : ℕ

-- the arming after one more, which only a backend that can be armed takes
abbrev pub arming_after : Bool → Arming → Arming
arming_after true a = record { armed = true; times = next a.times }
arming_after false a = a

-- the arming after a call: the backend is no longer armed
abbrev pub spent : Arming → Arming
spent a = record a { armed = false }

-- an armed backend answers that it failed, and no backend is armed after a call
pub record SpendsArming {T : Type 0} (before now : Arming) (result : Result T BackendError) : Type 0 where
  pub fails : before.armed ≡ true → IsErrOf result errors.Failed
  pub after : now ≡ spent before

-- ---- asks

-- the count of answered queries after a query: one more where there was an answer, and unchanged after an error
abbrev pub asks_after : {T E : Type 0} → ℕ → Result T E → ℕ
asks_after asks (Ok answer) = next asks
asks_after asks (Err e) = asks

-- the count of answered queries after a call for a snapshot: one more where there is a snapshot
abbrev pub asks_after_snapshot : {S E : Type 0} → ℕ → Result (Option S) E → ℕ
asks_after_snapshot asks (Ok (Some snap)) = next asks
asks_after_snapshot asks (Ok None) = asks
asks_after_snapshot asks (Err e) = asks

-- ---- contents

-- the outcome is that of the act on the database that was told, where one was
abbrev pub SaysOutcome : Option (List Slot) → ℕ → Act → Result Outcome BackendError → Type 0
SaysOutcome told tx act result = IfOk result (λ o. IfSome told (λ db. o ≡ (acted db tx act).outcome))

-- what is told after an act: the act's database, where one was told, and nothing after an error
abbrev pub told_after : {T : Type 0} → Option (List Slot) → ℕ → Act → Result T BackendError → Option (List Slot)
told_after told tx act (Ok x) = option_map (λ db. (acted db tx act).db) told
told_after told tx act (Err e) = None

-- the answer is that of the query on the database that is told, where one is
abbrev pub SaysAnswer : {E : Type 0} → Option (List Slot) → ℕ → Select → Result Asked E → Type 0
SaysAnswer told tx select result = IfOk result (λ answer. IfSome told (λ db. answer ≡ ask db tx select))

-- what a snapshot shows of which contracts see nothing
abbrev pub nothing_shown : Option (List Slot)
nothing_shown = None

-- what is told after a load: the loaded database, of a backend that tells its contents, and nothing after an error
abbrev pub told_loaded : {T : Type 0} → Bool → List Slot → Result T BackendError → Option (List Slot)
told_loaded tells db (Ok x) = if tells then Some db else None
told_loaded tells db (Err e) = None

-- ---- logins and transactions

-- the last login is the one given; after an error it may be the one before
abbrev pub LogsIn : {T : Type 0} → Option (List ℕ) → List ℕ → Result T BackendError → Option (List ℕ) → Type 0
LogsIn before given (Ok x) now = now ≡ Some given
LogsIn before given (Err e) now = (now ≡ Some given) ⊎ (now ≡ before)

-- the last login after a query is the one given; after Failed it may be the one before, and after NoMemory it is
abbrev pub LogsInToAsk : {T : Type 0} → Option (List ℕ) → List ℕ → Result T BackendError → Option (List ℕ) → Type 0
LogsInToAsk before given (Ok x) now = now ≡ Some given
LogsInToAsk before given (Err errors.Failed) now = (now ≡ Some given) ⊎ (now ≡ before)
LogsInToAsk before given (Err errors.NoMemory) now = now ≡ before

-- the last login after a call for a snapshot is that after a query where there is a snapshot or an error, and else
-- the one before
abbrev pub LogsInToSnapshot : {S : Type 0} → Option (List ℕ) → List ℕ → Result (Option S) BackendError → Option (List ℕ) → Type 0
LogsInToSnapshot before given (Ok (Some snap)) now = now ≡ Some given
LogsInToSnapshot before given (Ok None) now = now ≡ before
LogsInToSnapshot before given (Err errors.Failed) now = (now ≡ Some given) ⊎ (now ≡ before)
LogsInToSnapshot before given (Err errors.NoMemory) now = now ≡ before

-- the number is 0 for no transaction, or one of the transactions begun
abbrev pub IsBegun : List ℕ → ℕ → Type 0
IsBegun begun tx = (tx ≡ 0) ⊎ Contains begun tx

-- the transactions begun, with one more at the end unless there was an error
abbrev pub begun_with : {T : Type 0} → List ℕ → ℕ → Result T BackendError → List ℕ
begun_with begun tx (Ok x) = begun ++ tx ∷ []
begun_with begun tx (Err e) = begun

-- the transactions begun, without this one unless there was an error
abbrev pub begun_without : {T : Type 0} → List ℕ → ℕ → Result T BackendError → List ℕ
begun_without begun tx (Ok x) = filter (λ t. not (t == tx)) begun
begun_without begun tx (Err e) = begun

-- the transactions begun after a load: those with a draft in the loaded database, or the earlier ones after an
-- error
abbrev pub begun_loaded : {T : Type 0} → List ℕ → List Slot → Result T BackendError → List ℕ
begun_loaded begun db (Ok x) = writers db
begun_loaded begun db (Err e) = begun
