-- What contracts see of a flaky backend, and what its calls do to it.
use Rattle.std.specs.Prelude.{◌≡◌, ◌⊎◌, ℕ, ◌+◌, ◌-◌, ◌^◌, ◌<◌, ◌≤◌, min, Bool, true, false, List, [], IfOk, IfSome, Contains, is_some}
use Rattle.std.specs.declared.option.Option.{Option}
use Rattle.std.specs.declared.option.Option.TheVariants.{None, Some}
use Rattle.std.specs.declared.result.Result.{Result}
use Rattle.std.specs.declared.result.Result.TheVariants.{Ok, Err}
use Rattle.cj_outside.specs.Causes.{next}
use Rattle.cj_model.specs.declared.database.Slot.{Slot}
use Rattle.cj_model.specs.declared.request.Act.{Act}
use Rattle.cj_model.specs.declared.request.Act.TheVariants as act
use Rattle.cj_model.specs.declared.select.Select.{Select}
use Rattle.cj_model.specs.declared.answer.Asked.{Asked}
use Rattle.cj_model.specs.declared.answer.Outcome.{Outcome}
use Rattle.cj_model.specs.Database.Outcomes.{IsOutcome, IsAsked}
use Rattle.cj_model.specs.Database.Storable.{IsStorable}
use Rattle.cj_backend.specs.declared.backend.BackendError.{BackendError}
use Rattle.cj_backend.specs.declared.backend.BackendError.TheVariants.{Failed}
use Rattle.cj_backend.specs.declared.backend.Backend.{Ghosts}
use Rattle.cj_backend.specs.Backends.{HasBackendCause, SaysOutcome, SaysAnswer, told_after, told_loaded, LogsIn, LogsInToAsk, LogsInToSnapshot, begun_with, begun_without, begun_loaded, asks_after, asks_after_snapshot, Arming, SpendsArming}

-- the state of a flaky backend as contracts see it
pub record FlakyState (B : Type 0) : Type 0 where
  -- the inner backend, to which calls are passed on
  pub inner : B
  -- the numbers of the calls that are to fail
  pub fails : List ℕ
  -- the number of calls so far
  pub calls : ℕ
  -- whether the next call fails whatever its number
  pub armed : Bool
  -- how often the backend was armed, up to the largest `u64`
  pub armings : ℕ
  -- whether each change since the last load that was carried out was passed on
  pub passed : Bool
  -- how many calls failed here, without the inner backend, up to the largest `u64`
  pub faults : ℕ

module _ {B : Type 0} where
  -- the state over this backend before any call
  abbrev pub fresh_over : B → List ℕ → FlakyState B
  fresh_over inner fails = record { inner = inner; fails = fails; calls = 0; armed = false; armings = 0; passed = true; faults = 0 }

  -- the next call fails: the backend is armed, or the call's number is listed
  abbrev pub IsToFail : FlakyState B → Type 0
  IsToFail s = (s.armed ≡ true) ⊎ Contains s.fails (next s.calls)

  -- the state after a call has taken the next number and spent the arming
  abbrev pub numbered : FlakyState B → FlakyState B
  numbered s = record s { calls = next s.calls; armed = false }

  -- the state after a call has taken the next number and failed here, with nothing passed on
  abbrev pub failed : FlakyState B → FlakyState B
  failed s = record (numbered s) { faults = next s.faults }

  -- the state after a change has failed here, which the inner backend then lacks
  abbrev pub failed_change : FlakyState B → FlakyState B
  failed_change s = record (failed s) { passed = false }

  -- the state after a load was passed on: once a load is carried out, the inner backend lacks no change
  abbrev pub loaded : {T E : Type 0} → FlakyState B → Result T E → FlakyState B
  loaded s (Ok x) = record (numbered s) { passed = true }
  loaded s (Err e) = numbered s

  -- the call takes the next number, and fails if and only if it is to fail
  abbrev pub EntersAsListed : FlakyState B → Result Unit BackendError → FlakyState B → Type 0
  EntersAsListed old (Ok x) new = (¬ IsToFail old) × (new ≡ numbered old)
  EntersAsListed old (Err e) new = IsToFail old × (e ≡ Failed) × (new ≡ failed old)

  -- the change takes the next number; if it is to fail, it does so and the inner backend then lacks it
  abbrev pub EntersChange : FlakyState B → Result Unit BackendError → FlakyState B → Type 0
  EntersChange old (Ok x) new = EntersAsListed old (Ok x) new
  EntersChange old (Err e) new = IsToFail old × (e ≡ Failed) × (new ≡ failed_change old)

-- ---- calls, of which `passes` says what the inner backend makes of one that is passed on

-- A call that is to fail answers `Failed` and leaves the state `without`. Any other call is passed on, and leaves
-- the state `with` except for the inner backend.
pub record FailsOrPasses {B T : Type 0} (old : FlakyState B) (result : Result T BackendError) (new without with : FlakyState B) (passes : Type 0) : Type 0 where
  pub fails : IsToFail old → (result ≡ Err Failed) × (new ≡ without)
  pub passed : ¬ IsToFail old → (new ≡ record with { inner = new.inner }) × passes

module _ {B T : Type 0} (old : FlakyState B) (result : Result T BackendError) (new : FlakyState B) (passes : Type 0) where
  -- a call that changes nothing fails if it is to, and is passed on otherwise
  abbrev pub CallsAsListed : Type 0
  CallsAsListed = FailsOrPasses old result new (failed old) (numbered old) passes

  -- a change fails if it is to, and is passed on otherwise
  abbrev pub ChangesAsListed : Type 0
  ChangesAsListed = FailsOrPasses old result new (failed_change old) (numbered old) passes

  -- a load fails if it is to, and is passed on otherwise
  abbrev pub LoadsAsListed : Type 0
  LoadsAsListed = FailsOrPasses old result new (failed_change old) (loaded old result) passes

-- ---- what calls make of the inner backend

module _ {B S : Type 0} (g : Ghosts B S) (old : B) where
  -- what every change makes of the inner backend
  pub record PassesChange {T : Type 0} (user : List ℕ) (tx : ℕ) (act : Act) (result : Result T BackendError) (new : B) : Type 0 where
    pub told : g.told new ≡ told_after (g.told old) tx act result
    pub cause : HasBackendCause (g.faults old) (g.faults new) result
    pub login : LogsIn (g.login old) user result (g.login new)
    pub asks : g.asks new ≡ g.asks old
    pub arming : SpendsArming (g.arming old) (g.arming new) result

  -- what `begin` makes of the inner backend
  pub record PassesBegin (user : List ℕ) (tx : ℕ) (result : Result Unit BackendError) (new : B) : Type 0 where
    pub change : PassesChange user tx act.Begin result new
    pub begun : g.begun new ≡ begun_with (g.begun old) tx result

  -- what a commit or an abort makes of the inner backend
  pub record PassesEnd (user : List ℕ) (tx : ℕ) (act : Act) (result : Result Unit BackendError) (new : B) : Type 0 where
    pub change : PassesChange user tx act result new
    pub begun : g.begun new ≡ begun_without (g.begun old) tx result

  -- what a write, CREATE TABLE or DROP TABLE makes of the inner backend
  pub record PassesWrite (user : List ℕ) (tx : ℕ) (act : Act) (result : Result Outcome BackendError) (new : B) : Type 0 where
    pub change : PassesChange user tx act result new
    pub outcome : SaysOutcome (g.told old) tx act result
    pub possible : IfOk result IsOutcome
    pub begun : g.begun new ≡ g.begun old

  -- what a query makes of the inner backend
  pub record PassesAsk (user : List ℕ) (tx : ℕ) (select : Select) (result : Result Asked BackendError) (new : B) : Type 0 where
    pub answer : SaysAnswer (g.told old) tx select result
    pub possible : IfOk result IsAsked
    pub told : g.told new ≡ g.told old
    pub cause : HasBackendCause (g.faults old) (g.faults new) result
    pub login : LogsInToAsk (g.login old) user result (g.login new)
    pub begun : g.begun new ≡ g.begun old
    pub asks : g.asks new ≡ asks_after (g.asks old) result
    pub arming : SpendsArming (g.arming old) (g.arming new) result

  -- what a call for a snapshot makes of the inner backend, and what the snapshot shows
  pub record PassesSnapshot (shows : S → Option (List Slot)) (user : List ℕ) (result : Result (Option S) BackendError) (new : B) : Type 0 where
    pub given : IfOk result (λ snap. is_some snap ≡ g.snaps old)
    pub shown : IfOk result (λ snap. IfSome snap (λ s. IfSome (g.told old) (λ db. shows s ≡ Some db)))
    pub told : g.told new ≡ g.told old
    pub cause : HasBackendCause (g.faults old) (g.faults new) result
    pub login : LogsInToSnapshot (g.login old) user result (g.login new)
    pub begun : g.begun new ≡ g.begun old
    pub asks : g.asks new ≡ asks_after_snapshot (g.asks old) result
    pub arming : SpendsArming (g.arming old) (g.arming new) result

  -- what `contents` makes of the inner backend
  pub record PassesContents (result : Result (List Slot) BackendError) (new : B) : Type 0 where
    pub contents : IfOk result (λ db. IfSome (g.told old) (λ held. db ≡ held))
    pub storable : IfOk result IsStorable
    pub told : g.told new ≡ g.told old
    pub cause : HasBackendCause (g.faults old) (g.faults new) result
    pub login : g.login new ≡ g.login old
    pub begun : g.begun new ≡ g.begun old
    pub asks : g.asks new ≡ g.asks old
    pub arming : SpendsArming (g.arming old) (g.arming new) result

  -- what `load` makes of the inner backend
  pub record PassesLoad (db : List Slot) (result : Result Unit BackendError) (new : B) : Type 0 where
    pub told : g.told new ≡ told_loaded g.tells db result
    pub cause : HasBackendCause (g.faults old) (g.faults new) result
    pub login : g.login new ≡ g.login old
    pub begun : g.begun new ≡ begun_loaded (g.begun old) db result
    pub asks : g.asks new ≡ g.asks old
    pub arming : SpendsArming (g.arming old) (g.arming new) result

-- ---- what it tells

-- what a backend tells of whose contents contracts see nothing
abbrev pub nothing_told : Option (List Slot)
nothing_told = None

-- what contracts see of the contents: what the inner backend tells, if each change was passed on to it
abbrev pub told_where_passed : Bool → Option (List Slot) → Option (List Slot)
told_where_passed true told = told
told_where_passed false told = None

module _ {B : Type 0} where
  -- the arming of a flaky backend
  abbrev pub arming_of : FlakyState B → Arming
  arming_of s = record { armed = s.armed; times = s.armings }

  -- what a flaky backend tells of its contents, by what inner backends tell
  abbrev pub told_by : (B → Option (List Slot)) → FlakyState B → Option (List Slot)
  told_by told s = told_where_passed s.passed (told s.inner)

  -- the faults counted here and in the inner backend together, up to the largest `u64`
  abbrev pub faults_by : (B → ℕ) → FlakyState B → ℕ
  faults_by faults s = min (s.faults + faults s.inner) (2 ^ 64 - 1)

-- ---- faults and armings

-- So many calls failed, and no more than the backend was armed. While it is armed, one more can fail; where the count
-- of armings is at its greatest value, this says nothing.
pub record FailsOnlyArmed (a : Arming) (faults : ℕ) : Type 0 where
  pub within : faults ≤ a.times
  pub left : a.armed ≡ true → (faults < a.times) ⊎ (a.times ≡ 2 ^ 64 - 1)

-- where no call is listed, only armed calls failed here
abbrev pub FailsOnlyAsked : {B : Type 0} → FlakyState B → Type 0
FailsOnlyAsked s = s.fails ≡ [] → FailsOnlyArmed (arming_of s) s.faults
