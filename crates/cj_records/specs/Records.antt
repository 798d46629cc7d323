-- What contracts see of a list of byte strings in a store, and what its calls do.
use Rattle.std.specs.Prelude.{◌≡◌, ◌⊎◌, ℕ, ◌+◌, ◌<◌, ◌≤◌, Bool, true, false, if◌then◌else◌, nat_le, List, [], ◌∷◌, ◌++◌, length, slice_get, Result, Ok, Err, Some}
use Rattle.std.specs.Global.{Vec}
use Rattle.cj_outside.specs.Causes.{next}
use Rattle.cj_records.specs.declared.error.RecordsError.{RecordsError}
use Rattle.cj_records.specs.declared.error.RecordsError.TheVariants as errors
use Rattle.cj_records.specs.RecordFiles.{Finds}

-- A list of bodies in a store: the magic, the offset of the gate after the last, whether that gate is torn,
-- and the body that was refused then. A torn gate may be open, since an append failed while it was opened.
pub record RecordList (S : Type 0) : Type 0 where
  pub store : S
  pub magic : List ℕ
  pub list : List (List ℕ)
  pub end : ℕ
  pub torn : Bool
  pub refused : List ℕ

-- opening counts a fault exactly if it answers that the store failed
abbrev pub CountsOpenFault : {S : Type 0} → (S → ℕ) → ℕ → Result (RecordList S) (RecordsError × S) → Type 0
CountsOpenFault faults before (Ok records) = faults records.store ≡ before
CountsOpenFault faults before (Err (errors.Failed, store)) = faults store ≡ next before
CountsOpenFault faults before (Err (errors.NoMemory, store)) = faults store ≡ before
CountsOpenFault faults before (Err (errors.BadRecord offset, store)) = faults store ≡ before

-- the bytes of a new file without records
abbrev pub begun : List ℕ → List ℕ
begun magic = magic ++ 0 ∷ []

-- only a new file is written
pub record WritesOnlyNew (old new : List ℕ) : Type 0 where
  pub long : 5 < length old → new ≡ old
  pub short : length old ≤ 5 → length new ≤ 5

-- what opening finds in the bytes, and what it leaves of them
abbrev pub Opens : {S : Type 0} → (S → List ℕ) → List ℕ → List ℕ → Result (RecordList S) (RecordsError × S) → Type 0
Opens held magic old (Ok records) = Finds magic old (Ok records.list) × (held records.store ≡ (if nat_le (length old) 5 then begun magic else old))
Opens held magic old (Err (errors.Failed, store)) = WritesOnlyNew old (held store)
Opens held magic old (Err (errors.NoMemory, store)) = WritesOnlyNew old (held store)
Opens held magic old (Err (errors.BadRecord offset, store)) = Finds magic old (Err offset) × (held store ≡ old)

-- an append adds the body at the end; refused, it leaves the list, and only `Failed` may leave the gate open
abbrev pub AppendsRecord : {S : Type 0} → RecordList S → List ℕ → RecordList S → Result ℕ RecordsError → Type 0
AppendsRecord old body new (Ok offset) = (new.list ≡ old.list ++ body ∷ []) × (new.torn ≡ false)
AppendsRecord old body new (Err errors.Failed) = new.list ≡ old.list
AppendsRecord old body new (Err errors.NoMemory) = (new.list ≡ old.list) × (new.torn ≡ true → old.torn ≡ true)
AppendsRecord old body new (Err (errors.BadRecord _)) = ⊥

-- The image that a stop leaves has the list from before an append, or one body more:
-- the body that is appended, or the one that was refused before.
abbrev pub IsBeforeOrAfter : {S : Type 0} → RecordList S → List ℕ → List ℕ → Type 0
IsBeforeOrAfter old body image = Finds old.magic image (Ok old.list) ⊎ (Finds old.magic image (Ok (old.list ++ body ∷ [])) ⊎ (old.torn ≡ true) × Finds old.magic image (Ok (old.list ++ old.refused ∷ [])))

-- a refused append leaves the gate shut, or torn with a refused body: this one, or one from before
abbrev pub Refuses : {S E T : Type 0} → RecordList S → List ℕ → RecordList S → Result T E → Type 0
Refuses old body new (Ok _) = new.torn ≡ false
Refuses old body new (Err _) = new.torn ≡ true → (new.refused ≡ body) ⊎ (old.torn ≡ true) × (new.refused ≡ old.refused)

-- the bytes have the list, or while the gate is torn maybe one body more, the refused one
abbrev pub KeepsAtLeast : {S : Type 0} → RecordList S → List ℕ → Type 0
KeepsAtLeast records bytes = Finds records.magic bytes (Ok records.list) ⊎ (records.torn ≡ true) × Finds records.magic bytes (Ok (records.list ++ records.refused ∷ []))

-- each image that a stop may leave now has this list and nothing more
abbrev pub LeavesList : (List ℕ → Type 0) → List ℕ → List (List ℕ) → Type 0
LeavesList may magic list = (image : List ℕ) → may image → Finds magic image (Ok list)

-- Over any store an append answers the offset of its record, and makes one record more.
-- Refused, it leaves the number of records and the offset of the next one.
abbrev pub CountsRecords : {S : Type 0} → RecordList S → ℕ → RecordList S → Result ℕ RecordsError → Type 0
CountsRecords old len new (Ok offset) = (length new.list ≡ length old.list + 1) × (offset ≡ old.end) × (new.end ≡ old.end + 9 + len)
CountsRecords old len new (Err errors.Failed) = (length new.list ≡ length old.list) × (new.end ≡ old.end)
CountsRecords old len new (Err errors.NoMemory) = (length new.list ≡ length old.list) × (new.end ≡ old.end)
CountsRecords old len new (Err (errors.BadRecord _)) = ⊥

-- the records are as before, and so are the bytes if the store tells them
pub record SameRecords {S : Type 0} (tells : Bool) (held : S → List ℕ) (old new : RecordList S) : Type 0 where
  pub magic : new.magic ≡ old.magic
  pub list : tells ≡ true → new.list ≡ old.list
  pub count : length new.list ≡ length old.list
  pub end : new.end ≡ old.end
  pub torn : new.torn ≡ old.torn
  pub bytes : tells ≡ true → held new.store ≡ held old.store
  pub refused : tells ≡ true → new.refused ≡ old.refused

-- reading gives the body of record n, or an error of the store or of memory
abbrev pub Reads : {S : Type 0} → RecordList S → ℕ → Result (Vec ℕ) RecordsError → Type 0
Reads old n (Ok body) = slice_get old.list n ≡ Some body.items
Reads old n (Err errors.Failed) = Unit {0}
Reads old n (Err errors.NoMemory) = Unit {0}
Reads old n (Err (errors.BadRecord _)) = ⊥
