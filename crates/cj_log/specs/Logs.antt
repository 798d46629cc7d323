-- The log: a list of items in a store.
use Rattle.std.specs.Prelude.{◌≡◌, ◌⊎◌, ℕ, Bool, true, false, List, [], ◌∷◌, ◌++◌, length, map, Result, Ok, Err, if◌then◌else◌, nat_le}
use Rattle.std.specs.List.{AllByRecursion}
use Rattle.cj_outside.specs.Causes.{next}
use Rattle.cj_records.specs.declared.error.RecordsError.{RecordsError}
use Rattle.cj_records.specs.declared.error.RecordsError.TheVariants as errors
use Rattle.cj_records.specs.RecordFiles.{front_bytes, Finds}
use Rattle.cj_records.specs.Records.{begun, WritesOnlyNew}
use Rattle.cj_log.specs.declared.item.LogItem.{LogItem}
use Rattle.cj_log.specs.Items.{item_bytes, IsItem, IsNoItem}

-- A log: its store, its items if the store tells them, whether the gate after them is torn (it may be open),
-- and the body that was refused then.
pub record LogState (S : Type 0) : Type 0 where
  pub store : S
  pub items : List LogItem
  pub torn : Bool
  pub refused : List ℕ

-- the first bytes of a log
abbrev pub log_magic : List ℕ
log_magic = 67 ∷ 74 ∷ 76 ∷ 49 ∷ []

-- the bodies of items
abbrev pub bodies_of : List LogItem → List (List ℕ)
bodies_of items = map item_bytes items

-- the bytes are those of a log with these items
pub record KeepsItems (bytes : List ℕ) (items : List LogItem) : Type 0 where
  pub found : Finds log_magic bytes (Ok (bodies_of items))
  pub each : AllByRecursion IsItem items

-- a body in the list is no item's; the offset is that of its record, after those of the items before it
pub record BadIn (list : List (List ℕ)) (offset : ℕ) : Type 0 where
  pub before : List LogItem
  pub body : List ℕ
  pub later : List (List ℕ)
  pub parts : list ≡ bodies_of before ++ body ∷ later
  pub each : AllByRecursion IsItem before
  pub bad : IsNoItem body
  pub there : offset ≡ length (front_bytes log_magic (bodies_of before))

-- the bytes are a record file of which a body is no item's
abbrev pub HasBadItem : List ℕ → ℕ → Type 0
HasBadItem bytes offset = (list : List (List ℕ)) × Finds log_magic bytes (Ok list) × BadIn list offset

-- what opening finds in the bytes, and what it leaves of them
abbrev pub Opens : {S : Type 0} → (S → List ℕ) → List ℕ → Result (LogState S × List LogItem) (RecordsError × S) → Type 0
Opens held old (Ok (log, found)) = KeepsItems old found × (log.items ≡ found) × (held log.store ≡ (if nat_le (length old) 5 then begun log_magic else old))
Opens held old (Err (errors.Failed, store)) = WritesOnlyNew old (held store)
Opens held old (Err (errors.NoMemory, store)) = WritesOnlyNew old (held store)
Opens held old (Err (errors.BadRecord offset, store)) = (Finds log_magic old (Err offset) ⊎ HasBadItem old offset) × (held store ≡ old)

-- opening counts a fault exactly if it answers that the store failed
abbrev pub CountsOpenFault : {S : Type 0} → (S → ℕ) → ℕ → Result (LogState S × List LogItem) (RecordsError × S) → Type 0
CountsOpenFault faults before (Ok (log, found)) = faults log.store ≡ before
CountsOpenFault faults before (Err (errors.Failed, store)) = faults store ≡ next before
CountsOpenFault faults before (Err (errors.NoMemory, store)) = faults store ≡ before
CountsOpenFault faults before (Err (errors.BadRecord offset, store)) = faults store ≡ before

-- an append adds the item; refused, it leaves the items
abbrev pub Adds : {E : Type 0} → List LogItem → LogItem → List LogItem → Result Unit E → Type 0
Adds old item new (Ok _) = new ≡ old ++ item ∷ []
Adds old item new (Err _) = new ≡ old

-- The image that a stop leaves has the items from before an append, or one more:
-- the item that is appended, or the one that was refused before.
abbrev pub IsBeforeOrAfter : {S : Type 0} → LogState S → LogItem → List ℕ → Type 0
IsBeforeOrAfter old item image = KeepsItems image old.items ⊎ (KeepsItems image (old.items ++ item ∷ []) ⊎ (refused : LogItem) × (old.torn ≡ true) × (item_bytes refused ≡ old.refused) × KeepsItems image (old.items ++ refused ∷ []))

-- after an append the gate is shut, or torn with a refused body: this one, or one from before
abbrev pub Refuses : {S E T : Type 0} → LogState S → LogItem → LogState S → Result T E → Type 0
Refuses old item new (Ok _) = new.torn ≡ false
Refuses old item new (Err _) = new.torn ≡ true → (new.refused ≡ item_bytes item) ⊎ (old.torn ≡ true) × (new.refused ≡ old.refused)

-- each image that a stop may leave now has these items and nothing more
abbrev pub LeavesItems : (List ℕ → Type 0) → List LogItem → Type 0
LeavesItems may items = (image : List ℕ) → may image → KeepsItems image items

-- the bytes have the items, or while the gate after them is torn maybe one more, the refused one
abbrev pub KeepsAtLeast : List ℕ → List LogItem → Bool → Type 0
KeepsAtLeast bytes items torn = KeepsItems bytes items ⊎ (torn ≡ true) × (refused : LogItem) × KeepsItems bytes (items ++ refused ∷ [])

-- the bytes of a log fix its items
abbrev pub BytesFixItems : Type 0
BytesFixItems = (bytes : List ℕ) (a b : List LogItem) → KeepsItems bytes a → KeepsItems bytes b → a ≡ b
