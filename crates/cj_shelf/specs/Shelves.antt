-- The shelf: a list of dumps in a store.
use Rattle.std.specs.Prelude.{◌≡◌, ◌≢◌, ◌⊎◌, ℕ, Bool, true, false, List, [], ◌∷◌, ◌++◌, length, map, slice_get, Result, Ok, Err, if◌then◌else◌, nat_le}
use Rattle.std.specs.declared.option.Option.{Option}
use Rattle.std.specs.List.{AllByRecursion, filter, list_any}
use Rattle.std.specs.Str.{bytes_eq}
use Rattle.cj_outside.specs.Causes.{next}
use Rattle.cj_records.specs.RecordFiles.{front_bytes, Finds}
use Rattle.cj_records.specs.Records.{begun, WritesOnlyNew}
use Rattle.cj_dump.specs.declared.dump.Dump.{Dump}
use Rattle.cj_dump.specs.Dumps.{dump_bytes, IsDump}
use Rattle.cj_shelf.specs.declared.error.ShelfError.{ShelfError}
use Rattle.cj_shelf.specs.declared.error.ShelfError.TheVariants as errors

-- What contracts see of a shelf: its store, the names of its dumps in order, the dumps that the store keeps, whether
-- the gate after them is torn, and the body that was refused then. If the store tells nothing, only the names are
-- known.
pub record ShelfState (S : Type 0) : Type 0 where
  pub store : S
  pub names : List (List ℕ)
  pub dumps : List Dump
  pub torn : Bool
  pub refused : List ℕ

-- ---- the bytes

-- the first bytes of a shelf
abbrev pub shelf_magic : List ℕ
shelf_magic = 67 ∷ 74 ∷ 68 ∷ 49 ∷ []

-- the bodies of dumps
abbrev pub dump_bodies : List Dump → List (List ℕ)
dump_bodies dumps = map dump_bytes dumps

-- the bytes of a shelf are a record file of the bodies of these dumps
pub record KeepsDumps (bytes : List ℕ) (dumps : List Dump) : Type 0 where
  pub found : Finds shelf_magic bytes (Ok (dump_bodies dumps))
  pub each : AllByRecursion IsDump dumps

-- the bytes have the dumps; while the gate after them is torn maybe one more, the one that was refused
abbrev pub KeepsAtLeast : List ℕ → List Dump → Bool → Type 0
KeepsAtLeast bytes dumps torn = KeepsDumps bytes dumps ⊎ (torn ≡ true) × (refused : Dump) × KeepsDumps bytes (dumps ++ refused ∷ [])

-- no dump has this body
abbrev pub IsNoDump : List ℕ → Type 0
IsNoDump body = (d : Dump) → IsDump d → body ≢ dump_bytes d

-- a body that is no dump's, after those of these dumps
pub record BadDumpIn (list : List (List ℕ)) (offset : ℕ) : Type 0 where
  pub before : List Dump
  pub body : List ℕ
  pub later : List (List ℕ)
  pub parts : list ≡ dump_bodies before ++ body ∷ later
  pub each : AllByRecursion IsDump before
  pub bad : IsNoDump body
  pub there : offset ≡ length (front_bytes shelf_magic (dump_bodies before))

-- a record file, of which a body is no dump's
abbrev pub HasBadBody : List ℕ → ℕ → Type 0
HasBadBody bytes offset = (list : List (List ℕ)) × Finds shelf_magic bytes (Ok list) × BadDumpIn list offset

-- the bytes of a shelf fix its dumps
abbrev pub BytesFixDumps : Type 0
BytesFixDumps = (bytes : List ℕ) (a b : List Dump) → KeepsDumps bytes a → KeepsDumps bytes b → a ≡ b

-- ---- opening

-- which dumps opening finds in the bytes, or which error it gives, and which bytes it leaves
abbrev pub Opens : {S : Type 0} → (S → List ℕ) → List ℕ → Result (ShelfState S) (ShelfError × S) → Type 0
Opens held old (Ok shelf) = KeepsDumps old shelf.dumps × (held shelf.store ≡ (if nat_le (length old) 5 then begun shelf_magic else old))
Opens held old (Err (errors.Failed, store)) = WritesOnlyNew old (held store)
Opens held old (Err (errors.NoMemory, store)) = WritesOnlyNew old (held store)
Opens held old (Err (errors.BadRecord offset, store)) = (Finds shelf_magic old (Err offset) ⊎ HasBadBody old offset) × (held store ≡ old)

-- opening counts a fault exactly where it answers that the store failed
abbrev pub CountsOpenFault : {S : Type 0} → (S → ℕ) → ℕ → Result (ShelfState S) (ShelfError × S) → Type 0
CountsOpenFault faults before (Ok shelf) = faults shelf.store ≡ before
CountsOpenFault faults before (Err (errors.Failed, store)) = faults store ≡ next before
CountsOpenFault faults before (Err (errors.NoMemory, store)) = faults store ≡ before
CountsOpenFault faults before (Err (errors.BadRecord offset, store)) = faults store ≡ before

-- ---- adding

-- the item is added at the end; an error, which is no bad record, leaves the list as it was
abbrev pub Adds : {A : Type 0} → List A → A → List A → Result Unit ShelfError → Type 0
Adds old item new (Ok _) = new ≡ old ++ item ∷ []
Adds old item new (Err errors.Failed) = new ≡ old
Adds old item new (Err errors.NoMemory) = new ≡ old
Adds old item new (Err (errors.BadRecord _)) = ⊥

-- What a crash leaves has the dumps from before, or one more: the one that is added, or the one that was refused
-- before.
abbrev pub IsBeforeOrAfter : {S : Type 0} → ShelfState S → Dump → List ℕ → Type 0
IsBeforeOrAfter old d image = KeepsDumps image old.dumps ⊎ (KeepsDumps image (old.dumps ++ d ∷ []) ⊎ (refused : Dump) × (old.torn ≡ true) × (dump_bytes refused ≡ old.refused) × KeepsDumps image (old.dumps ++ refused ∷ []))

-- after the call the gate is shut, or torn with the body that was refused, now or before
abbrev pub Refuses : {S E T : Type 0} → ShelfState S → Dump → ShelfState S → Result T E → Type 0
Refuses old d new (Ok _) = new.torn ≡ false
Refuses old d new (Err _) = new.torn ≡ true → (new.refused ≡ dump_bytes d) ⊎ (old.torn ≡ true) × (new.refused ≡ old.refused)

-- each image that a crash may leave now has these dumps and nothing more
abbrev pub LeavesDumps : (List ℕ → Type 0) → List Dump → Type 0
LeavesDumps may dumps = (image : List ℕ) → may image → KeepsDumps image dumps

-- ---- looking up

-- the names of the dumps
abbrev pub names_of : List Dump → List (List ℕ)
names_of dumps = map (λ (d : Dump). d.name) dumps

-- whether the name is one of these
abbrev pub is_shelved : List ℕ → List (List ℕ) → Bool
is_shelved name names = list_any (λ other. bytes_eq other name) names

-- the first of the dumps that have the name
abbrev pub first_of : List ℕ → List Dump → Option Dump
first_of name dumps = slice_get (filter (λ (d : Dump). bytes_eq d.name name) dumps) 0

-- the first dump of the name is given, unless the store failed or memory ran out
abbrev pub GivesFirst : List ℕ → List Dump → Result (Option Dump) ShelfError → Type 0
GivesFirst name dumps (Ok found) = found ≡ first_of name dumps
GivesFirst name dumps (Err errors.Failed) = Unit {0}
GivesFirst name dumps (Err errors.NoMemory) = Unit {0}
GivesFirst name dumps (Err (errors.BadRecord _)) = ⊥

-- the shelf is as before, and so are the bytes, where they are told
pub record SameShelf {S : Type 0} (tells : Bool) (held : S → List ℕ) (old new : ShelfState S) : Type 0 where
  pub names : new.names ≡ old.names
  pub dumps : tells ≡ true → new.dumps ≡ old.dumps
  pub torn : new.torn ≡ old.torn
  pub bytes : tells ≡ true → held new.store ≡ held old.store
  pub refused : tells ≡ true → new.refused ≡ old.refused
