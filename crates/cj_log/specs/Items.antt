-- The items of the log as bytes.
use Rattle.std.specs.Prelude.{◌≡◌, ◌≢◌, ℕ, ◌^◌, ◌<◌, ◌≤◌, true, List, [], ◌∷◌, ◌++◌, length}
use Rattle.std.specs.declared.option.Option.{Option}
use Rattle.std.specs.declared.option.Option.TheVariants.{None, Some}
use Rattle.std.specs.Int.{w64, to_be_bytes}
use Rattle.cj_model.specs.declared.limits.TheConstants.{USER_LIMIT}
use Rattle.cj_model.specs.Wire.Fields.{str16}
use Rattle.cj_model.specs.Sql.Names.{IsText, is_name}
use Rattle.cj_codec.specs.Fields.{str64}
use Rattle.cj_log.specs.declared.item.LogEntry.{LogEntry}
use Rattle.cj_log.specs.declared.item.LogMarker.{LogMarker}
use Rattle.cj_log.specs.declared.item.LogItem.{LogItem}
use Rattle.cj_log.specs.declared.item.LogItem.TheVariants.{Entry, Marker}

-- a backend's number, or 255 for none
abbrev pub backend_byte : Option ℕ → ℕ
backend_byte None = 255
backend_byte (Some b) = b

-- the body of an entry: 01, number, session, request number, transaction, user and text;
-- or of a marker: 02, how many entries come before it, name and backend
abbrev pub item_bytes : LogItem → List ℕ
item_bytes (Entry e) = 1 ∷ to_be_bytes w64 e.number ++ (to_be_bytes w64 e.session ++ (to_be_bytes w64 e.seq ++ (to_be_bytes w64 e.tx ++ (str16 e.user ++ str64 e.text))))
item_bytes (Marker m) = 2 ∷ to_be_bytes w64 m.after ++ (str16 m.name ++ backend_byte m.b ∷ [])

-- an entry whose fields fit the body of an entry
pub record IsEntry (e : LogEntry) : Type 0 where
  pub number : e.number < 2 ^ 64
  pub session : e.session < 2 ^ 64
  pub seq : e.seq < 2 ^ 64
  pub tx : e.tx < 2 ^ 64
  pub user : IsText e.user
  pub short : length e.user ≤ USER_LIMIT
  pub text : IsText e.text
  pub long : length e.text < 2 ^ 64

-- a backend, or none, that fits its byte in a marker's body
abbrev pub FitsBackendByte : Option ℕ → Type 0
FitsBackendByte None = Unit {0}
FitsBackendByte (Some b) = b < 255

-- a marker whose fields fit the body of a marker
pub record IsMarker (m : LogMarker) : Type 0 where
  pub after : m.after < 2 ^ 64
  pub name : is_name m.name ≡ true
  pub backend : FitsBackendByte m.b

abbrev pub IsItem : LogItem → Type 0
IsItem (Entry e) = IsEntry e
IsItem (Marker m) = IsMarker m

-- An item that may be appended. The types of its fields give the rest of what makes it an item.
abbrev pub CanAppend : LogItem → Type 0
CanAppend (Entry e) = length e.user ≤ USER_LIMIT
CanAppend (Marker m) = (m.name ≢ []) × (m.b ≢ Some 255)

-- no item has this body
abbrev pub IsNoItem : List ℕ → Type 0
IsNoItem body = (item : LogItem) → IsItem item → body ≢ item_bytes item

-- a body is that of one item at most
abbrev pub BodiesFixItems : Type 0
BodiesFixItems = (a b : LogItem) → IsItem a → IsItem b → item_bytes a ≡ item_bytes b → a ≡ b
