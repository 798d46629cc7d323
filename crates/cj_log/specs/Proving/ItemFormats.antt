-- The body of an item as a format, made of the formats of its fields.
use Rattle.std.specs.Prelude.{ℕ, Bool, ◌≡◌, ◌==◌, ◌&&◌, nat_le, cond, if◌then◌else◌, List, [], length, map, Ok, Err, Result}
use Rattle.std.specs.declared.option.Option.{Option}
use Rattle.std.specs.declared.option.Option.TheVariants.{None, Some}
use Rattle.cj_model.specs.declared.limits.TheConstants.{USER_LIMIT}
use Rattle.cj_model.specs.Sql.Names.{is_text}
use Rattle.cj_codec.specs.Fields.{byte, number64, string16, string64, name}
use Rattle.cj_codec.specs.Formats.{Format, behind, mapped, pair, such_that, nothing}
use Rattle.cj_codec.specs.declared.error.Fault.{Fault}
use Rattle.cj_codec.specs.declared.error.CodecError.{CodecError}
use Rattle.cj_codec.specs.declared.error.CodecError.TheVariants as codec
use Rattle.cj_log.specs.declared.error.ItemError.{ItemError}
use Rattle.cj_log.specs.declared.error.ItemError.TheVariants as errors
use Rattle.cj_log.specs.declared.item.LogItem.{LogItem}
use Rattle.cj_log.specs.declared.item.LogItem.TheVariants.{Entry, Marker}
use Rattle.cj_log.specs.Items.{backend_byte, item_bytes, IsItem, IsNoItem}

-- ---- fields

-- UTF-8 without byte 0, no longer than the name of a user
abbrev pub is_user_name : List ℕ → Bool
is_user_name text = nat_le (length text) USER_LIMIT && is_text text

abbrev pub user : Format (List ℕ)
user = such_that is_user_name string16

abbrev pub text : Format (List ℕ)
text = such_that is_text string64

abbrev pub backend_of_byte : ℕ → Option ℕ
backend_of_byte b = if b == 255 then None else Some b

abbrev pub backend : Format (Option ℕ)
backend = mapped backend_of_byte backend_byte byte

-- ---- what is in an item of this kind

abbrev pub EntryFields : Type 0
EntryFields = ℕ × (ℕ × (ℕ × (ℕ × (List ℕ × List ℕ))))

abbrev pub entry_from : EntryFields → LogItem
entry_from p = Entry (record { number = p.0; session = p.1.0; seq = p.1.1.0; tx = p.1.1.1.0; user = p.1.1.1.1.0; text = p.1.1.1.1.1 })

abbrev pub entry_in : LogItem → EntryFields
entry_in (Entry e) = (e.number, (e.session, (e.seq, (e.tx, (e.user, e.text)))))
entry_in (Marker m) = (0, (0, (0, (0, ([], [])))))

abbrev pub entry : Format LogItem
entry = mapped entry_from entry_in (pair number64 (pair number64 (pair number64 (pair number64 (pair user text)))))

abbrev pub MarkerFields : Type 0
MarkerFields = ℕ × (List ℕ × Option ℕ)

abbrev pub marker_from : MarkerFields → LogItem
marker_from p = Marker (record { after = p.0; name = p.1.0; b = p.1.1 })

abbrev pub marker_in : LogItem → MarkerFields
marker_in (Entry e) = (0, ([], None))
marker_in (Marker m) = (m.after, (m.name, m.b))

abbrev pub marker : Format LogItem
marker = mapped marker_from marker_in (pair number64 (pair name backend))

-- ---- kind and fields

abbrev pub kind_of : LogItem → ℕ
kind_of (Entry e) = 1
kind_of (Marker m) = 2

unfoldable pub fields_of : ℕ → Format LogItem
fields_of kind = cond (kind == 1) entry (cond (kind == 2) marker nothing)

abbrev pub item : Format LogItem
item = behind byte kind_of fields_of

-- ---- reading

-- the error of reading an item, for an error of the codec
abbrev pub item_error : CodecError → ItemError
item_error (codec.Cut n) = errors.NoItem
item_error (codec.BadField n) = errors.NoItem
item_error codec.NoMemory = errors.NoMemory

-- the answer is the item whose body this is, or that no item has it, unless memory ran out
abbrev pub FindsItem : List ℕ → Result LogItem ItemError → Type 0
FindsItem body (Ok x) = (body ≡ item_bytes x) × IsItem x
FindsItem body (Err errors.NoItem) = IsNoItem body
FindsItem body (Err errors.NoMemory) = Unit {0}

-- ---- the items of bodies

-- the item that was read, or any item if none was
abbrev pub item_found : Result (LogItem × List ℕ) Fault → LogItem
item_found (Ok (x, rest)) = x
item_found (Err fault) = Marker (record { after = 0; name = []; b = None })

-- the item whose body this is
unfoldable pub item_of : List ℕ → LogItem
item_of body = item_found (item.reads body)

-- the items whose bodies these are
abbrev pub items_in : List (List ℕ) → List LogItem
items_in list = map item_of list
