-- What holds of the fields.
use Rattle.std.specs.Prelude.{◌≡◌, ◌↔◌, true, ℕ, List}
use Rattle.cj_model.specs.declared.value.Value.{Value}
use Rattle.cj_model.specs.Sql.Literals.{IsConstant}
use Rattle.cj_model.specs.Sql.Names.{is_name}
use Rattle.cj_model.specs.Wire.Fields.{str16, str32}
use Rattle.cj_model.specs.Wire.Replies.{value_bytes}
use Rattle.cj_codec.specs.Formats.{IsFormat, HasOneReading}
use Rattle.cj_codec.specs.Fields.{byte, number16, number32, number64, string16, string32, string64, str64, name, value}

-- each field is a format: what is written reads back, and what is read was written
pub record FieldsAreFormats : Type 0 where
  pub of_byte : IsFormat byte
  pub of_number16 : IsFormat number16
  pub of_number32 : IsFormat number32
  pub of_number64 : IsFormat number64
  pub of_string16 : IsFormat string16
  pub of_string32 : IsFormat string32
  pub of_string64 : IsFormat string64
  pub of_name : IsFormat name
  pub of_value : IsFormat value

-- two values of one field whose bytes begin the same bytes are equal
pub record FieldsHaveOneReading : Type 0 where
  pub of_byte : HasOneReading byte
  pub of_number16 : HasOneReading number16
  pub of_number32 : HasOneReading number32
  pub of_number64 : HasOneReading number64
  pub of_string16 : HasOneReading string16
  pub of_string32 : HasOneReading string32
  pub of_string64 : HasOneReading string64
  pub of_name : HasOneReading name
  pub of_value : HasOneReading value

-- the bytes of byte strings, names and values are those of frames and replies
pub record FieldsAreSpelled : Type 0 where
  pub of_string16 : (bytes : List ℕ) → string16.bytes bytes ≡ str16 bytes
  pub of_string32 : (bytes : List ℕ) → string32.bytes bytes ≡ str32 bytes
  pub of_string64 : (bytes : List ℕ) → string64.bytes bytes ≡ str64 bytes
  pub of_name : (bytes : List ℕ) → name.bytes bytes ≡ str16 bytes
  pub of_value : (v : Value) → value.bytes v ≡ value_bytes v

-- a name's field holds exactly the names, and a value's field exactly the constants
pub record FieldsHold : Type 0 where
  pub of_name : (bytes : List ℕ) → name.fits bytes ↔ (is_name bytes ≡ true)
  pub of_value : (v : Value) → value.fits v ↔ IsConstant v
