-- The fields of the binary formats: numbers, byte strings after their length, and values.
use Rattle.std.specs.Prelude.{◌≡◌, ℕ, ◌^◌, ◌<◌, ◌&&◌, zero, suc, Bool, ℤ, pos, List, [], ◌∷◌, ◌++◌, length, Ok, Err, nat_le}
use Rattle.std.specs.Int.{Width, w16, w32, w64, byte_len, to_be_bytes, cast_unsigned, cast_signed}
use Rattle.cj_model.specs.declared.value.Value.{Value}
use Rattle.cj_model.specs.declared.value.Value.TheVariants.{Int, Text}
use Rattle.cj_model.specs.declared.limits.TheConstants.{TEXT_LIMIT}
use Rattle.cj_model.specs.Wire.Fields.{number_at, bytes_at}
use Rattle.cj_model.specs.Sql.Names.{is_name, is_text}
use Rattle.cj_codec.specs.declared.error.Fault.TheVariants.{Cut}
use Rattle.cj_codec.specs.Formats.{Reading, Format, behind, mapped, such_that, nothing}

abbrev pub byte_at : List ℕ → Reading ℕ
byte_at [] = Err Cut
byte_at (b ∷ rest) = Ok (b, rest)

-- a byte
abbrev pub byte : Format ℕ
byte = record { bytes = λ n. n ∷ []; fits = λ n. n < 256; partial = λ bytes. bytes ≡ []; reads = byte_at }

-- a number of some width, the most significant byte first
abbrev pub number : Width → ℕ → Format ℕ
number w limit = record { bytes = to_be_bytes w; fits = λ n. n < limit; partial = λ bytes. length bytes < byte_len w; reads = number_at Cut w }

abbrev pub number16 : Format ℕ
number16 = number w16 (2 ^ 16)

abbrev pub number32 : Format ℕ
number32 = number w32 (2 ^ 32)

abbrev pub number64 : Format ℕ
number64 = number w64 (2 ^ 64)

-- n bytes
abbrev pub block : ℕ → Format (List ℕ)
block n = record { bytes = λ x. x; fits = λ x. length x ≡ n; partial = λ bytes. length bytes < n; reads = bytes_at Cut n }

-- bytes after their length
abbrev pub string : Format ℕ → Format (List ℕ)
string count = behind count length block

abbrev pub string16 : Format (List ℕ)
string16 = string number16

abbrev pub string32 : Format (List ℕ)
string32 = string number32

abbrev pub string64 : Format (List ℕ)
string64 = string number64

-- a name after its length of two bytes
abbrev pub name : Format (List ℕ)
name = such_that is_name string16

-- UTF-8 without byte 0, no longer than the texts of a table
abbrev pub is_stored_text : List ℕ → Bool
is_stored_text text = nat_le (length text) TEXT_LIMIT && is_text text

abbrev pub stored_text : Format (List ℕ)
stored_text = such_that is_stored_text string32

-- two's complement in eight bytes
abbrev pub integer : Format ℤ
integer = mapped (cast_signed w64) (cast_unsigned w64) number64

-- the integer of a value that is one, the text of a value that is one
abbrev pub int_in : Value → ℤ
int_in (Int n) = n
int_in (Text t) = pos 0

abbrev pub text_in : Value → List ℕ
text_in (Int n) = []
text_in (Text t) = t

-- the byte in front of a value: 01 of an integer, 02 of a text
abbrev pub tag_of : Value → ℕ
tag_of (Int n) = 1
tag_of (Text t) = 2

abbrev pub value_of_tag : ℕ → Format Value
value_of_tag zero = nothing
value_of_tag (suc zero) = mapped Int int_in integer
value_of_tag (suc (suc zero)) = mapped Text text_in stored_text
value_of_tag (suc (suc (suc tag))) = nothing

abbrev pub value : Format Value
value = behind byte tag_of value_of_tag

-- bytes after their length of eight bytes
abbrev pub str64 : List ℕ → List ℕ
str64 bytes = to_be_bytes w64 (length bytes) ++ bytes
