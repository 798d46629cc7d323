-- The fields are formats.
use Rattle.std.proofs.Common.{◌≡◌, ℕ, ◌^◌, ◌<◌, zero, suc, pos, true, ltb, List, [], ◌∷◌, length, take, drop, Ok, Err, refl, ap, subst}
use Rattle.std.specs.Int.{Width, w16, w32, w64, byte_len, from_be_bytes, cast_signed, cast_unsigned}
use Rattle.std.proofs.lemmas.Int.{of_z-to_z}
use Rattle.cj_model.specs.declared.value.Value.{Value}
use Rattle.cj_model.specs.declared.value.Value.TheVariants.{Int, Text}
use Rattle.std.proofs.lemmas.Bool.{ltb-true, lt-ltb}
use Rattle.cj_model.proofs.Fields.{guard_err, ok_is, IsWide, wide16, wide32, wide64, number_takes, number_again, bytes_takes, bytes_again}
use Rattle.cj_codec.specs.declared.error.Fault.{Fault}
use Rattle.cj_codec.specs.declared.error.Fault.TheVariants.{Cut}
use Rattle.cj_codec.specs.Formats.{Format, AreBytes, IsFormat}
use Rattle.cj_codec.specs.Fields.{byte_at, byte, number, number16, number32, number64, block, string, string16, string32, string64, name, is_stored_text, stored_text, integer, int_in, text_in, tag_of, value_of_tag, value}
use Rattle.cj_model.specs.Sql.Names.{is_name}
use Rattle.cj_model.specs.Wire.Replies.{value_bytes}
use Rattle.cj_codec.specs.Laws.{FieldsAreFormats, FieldsHaveOneReading, FieldsAreSpelled}
use Rattle.cj_codec.proofs.Formats.{one_reading, behind_law, mapped_law, such_that_law, nothing_law}

byte_whole : (bytes : List ℕ) (x : ℕ) (rest : List ℕ) → AreBytes bytes → byte_at bytes ≡ Ok (x, rest) → (bytes ≡ x ∷ rest) × (x < 256)
byte_whole [] x rest are e = absurd cc
byte_whole (b ∷ after) x rest are e =
    subst (λ (z : ℕ × List ℕ). (b ∷ after ≡ z.0 ∷ z.1) × (z.0 < 256)) (ok_is {E = Fault} (b, after) (x, rest) e) (refl, are 0)

byte_inside : (bytes : List ℕ) → byte_at bytes ≡ Err Cut → bytes ≡ []
byte_inside [] e = refl
byte_inside (b ∷ rest) e = absurd cc

pub byte_law : IsFormat byte
byte_law = record {
  again = λ x rest fits. refl;
  whole = byte_whole;
  inside = λ bytes are e. byte_inside bytes e;
  cut = λ bytes part. ap byte_at part;
}

pub number_law : (w : Width) (limit : ℕ) → IsWide w limit → IsFormat (number w limit)
number_law w limit wide = record {
  again = λ n rest fits. number_again Cut w limit wide n rest fits;
  whole = λ bytes n rest are e. let t = number_takes Cut w limit wide bytes (n, rest) are e in (t.0.parts, t.1);
  inside = λ bytes are e.
      guard_err (λ d. length bytes < byte_len w) (ltb (length bytes) (byte_len w)) Cut Cut (Ok (from_be_bytes w (take (byte_len w) bytes), drop (byte_len w) bytes))
      (λ few. ltb-true _ _ few) (λ many never. absurd cc) e;
  cut = λ bytes part. let few : ltb (length bytes) (byte_len w) ≡ true = lt-ltb _ _ part in rw few refl;
}

pub block_law : (n : ℕ) → IsFormat (block n)
block_law n = record {
  again = λ x rest fits. bytes_again Cut n x rest fits;
  whole = λ bytes x rest are e. let t = bytes_takes Cut n bytes (x, rest) are e in (t.0.parts, t.1);
  inside = λ bytes are e.
      guard_err (λ d. length bytes < n) (ltb (length bytes) n) Cut Cut (Ok (take n bytes, drop n bytes))
      (λ few. ltb-true _ _ few) (λ many never. absurd cc) e;
  cut = λ bytes part. let few : ltb (length bytes) n ≡ true = lt-ltb _ _ part in rw few refl;
}

pub number16_law : IsFormat number16
number16_law = number_law w16 (2 ^ 16) wide16

pub number32_law : IsFormat number32
number32_law = number_law w32 (2 ^ 32) wide32

pub number64_law : IsFormat number64
number64_law = number_law w64 (2 ^ 64) wide64

pub string_law : (count : Format ℕ) → IsFormat count → IsFormat (string count)
string_law count law = behind_law count length block law block_law (λ n x fits. fits)

pub name_law : IsFormat name
name_law = such_that_law is_name string16 (string_law number16 number16_law)

pub stored_text_law : IsFormat stored_text
stored_text_law = such_that_law is_stored_text string32 (string_law number32 number32_law)

pub integer_law : IsFormat integer
integer_law = mapped_law (cast_signed w64) (cast_unsigned w64) number64 number64_law (λ n fits. of_z-to_z w64 n fits)

value_of_tag_law : (tag : ℕ) → IsFormat (value_of_tag tag)
value_of_tag_law zero = nothing_law
value_of_tag_law (suc zero) = mapped_law Int int_in integer integer_law (λ n fits. refl)
value_of_tag_law (suc (suc zero)) = mapped_law Text text_in stored_text stored_text_law (λ t fits. refl)
value_of_tag_law (suc (suc (suc tag))) = nothing_law

tagged : (tag : ℕ) (v : Value) → (value_of_tag tag).fits v → tag_of v ≡ tag
tagged zero v fits = absurd fits
tagged (suc zero) (Int n) fits = refl
tagged (suc zero) (Text t) fits = let no : Int (pos 0) ≡ Text t = fits.1 in absurd cc
tagged (suc (suc zero)) (Int n) fits = let no : Text [] ≡ Int n = fits.1 in absurd cc
tagged (suc (suc zero)) (Text t) fits = refl
tagged (suc (suc (suc tag))) v fits = absurd fits

pub value_law : IsFormat value
value_law = behind_law byte tag_of value_of_tag byte_law value_of_tag_law tagged

pub fields_law : FieldsAreFormats
fields_law = record {
  of_byte = byte_law;
  of_number16 = number16_law;
  of_number32 = number32_law;
  of_number64 = number64_law;
  of_string16 = string_law number16 number16_law;
  of_string32 = string_law number32 number32_law;
  of_string64 = string_law number64 number64_law;
  of_name = name_law;
  of_value = value_law;
}

pub fields_once : FieldsHaveOneReading
fields_once = record {
  of_byte = one_reading byte byte_law;
  of_number16 = one_reading number16 number16_law;
  of_number32 = one_reading number32 number32_law;
  of_number64 = one_reading number64 number64_law;
  of_string16 = one_reading string16 (string_law number16 number16_law);
  of_string32 = one_reading string32 (string_law number32 number32_law);
  of_string64 = one_reading string64 (string_law number64 number64_law);
  of_name = one_reading name name_law;
  of_value = one_reading value value_law;
}

pub value_same : (v : Value) → value.bytes v ≡ value_bytes v
value_same (Int n) = refl
value_same (Text t) = refl

pub fields_spelled : FieldsAreSpelled
fields_spelled = record { of_string16 = λ bytes. refl; of_string32 = λ bytes. refl; of_string64 = λ bytes. refl; of_name = λ bytes. refl; of_value = value_same }
