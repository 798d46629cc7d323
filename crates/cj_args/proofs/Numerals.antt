-- Numbers as words.
use Rattle.std.proofs.Common.{◌≡◌, ℕ, zero, suc, ◌<◌, ◌≤◌, ◌^◌, true, List, [], ◌∷◌, length, Result, Ok, arith, rules}
use Rattle.std.specs.Char.{is_ascii_digit}
use Rattle.std.specs.List.{list_all}
use Rattle.std.specs.Str.{IsAscii, IsUtf8}
use Rattle.std.specs.Str.Parse.{ParsesUnsigned, digits_value}
use Rattle.std.proofs.lemmas.Bool.{and_parts}
use Rattle.std.proofs.lemmas.Bool.Decides.{nat_tests}
use Rattle.std.proofs.lemmas.Str.{IsUtf8-from_ascii}
use Rattle.std.proofs.lemmas.Str.Parse.{IsNumeralModel, numerals_by_value, parse_gives, digits_value_short}
use Rattle.cj_args.specs.Words.{is_numeral}

-- the digits of the words are std's
numerals : IsNumeralModel (λ z. list_all is_ascii_digit z ≡ true) (digits_value 10)
numerals = numerals_by_value _ (search rules)

digits_ascii : (z : List ℕ) → list_all is_ascii_digit z ≡ true → IsAscii z
digits_ascii [] h i = omega arith
digits_ascii (b ∷ z) h zero = let d = (and_parts (is_ascii_digit b) (list_all is_ascii_digit z) h).0 in grind (arith, nat_tests, d)
digits_ascii (b ∷ z) h (suc i) = digits_ascii z (and_parts (is_ascii_digit b) (list_all is_ascii_digit z) h).1 i

numeral_parts : (z : List ℕ) → is_numeral z ≡ true → (1 ≤ length z) × (length z ≤ 19) × (list_all is_ascii_digit z ≡ true)
numeral_parts z h = (grind (arith, nat_tests), grind (arith, nat_tests), grind (arith, nat_tests))

pub numeral_utf8 : (z : List ℕ) → is_numeral z ≡ true → IsUtf8 z
numeral_utf8 z h = IsUtf8-from_ascii z (digits_ascii z (numeral_parts z h).2)

-- a numeral parses as the number that it writes
pub numeral_parses : {E : Type 0} (z : List ℕ) (r : Result ℕ E) → is_numeral z ≡ true → ParsesUnsigned 64 10 z r → r ≡ Ok (digits_value 10 z)
numeral_parses z r h p =
    let parts = numeral_parts z h in
    let short : digits_value 10 z < 10 ^ 19 = digits_value_short numerals z 19 parts.2 parts.1 in
    parse_gives numerals 64 z r p parts.2 parts.0 (omega arith)
