-- The classes of bytes side by side.
use Rattle.std.proofs.Common.{◌≡◌, refl, ℕ, true, false, arith}
use Rattle.std.specs.Char.{is_ascii_digit}
use Rattle.std.proofs.lemmas.Bool.Decides.{nat_tests}
use Rattle.cj_model.specs.Sql.Lexical.{is_white_space, is_letter, is_word}

-- a letter is no white space
pub letter_not_blank : (b : ℕ) → is_letter b ≡ true → is_white_space b ≡ false
letter_not_blank b h = grind (arith, nat_tests, h)

-- a digit is no white space
pub digit_not_blank : (b : ℕ) → is_ascii_digit b ≡ true → is_white_space b ≡ false
digit_not_blank b h = grind (arith, nat_tests, h)

-- a digit is no letter
pub digit_not_letter : (b : ℕ) → is_ascii_digit b ≡ true → is_letter b ≡ false
digit_not_letter b h = grind (arith, nat_tests, h)

-- what is not in a word is no digit
pub word_not_digit : (b : ℕ) → is_word b ≡ false → is_ascii_digit b ≡ false
word_not_digit b h = grind (arith, nat_tests, h)

-- a letter stands in a word
pub letter_in_word : (b : ℕ) → is_letter b ≡ true → is_word b ≡ true
letter_in_word b h = rw h refl
