-- The literal of a value reads as that value.
use Rattle.std.proofs.Common.{refl, sym, ℕ, suc, ◌≤◌, ◌<◌, ◌^◌, ◌==◌, List, [], ◌∷◌, length, arith, pos, negsuc}
use Rattle.std.proofs.lemmas.Fmt.{digits_decimal, digits_value-decimal, decimal_nonempty}
use Rattle.cj_print.proofs.Common.{Token, append-nil, decimal, is_ascii_digit, nat_tests}
use Rattle.cj_model.specs.declared.token.Symbol.TheVariants as symbol
use Rattle.cj_model.specs.declared.token.Token.TheVariants as token
use Rattle.cj_model.specs.declared.value.Value.TheVariants as value
use Rattle.cj_model.specs.Sql.Lexical.{EachByte, EndsBefore, IsDigits, Spells, EndsToken, Tokens}
use Rattle.cj_model.specs.Sql.Literals.{literal, LiteralsReadBack}
use Rattle.cj_print.proofs.Texts.{numerals}

-- digits, of which there is one at least
some_digits : (z : List ℕ) → EachByte is_ascii_digit z → 0 < length z → IsDigits z
some_digits [] h l = absurd (omega arith)
some_digits (b ∷ z) h l = h

-- a printed number is digits
pub decimal_digits : (n : ℕ) → n < 2 ^ 64 → IsDigits (decimal n)
decimal_digits n h = some_digits (decimal n) (digits_decimal numerals n h) (decimal_nonempty n h)

-- digits begin with no hyphen
no_hyphen : (z : List ℕ) → IsDigits z → EndsBefore (λ b. b == 45) z
no_hyphen [] h = absurd h
no_hyphen (b ∷ z) h = let d = h.0 in grind (arith, nat_tests, d)

-- a text that is one token
alone : (z : List ℕ) (t : Token) → Spells t z → EndsToken t [] → Tokens z (t ∷ [])
alone z t s e = ([], record { blanks = []; spelling = z; text_is = sym (append-nil z); blank = tt; spells = s; ends = e }, tt)

-- the tokens of a printed number
number_tokens : (n : ℕ) → n ≤ 2 ^ 63 → Tokens (decimal n) (token.Number n ∷ [])
number_tokens n h =
    let small : n < 2 ^ 64 = omega arith in
    alone (decimal n) (token.Number n) (decimal_digits n small, sym (digits_value-decimal numerals n small), h) tt

-- the tokens of a printed number behind a minus
minus_tokens : (n : ℕ) → n ≤ 2 ^ 63 → Tokens (45 ∷ decimal n) (token.Symbol symbol.Minus ∷ token.Number n ∷ [])
minus_tokens n h = (
  decimal n,
  record { blanks = []; spelling = 45 ∷ []; text_is = refl; blank = tt; spells = refl; ends = no_hyphen (decimal n) (decimal_digits n (omega arith)) },
  number_tokens n h,
)

-- each literal reads back
pub literals_read_back : LiteralsReadBack
literals_read_back (value.Int (pos n)) h = record { tokens = number_tokens n (omega arith); fits = h; meant = refl }
literals_read_back (value.Int (negsuc n)) h = record { tokens = minus_tokens (suc n) (omega arith); fits = omega arith; meant = refl }
literals_read_back (value.Text t) h = record { tokens = alone (literal (value.Text t)) (token.Text t) (refl, h.0, h.1) tt; fits = tt; meant = refl }
