-- The tokens of a text: words, numbers, strings and symbols, each the longest that the text has there.
use Rattle.std.specs.Prelude.{ℕ, ◌+◌, ◌-◌, ◌*◌, ◌^◌, ◌≤◌, ◌≡◌, Bool, true, false, ◌||◌, ◌==◌, if◌then◌else◌, List, [], ◌∷◌, ◌++◌, length, map, fold, ◌⊎◌}
use Rattle.std.specs.declared.option.Option.{Option}
use Rattle.std.specs.declared.option.Option.TheVariants.{None, Some}
use Rattle.std.specs.Char.{is_ascii_digit, is_ascii_alphabetic}
use Rattle.std.specs.Str.{bytes_eq}
use Rattle.cj_model.specs.Sql.Names.{lower, IsText}
use Rattle.cj_model.specs.declared.token.Keyword.{Keyword}
use Rattle.cj_model.specs.declared.token.Symbol.{Symbol}
use Rattle.cj_model.specs.declared.token.Symbol.TheVariants as symbol
use Rattle.cj_model.specs.declared.token.Token.{Token}
use Rattle.cj_model.specs.declared.token.Token.TheVariants as token
use Rattle.cj_model.specs.declared.token.TheConstants.{KEYWORDS}
use Rattle.cj_model.specs.declared.limits.TheConstants.{NAME_LIMIT, TEXT_LIMIT}

-- ---- bytes

-- white space: space, tab, LF, CR
abbrev pub is_white_space : ℕ → Bool
is_white_space b = b == 32 || b == 9 || b == 10 || b == 13

-- a letter or `_`
abbrev pub is_letter : ℕ → Bool
is_letter b = is_ascii_alphabetic b || b == 95

-- a byte that may continue a word: a letter, a digit or `_`
abbrev pub is_word : ℕ → Bool
is_word b = is_letter b || is_ascii_digit b

-- each byte passes the test
abbrev pub EachByte : (ℕ → Bool) → List ℕ → Type 0
EachByte p [] = Unit {0}
EachByte p (b ∷ z) = (p b ≡ true) × EachByte p z

-- the first of the bytes, if there is one, doesn't pass the test
abbrev pub EndsBefore : (ℕ → Bool) → List ℕ → Type 0
EndsBefore p [] = Unit {0}
EndsBefore p (b ∷ z) = p b ≡ false

-- ---- the spelling of a token

abbrev pub IsWordSpelling : List ℕ → Type 0
IsWordSpelling [] = ⊥
IsWordSpelling (b ∷ z) = (is_letter b ≡ true) × EachByte is_word z

abbrev pub IsDigits : List ℕ → Type 0
IsDigits [] = ⊥
IsDigits (b ∷ z) = (is_ascii_digit b ≡ true) × EachByte is_ascii_digit z

-- the number that digits spell
abbrev pub number_spelled : List ℕ → ℕ
number_spelled = fold (λ n b. 10 * n + (b - 48)) 0

-- the bytes with each quote doubled
abbrev pub doubled : List ℕ → List ℕ
doubled [] = []
doubled (b ∷ z) = if b == 39 then 39 ∷ 39 ∷ doubled z else b ∷ doubled z

abbrev pub find_keyword : List (List ℕ × Keyword) → List ℕ → Option Keyword
find_keyword [] word = None
find_keyword (k ∷ ks) word = if bytes_eq k.0 word then Some k.1 else find_keyword ks word

-- the reserved word of these bytes, which are in lower case
unfoldable pub keyword : List ℕ → Option Keyword
keyword = find_keyword (map (λ k. (k.0.now, k.1)) KEYWORDS)

abbrev pub IsSymbol : Symbol → List ℕ → Type 0
IsSymbol symbol.Open z = z ≡ 40 ∷ []
IsSymbol symbol.Close z = z ≡ 41 ∷ []
IsSymbol symbol.Comma z = z ≡ 44 ∷ []
IsSymbol symbol.Dot z = z ≡ 46 ∷ []
IsSymbol symbol.Star z = z ≡ 42 ∷ []
IsSymbol symbol.Semi z = z ≡ 59 ∷ []
IsSymbol symbol.Eq z = z ≡ 61 ∷ []
IsSymbol symbol.Ne z = (z ≡ 60 ∷ 62 ∷ []) ⊎ (z ≡ 33 ∷ 61 ∷ [])
IsSymbol symbol.Lt z = z ≡ 60 ∷ []
IsSymbol symbol.Le z = z ≡ 60 ∷ 61 ∷ []
IsSymbol symbol.Gt z = z ≡ 62 ∷ []
IsSymbol symbol.Ge z = z ≡ 62 ∷ 61 ∷ []
IsSymbol symbol.Plus z = z ≡ 43 ∷ []
IsSymbol symbol.Minus z = z ≡ 45 ∷ []

-- a word: a letter or `_`, then letters, digits and `_`, at most `NAME_LIMIT` bytes; read in lower case
-- a number: digits, at most 2^63
-- a string: in quotes, with each quote in it twice; its value is a text of at most `TEXT_LIMIT` bytes
abbrev pub Spells : Token → List ℕ → Type 0
Spells (token.Word k) z = IsWordSpelling z × (length z ≤ NAME_LIMIT) × (keyword (map lower z) ≡ Some k)
Spells (token.Name n) z = IsWordSpelling z × (length z ≤ NAME_LIMIT) × (keyword n ≡ None) × (n ≡ map lower z)
Spells (token.Number n) z = IsDigits z × (n ≡ number_spelled z) × (n ≤ 2 ^ 63)
Spells (token.Text x) z = (z ≡ 39 ∷ doubled x ++ 39 ∷ []) × IsText x × (length x ≤ TEXT_LIMIT)
Spells (token.Symbol s) z = IsSymbol s z

-- The token is the longest there: what follows doesn't continue it. Two hyphens are never side by side.
abbrev pub EndsToken : Token → List ℕ → Type 0
EndsToken (token.Word k) z = EndsBefore is_word z
EndsToken (token.Name n) z = EndsBefore is_word z
EndsToken (token.Number n) z = EndsBefore is_word z
EndsToken (token.Text x) z = EndsBefore (λ b. b == 39) z
EndsToken (token.Symbol symbol.Lt) z = EndsBefore (λ b. b == 61 || b == 62) z
EndsToken (token.Symbol symbol.Gt) z = EndsBefore (λ b. b == 61) z
EndsToken (token.Symbol symbol.Minus) z = EndsBefore (λ b. b == 45) z
EndsToken (token.Symbol _) z = Unit {0}

-- ---- a text's tokens

-- the text begins with white space and this token, and then comes the rest
pub record BeginsWithToken (text : List ℕ) (t : Token) (rest : List ℕ) : Type 0 where
  pub blanks : List ℕ
  pub spelling : List ℕ
  pub text_is : text ≡ blanks ++ (spelling ++ rest)
  pub blank : EachByte is_white_space blanks
  pub spells : Spells t spelling
  pub ends : EndsToken t rest

-- The tokens of a text. Outside strings each byte is ASCII by its spelling, and a string's value is a text,
-- so no text that isn't UTF-8 without byte 0 has tokens.
abbrev pub Tokens : List ℕ → List Token → Type 0
Tokens text [] = EachByte is_white_space text
Tokens text (t ∷ ts) = (rest : List ℕ) × BeginsWithToken text t rest × Tokens rest ts
