-- The token at the front of a text, as a function that the code follows and the proofs compare with the grammar.
use Rattle.std.specs.Prelude.{ℕ, ◌^◌, ◌≡◌, Bool, true, false, ◌&&◌, ◌==◌, if◌then◌else◌, nat_le, List, [], ◌∷◌, ◌++◌, length, map, take, drop, Option, Some, None, Result, Ok, Err, Vec}
use Rattle.std.specs.declared.alloc.Global.{Global}
use Rattle.std.specs.List.{prefix_len}
use Rattle.std.specs.Char.{is_ascii_digit}
use denote.Ref.{Bor}
use Rattle.cj_model.specs.Sql.Names.{lower, is_text, name_of}
use Rattle.cj_model.specs.Sql.Lexical.{is_white_space, is_letter, is_word, number_spelled, keyword}
use Rattle.cj_model.specs.declared.token.Keyword.{Keyword}
use Rattle.cj_model.specs.declared.token.Symbol.{Symbol}
use Rattle.cj_model.specs.declared.token.Symbol.TheVariants as symbol
use Rattle.cj_model.specs.declared.token.Token.{Token}
use Rattle.cj_model.specs.declared.token.Token.TheVariants as token
use Rattle.cj_model.specs.declared.limits.TheConstants.{TEXT_LIMIT}
use Rattle.cj_lex.specs.declared.error.SqlError.{SqlError}
use Rattle.cj_lex.specs.declared.error.SqlError.TheVariants.{Syntax, NoMemory}
use Rattle.cj_lex.specs.declared.bytes.Class.{Class}
use Rattle.cj_lex.specs.declared.bytes.Class.TheVariants as class

-- ---- bytes by their class

-- whether the byte is of the class
abbrev pub is_in : Class → ℕ → Bool
is_in class.Blank b = is_white_space b
is_in class.Digit b = is_ascii_digit b
is_in class.Letter b = is_letter b
is_in class.Word b = is_word b

-- how many bytes at the front are
unfoldable pub count_of_class : Class → List ℕ → ℕ
count_of_class c z = prefix_len (is_in c) z

-- whether the first byte is
abbrev pub begins : Class → List ℕ → Bool
begins c [] = false
begins c (b ∷ z) = is_in c b

-- whether the first byte is this one
abbrev pub begins_with : ℕ → List ℕ → Bool
begins_with c [] = false
begins_with c (b ∷ z) = b == c

-- ---- what is cut off

-- a token and the text after it; or nothing but white space; or neither
pub data Cut : Type 0 where
  finished : Cut
  bad : Cut
  cut : Token → List ℕ → Cut

-- ---- words

-- the token of a word in lower case: a reserved word, where it is one, or a name
abbrev pub reserved_or_name : Option Keyword → List ℕ → Token
reserved_or_name None name = token.Name name
reserved_or_name (Some k) name = token.Word k

abbrev pub word_token : List ℕ → Token
word_token name = reserved_or_name (keyword name) name

-- a word that is too long is no name
abbrev pub cut_name : Option (List ℕ) → List ℕ → Cut
cut_name None rest = bad
cut_name (Some name) rest = cut (word_token name) rest

-- the word at the front of a text that begins with a letter
unfoldable pub cut_word : List ℕ → Cut
cut_word z = let n = count_of_class class.Word z in cut_name (name_of (map lower (take n z))) (drop n z)

-- ---- numbers

-- the number at the front of a text that begins with a digit
unfoldable pub cut_number : List ℕ → Cut
cut_number z = let n = count_of_class class.Digit z in
    if begins class.Word (drop n z) then bad
    else (if nat_le (number_spelled (take n z)) (2 ^ 63) then cut (token.Number (number_spelled (take n z))) (drop n z) else bad)

-- ---- strings

-- what precedes the closing quote, with each quote once, and what follows it
pub data Closed : Type 0 where
  unclosed : Closed
  closed : List ℕ → List ℕ → Closed

-- the closed string with more bytes at its front; unclosed where it is unclosed
abbrev pub with_front : List ℕ → Closed → Closed
with_front front unclosed = unclosed
with_front front (closed x rest) = closed (front ++ x) rest

-- the flag says that a quote has just come, which ends the string unless another follows
abbrev pub close_string : Bool → List ℕ → Closed
close_string false [] = unclosed
close_string true [] = closed [] []
close_string false (b ∷ z) = if b == 39 then close_string true z else with_front (b ∷ []) (close_string false z)
close_string true (b ∷ z) = if b == 39 then with_front (39 ∷ []) (close_string false z) else closed [] (b ∷ z)

abbrev pub cut_closed : Closed → Cut
cut_closed unclosed = bad
cut_closed (closed x rest) = if nat_le (length x) TEXT_LIMIT && is_text x then cut (token.Text x) rest else bad

-- the string whose opening quote was just before this text
unfoldable pub cut_string : List ℕ → Cut
cut_string z = cut_closed (close_string false z)

-- ---- symbols

-- a symbol that begins with `<`, of which this is the text after that
abbrev pub less : List ℕ → Cut
less z = if begins_with 61 z then cut (token.Symbol symbol.Le) (drop 1 z)
    else (if begins_with 62 z then cut (token.Symbol symbol.Ne) (drop 1 z) else cut (token.Symbol symbol.Lt) z)

-- with `>`
abbrev pub greater : List ℕ → Cut
greater z = if begins_with 61 z then cut (token.Symbol symbol.Ge) (drop 1 z) else cut (token.Symbol symbol.Gt) z

-- with `-`
abbrev pub hyphen : List ℕ → Cut
hyphen z = if begins_with 45 z then bad else cut (token.Symbol symbol.Minus) z

-- with `!`
abbrev pub exclamation : List ℕ → Cut
exclamation z = if begins_with 61 z then cut (token.Symbol symbol.Ne) (drop 1 z) else bad

-- the symbols of one byte that nothing goes on with
unfoldable pub single : ℕ → Option Symbol
single b =
    if b == 40 then Some symbol.Open else (if b == 41 then Some symbol.Close else (if b == 44 then Some symbol.Comma else (if b == 46 then Some symbol.Dot
    else (if b == 42 then Some symbol.Star else (if b == 59 then Some symbol.Semi else (if b == 61 then Some symbol.Eq else (if b == 43 then Some symbol.Plus else None)))))))

abbrev pub cut_single : Option Symbol → List ℕ → Cut
cut_single None z = bad
cut_single (Some x) z = cut (token.Symbol x) z

-- the symbol that begins with the byte and may go on in the text
unfoldable pub cut_symbol : ℕ → List ℕ → Cut
cut_symbol b z =
    if b == 60 then less z else (if b == 62 then greater z else (if b == 45 then hyphen z else (if b == 33 then exclamation z else cut_single (single b) z)))

-- ---- the first token

-- the token at the front of a text without leading white space
unfoldable pub cut_at : List ℕ → Cut
cut_at [] = finished
cut_at (b ∷ z) =
    if is_letter b then cut_word (b ∷ z) else (if is_ascii_digit b then cut_number (b ∷ z) else (if b == 39 then cut_string z else cut_symbol b z))

-- the first token, past white space
unfoldable pub first_token : List ℕ → Cut
first_token z = cut_at (drop (count_of_class class.Blank z) z)

-- ---- what the code answers

-- what was cut off; `Syntax` exactly where there is no token
abbrev pub AnswersCut : Cut → Result (Option (Token × Bor (List ℕ))) SqlError → Type 0
AnswersCut c (Ok None) = c ≡ finished
AnswersCut c (Ok (Some p)) = c ≡ cut p.0 p.1.now
AnswersCut c (Err Syntax) = c ≡ bad
AnswersCut c (Err NoMemory) = Unit {0}

-- the token that was cut off a text that is not at its end; `Syntax` exactly where there is no token
abbrev pub CutsOne : Cut → Result (Token × Bor (List ℕ)) SqlError → Type 0
CutsOne c (Ok p) = c ≡ cut p.0 p.1.now
CutsOne c (Err Syntax) = c ≡ bad
CutsOne c (Err NoMemory) = Unit {0}

-- the symbol that was cut off; none exactly where there is no symbol
abbrev pub CutsSymbol : Cut → Option (Symbol × Bor (List ℕ)) → Type 0
CutsSymbol c (Some p) = c ≡ cut (token.Symbol p.0) p.1.now
CutsSymbol c None = c ≡ bad

-- the string before the closing quote, and the text after it
abbrev pub AnswersClosed : Closed → Option (Vec ℕ Global × Bor (List ℕ)) → Type 0
AnswersClosed c None = c ≡ unclosed
AnswersClosed c (Some p) = c ≡ closed p.0.items p.1.now
