-- Readers as functions on the tokens that are left: their answers, how one follows another, and those of single
-- tokens.
use Rattle.std.specs.Prelude.{ℕ, zero, suc, Bool, true, false, if◌then◌else◌, List, [], ◌∷◌, ◌++◌, drop}
use denote.Enum.Bare.{sameb}
use Rattle.cj_model.specs.contracts.token.Keyword as keyword_type
use Rattle.cj_model.specs.contracts.token.Symbol as symbol_type
use Rattle.cj_model.specs.declared.token.Keyword.{Keyword}
use Rattle.cj_model.specs.declared.token.Symbol.{Symbol}
use Rattle.cj_model.specs.declared.token.Symbol.TheVariants as symbol
use Rattle.cj_model.specs.declared.token.Token.{Token}
use Rattle.cj_model.specs.declared.token.Token.TheVariants as token

-- what a reader answers: a value and what is left, or nothing
pub data ReadResult (A S : Type 0) : Type 0 where
  refused : ReadResult A S
  read : A → S → ReadResult A S

-- one reader after another
abbrev pub and_then : {A B S T : Type 0} → ReadResult A S → (A → S → ReadResult B T) → ReadResult B T
and_then refused f = refused
and_then (read x rest) f = f x rest

-- what a reader makes of the tokens that are left
abbrev pub Reader : Type 0 → Type 0
Reader A = List Token → ReadResult A (List Token)

-- ---- the token at the front

-- whether two words are one
unfoldable pub same_word : Keyword → Keyword → Bool
same_word = sameb keyword_type.the_type

-- whether two symbols are one
unfoldable pub same_symbol : Symbol → Symbol → Bool
same_symbol = sameb symbol_type.the_type

-- whether the next token is this reserved word
abbrev pub sees_word : Keyword → List Token → Bool
sees_word w (token.Word found ∷ rest) = same_word found w
sees_word w _ = false

-- whether the next token is this symbol
abbrev pub sees_symbol : Symbol → List Token → Bool
sees_symbol s (token.Symbol found ∷ rest) = same_symbol found s
sees_symbol s _ = false

-- whether the next token is a number
abbrev pub sees_number : List Token → Bool
sees_number (token.Number n ∷ rest) = true
sees_number _ = false

-- whether the next token is a name
abbrev pub sees_name : List Token → Bool
sees_name (token.Name n ∷ rest) = true
sees_name _ = false

-- whether no token is left
abbrev pub sees_end : List Token → Bool
sees_end [] = true
sees_end (t ∷ rest) = false

-- ---- readers of one token

-- a name
unfoldable pub expect_name : Reader (List ℕ)
expect_name (token.Name n ∷ rest) = read n rest
expect_name _ = refused

-- a number
unfoldable pub expect_number : Reader ℕ
expect_number (token.Number n ∷ rest) = read n rest
expect_number _ = refused

-- a string
unfoldable pub expect_text : Reader (List ℕ)
expect_text (token.Text x ∷ rest) = read x rest
expect_text _ = refused

-- a symbol
unfoldable pub symbol_at : Reader Symbol
symbol_at (token.Symbol s ∷ rest) = read s rest
symbol_at _ = refused

-- this word
unfoldable pub expect_word : Keyword → Reader (Unit {0})
expect_word w ts = if sees_word w ts then read tt (drop 1 ts) else refused

-- this symbol
unfoldable pub expect_symbol : Symbol → Reader (Unit {0})
expect_symbol s ts = if sees_symbol s ts then read tt (drop 1 ts) else refused

-- ---- lists

-- item { "," item } after those found, no more items than the number
unfoldable pub items_from : {A : Type 0} → Reader A → ℕ → List A → Reader (List A)
items_from item zero found ts = refused
items_from item (suc room) found ts =
    and_then (item ts) (λ x rest.
    if sees_symbol symbol.Comma rest then items_from item room (found ++ x ∷ []) (drop 1 rest) else read (found ++ x ∷ []) rest)

-- item { "," item }, no more items than the number
unfoldable pub items : {A : Type 0} → Reader A → ℕ → Reader (List A)
items item limit = items_from item limit []
