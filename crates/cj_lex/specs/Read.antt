-- The answer of reading a text's tokens.
use Rattle.std.specs.Prelude.{◌≡◌, ℕ, List, Result, Ok, Err}
use Rattle.std.specs.declared.alloc.Global.{Global}
use Rattle.std.specs.declared.collections.VecDeque.{VecDeque}
use Rattle.cj_model.specs.declared.token.Token.{Token}
use Rattle.cj_model.specs.Sql.Lexical.{Tokens}
use Rattle.cj_lex.specs.declared.error.SqlError.{SqlError}
use Rattle.cj_lex.specs.declared.error.SqlError.TheVariants.{Syntax, NoMemory}

-- the result is the one list of the text's tokens, or Syntax where the text has none, unless an allocation fails
abbrev pub TokensRead : List ℕ → Result (VecDeque Token Global) SqlError → Type 0
TokensRead text (Ok found) = Tokens text found.items × ((others : List Token) → Tokens text others → others ≡ found.items)
TokensRead text (Err Syntax) = (others : List Token) → Tokens text others → ⊥
TokensRead text (Err NoMemory) = Unit {0}
