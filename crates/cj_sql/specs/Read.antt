-- The answer of reading the text of a request.
use Rattle.std.specs.Prelude.{◌≡◌, ℕ, List, Result, Ok, Err}
use Rattle.cj_model.specs.declared.request.Request.{Request}
use Rattle.cj_model.specs.Sql.Grammar.{TextReadsAs, ReadsAsNothing}
use Rattle.cj_lex.specs.declared.error.SqlError.{SqlError}
use Rattle.cj_lex.specs.declared.error.SqlError.TheVariants.{Syntax, NoMemory}

-- the result is the one request that the text reads as, or Syntax where it reads as none, unless an allocation
-- fails
abbrev pub IsRead : List ℕ → Result Request SqlError → Type 0
IsRead text (Ok r) = TextReadsAs text r × ((other : Request) → TextReadsAs text other → other ≡ r)
IsRead text (Err Syntax) = ReadsAsNothing text
IsRead text (Err NoMemory) = Unit {0}
