-- A text's tokens, and then the request of these.
use Rattle.std.proofs.Common.{◌≡◌, subst, ℕ, List, Ok, Err, Result}
use Rattle.std.specs.declared.alloc.Global.{Global}
use Rattle.std.specs.declared.collections.VecDeque.{VecDeque}
use Rattle.cj_sql.proofs.Common.{Request, Token}
use Rattle.cj_model.specs.Sql.Grammar.{TextReadsAs}
use Rattle.cj_model.specs.Sql.Grammar as grammar
use Rattle.cj_model.specs.Sql.Lexical.{Tokens}
use Rattle.cj_lex.specs.declared.error.SqlError.{SqlError}
use Rattle.cj_lex.specs.declared.error.SqlError.TheVariants.{Syntax, NoMemory}
use Rattle.cj_lex.specs.Read.{TokensRead}
use Rattle.cj_sql.specs.Proving.Cursor.{ReadsAs}
use Rattle.cj_sql.specs.Read.{IsRead}
use Rattle.cj_sql.specs.Proving.StatementReader.{whole}
use Rattle.cj_sql.proofs.Statements.{whole_sound, whole_complete}

-- what a text that has exactly these tokens reads as, the tokens read as
of_tokens : (text : List ℕ) (found : List Token) (r : Request) → ((others : List Token) → Tokens text others → others ≡ found) → TextReadsAs text r → grammar.TokensReadAs found r
of_tokens text found r only x = let P : List Token → Type 0 = λ ts. grammar.TokensReadAs ts r in subst P (only x.tokens x.tokens_of) x.reads

-- what the reader makes of the text's tokens answers the text
pub read_from_tokens : (text : List ℕ) (found : VecDeque Token Global) (result : Result Request SqlError) (rest : List Token)
    → TokensRead text (Ok found) → ReadsAs whole found.items result rest → IsRead text result
read_from_tokens text found (Ok r) rest t h = (
  record { tokens = found.items; tokens_of = t.0; reads = whole_sound found.items r rest h },
  λ other x. let e = whole_complete found.items other (of_tokens text found.items other t.1 x) in cc,
)
read_from_tokens text found (Err Syntax) rest t h = λ other x. let e = whole_complete found.items other (of_tokens text found.items other t.1 x) in cc
read_from_tokens text found (Err NoMemory) rest t h = tt
