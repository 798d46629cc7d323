-- A text reads as one request.
use Rattle.std.proofs.Common.{◌≡◌, ℕ, List, subst}
use Rattle.cj_sql.proofs.Common.{Request, Token}
use Rattle.cj_model.specs.Sql.Grammar.{TextReadsAs, TokensReadAs}
use Rattle.cj_lex.proofs.OneReading.{tokens_one}
use Rattle.cj_sql.proofs.Statements.{whole_complete}

reads_one : (tokens : List Token) (r q : Request) → TokensReadAs tokens r → TokensReadAs tokens q → r ≡ q
reads_one tokens r q a b = let x = whole_complete tokens r a in let y = whole_complete tokens q b in cc

pub text_one : (text : List ℕ) (r q : Request) → TextReadsAs text r → TextReadsAs text q → r ≡ q
text_one text r q a b =
    reads_one b.tokens r q (subst (λ (ts : List Token). TokensReadAs ts r) (tokens_one text a.tokens b.tokens a.tokens_of b.tokens_of) a.reads) b.reads
