-- ROLLBACK is a request that some text reads as.
use Rattle.std.proofs.Common.{[], ◌∷◌, codes, refl, arith, false}
use Rattle.cj_model.specs.declared.request.Request.TheVariants as request
use Rattle.cj_model.specs.declared.token.Keyword.TheVariants as word
use Rattle.cj_model.specs.declared.token.Token.TheVariants as token
use Rattle.cj_model.specs.Sql.Lexical.{keyword, Spells, Tokens}
use Rattle.cj_model.specs.Sql.Grammar as grammar
use Rattle.cj_model.specs.Sql.WrittenRequests.{IsWritten}

-- its text spells the word
rollback_spelled : Spells (token.Word word.Rollback) (codes "ROLLBACK")
unfolding keyword
rollback_spelled = ((refl, (refl, (refl, (refl, (refl, (refl, (refl, (refl, tt)))))))), omega arith, refl)

-- and nothing else
rollback_tokens : Tokens (codes "ROLLBACK") (token.Word word.Rollback ∷ [])
rollback_tokens = ([], record { blanks = []; spelling = codes "ROLLBACK"; text_is = refl; blank = tt; spells = rollback_spelled; ends = tt }, tt)

pub rollback_written : IsWritten request.Rollback
rollback_written =
    record {
      plain = refl;
      text = codes "ROLLBACK";
      reads =
          record {
            tokens = token.Word word.Rollback ∷ [];
            tokens_of = rollback_tokens;
            reads = record { statement = grammar.rollback; semicolon = false; tokens_are = refl; fits = tt; meant = refl };
          };
    }
