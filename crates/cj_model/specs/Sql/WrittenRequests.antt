-- Requests that a statement can ask for.
use Rattle.std.specs.Prelude.{◌≡◌, ℕ, true, List}
use Rattle.cj_model.specs.declared.request.Request.{Request}
use Rattle.cj_model.specs.Sql.Grammar.{TextReadsAs}
use Rattle.cj_model.specs.Sql.PlainRequests.{is_plain}

-- a plain request that some text reads as
pub record IsWritten (r : Request) : Type 0 where
  pub plain : is_plain r ≡ true
  pub text : List ℕ
  pub reads : TextReadsAs text r
