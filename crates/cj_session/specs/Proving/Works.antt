-- How the code sees requests and acts, and how its client agrees with a desk.
use Rattle.std.specs.Prelude.{◌≡◌, ℕ, ◌≤◌, List, length, IfSome}
use Rattle.std.specs.declared.option.Option.{Option}
use Rattle.std.specs.declared.option.Option.TheVariants.{None}
use Rattle.cj_model.specs.declared.request.Request.{Request}
use Rattle.cj_model.specs.declared.request.Request.TheVariants as request
use Rattle.cj_model.specs.Sql.PlainRequests.{request_of}
use Rattle.cj_model.specs.Sql.Grammar.{TextReadsAs}
use Rattle.cj_model.specs.declared.limits.TheConstants.{USER_LIMIT}
use Rattle.cj_desk.specs.DeskStates.{DeskState, desk_tx}
use Rattle.cj_session.specs.declared.work.DeskWork.{DeskWork}
use Rattle.cj_session.specs.declared.work.DeskWork.TheVariants as work
use Rattle.cj_session.specs.declared.work.TxEffect.{TxEffect}
use Rattle.cj_session.specs.declared.work.TxEffect.TheVariants as effect

-- the request that a piece of work was
abbrev pub request_of_work : DeskWork → Request
request_of_work (work.Ask select) = request.Select select
request_of_work (work.Change act) = request_of act

-- the session's transaction after entry n
abbrev pub tx_by_effect : ℕ → ℕ → TxEffect → ℕ
tx_by_effect n tx effect.Opens = n
tx_by_effect n tx effect.Closes = 0
tx_by_effect n tx effect.Keeps = tx

-- the request is read from some text
pub record IsReadFromText (request : Request) : Type 0 where
  pub text : List ℕ
  pub reads : TextReadsAs text request

-- a client at a desk in this state: its transaction is the session's, its user isn't too long, and without a user it
-- has no transaction
pub record IsClientAt (user : Option (List ℕ)) (tx : ℕ) (d : DeskState) : Type 0 where
  pub tx_is : tx ≡ desk_tx d
  pub short : IfSome user (λ (u : List ℕ). length u ≤ USER_LIMIT)
  pub closed : user ≡ None → tx ≡ 0
