-- What a plain request is: one without calls of the clock and of random numbers.
use Rattle.std.specs.Prelude.{Bool, true, false, ◌&&◌, List}
use Rattle.std.specs.declared.option.Option.{Option}
use Rattle.std.specs.declared.option.Option.TheVariants.{None, Some}
use Rattle.std.specs.List.{list_all}
use Rattle.cj_model.specs.declared.term.Term.{Term}
use Rattle.cj_model.specs.declared.term.Term.TheVariants.{Lit, Col, Now, Rand}
use Rattle.cj_model.specs.declared.term.Expr.{Expr}
use Rattle.cj_model.specs.declared.term.Expr.TheVariants.{One, Plus, Minus}
use Rattle.cj_model.specs.declared.write.Set.{Set}
use Rattle.cj_model.specs.declared.write.Write.{Write}
use Rattle.cj_model.specs.declared.write.Write.TheVariants as write
use Rattle.cj_model.specs.declared.request.Request.{Request}
use Rattle.cj_model.specs.declared.request.Request.TheVariants as request
use Rattle.cj_model.specs.declared.request.Act.{Act}
use Rattle.cj_model.specs.declared.request.Act.TheVariants as act
use Rattle.cj_model.specs.Database.Conditions.{Condition, Test, Not, And, Or}

abbrev pub is_plain_term : Term → Bool
is_plain_term (Lit v) = true
is_plain_term (Col c) = true
is_plain_term Now = false
is_plain_term (Rand n) = false

abbrev pub is_plain_expr : Expr → Bool
is_plain_expr (One t) = is_plain_term t
is_plain_expr (Plus l r) = is_plain_term l && is_plain_term r
is_plain_expr (Minus l r) = is_plain_term l && is_plain_term r

abbrev pub is_plain_condition : Condition → Bool
is_plain_condition (Test cmp l r) = is_plain_term l && is_plain_term r
is_plain_condition (Not c) = is_plain_condition c
is_plain_condition (And c d) = is_plain_condition c && is_plain_condition d
is_plain_condition (Or c d) = is_plain_condition c && is_plain_condition d

abbrev pub is_plain_where : Option Condition → Bool
is_plain_where None = true
is_plain_where (Some c) = is_plain_condition c

abbrev pub is_plain_write : Write → Bool
is_plain_write (write.Insert table columns rows) = list_all (λ (row : List Term). list_all is_plain_term row) rows
is_plain_write (write.Update table sets when) = list_all (λ (s : Set). is_plain_expr s.value) sets && is_plain_where when
is_plain_write (write.Delete table when) = is_plain_where when

abbrev pub is_plain : Request → Bool
is_plain (request.Select s) = is_plain_where s.cond
is_plain (request.Write w) = is_plain_write w
is_plain (request.Create c) = true
is_plain (request.Drop table) = true
is_plain request.Begin = true
is_plain request.Commit = true
is_plain request.Rollback = true

-- the request that an act of the log comes from
abbrev pub request_of : Act → Request
request_of act.Begin = request.Begin
request_of (act.Write w) = request.Write w
request_of (act.Create c) = request.Create c
request_of (act.Drop table) = request.Drop table
request_of act.Commit = request.Commit
request_of act.Abort = request.Rollback

-- the act of a request that is no query
abbrev pub act_of : Request → Option Act
act_of (request.Select s) = None
act_of (request.Write w) = Some (act.Write w)
act_of (request.Create c) = Some (act.Create c)
act_of (request.Drop table) = Some (act.Drop table)
act_of request.Begin = Some act.Begin
act_of request.Commit = Some act.Commit
act_of request.Rollback = Some act.Abort
