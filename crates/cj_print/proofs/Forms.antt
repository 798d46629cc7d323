-- What is written of a request in its canonical text.
use Rattle.std.proofs.Common.{Bool, true, false, map, pos, negsuc, Option, Some, None}
use Rattle.cj_print.proofs.Common.{And, Condition, Expr, Key, Not, Or, Request, Select, Set, Term, Test, Write}
use Rattle.cj_model.specs.declared.term.Term.TheVariants as term
use Rattle.cj_model.specs.declared.term.Expr.TheVariants as expr
use Rattle.cj_model.specs.declared.write.Write.TheVariants as write
use Rattle.cj_model.specs.declared.request.Request.TheVariants as request
use Rattle.cj_model.specs.Sql.Literals.{form_of}
use Rattle.cj_model.specs.Sql.TermForms as t
use Rattle.cj_model.specs.Sql.TermForms.{ConstForm, TermForm, ExprForm}
use Rattle.cj_model.specs.Sql.ConditionForms as c
use Rattle.cj_model.specs.Sql.ConditionForms.{CondForm, OrsForm, ConjForm, AndsForm, PrimForm}
use Rattle.cj_model.specs.Sql.Grammar as g
use Rattle.cj_model.specs.Sql.Grammar.{SetForm, Direction, KeyForm, SelectForm, Statement}

-- ---- terms

-- a constant; a number of RAND is never negative, and a column is none
abbrev pub const_form : Term → ConstForm
const_form (term.Lit v) = form_of v
const_form (term.Col x) = t.now
const_form term.Now = t.now
const_form (term.Rand (pos n)) = t.rand n
const_form (term.Rand (negsuc n)) = t.now

abbrev pub term_form : Term → TermForm
term_form (term.Lit v) = t.constant (form_of v)
term_form (term.Col x) = t.column x
term_form term.Now = t.constant t.now
term_form (term.Rand n) = t.constant (const_form (term.Rand n))

abbrev pub expr_form : Expr → ExprForm
expr_form (expr.One a) = t.one (term_form a)
expr_form (expr.Plus a b) = t.sum (term_form a) (term_form b)
expr_form (expr.Minus a b) = t.difference (term_form a) (term_form b)

-- ---- conditions

-- one more at the end
abbrev pub or_end : OrsForm → ConjForm → OrsForm
or_end c.no_or x = c.or x c.no_or
or_end (c.or y m) x = c.or y (or_end m x)

-- one more at the end
abbrev pub and_end : AndsForm → PrimForm → AndsForm
and_end c.no_and x = c.and x c.no_and
and_end (c.and y m) x = c.and y (and_end m x)

abbrev pub or_also : CondForm → ConjForm → CondForm
or_also (c.ors y m) x = c.ors y (or_end m x)

abbrev pub and_also : ConjForm → PrimForm → ConjForm
and_also (c.ands y m) x = c.ands y (and_end m x)

-- how a condition stands alone, under AND or at the right of OR, and under NOT or at the right of AND
pub record Forms : Type 0 where
  pub alone : CondForm
  pub joined : ConjForm
  pub tight : PrimForm

abbrev pub of_prim : PrimForm → Forms
of_prim p = record { alone = c.ors (c.ands p c.no_and) c.no_or; joined = c.ands p c.no_and; tight = p }

abbrev pub of_conj : ConjForm → Forms
of_conj j = record { alone = c.ors j c.no_or; joined = j; tight = c.parens (c.ors j c.no_or) }

abbrev pub of_cond : CondForm → Forms
of_cond d = record { alone = d; joined = c.ands (c.parens d) c.no_and; tight = c.parens d }

abbrev pub forms : Condition → Forms
forms (Test op a b) = of_prim (c.test (term_form a) op (term_form b))
forms (Not x) = of_prim (c.not (forms x).tight)
forms (And a b) = of_conj (and_also (forms a).joined (forms b).tight)
forms (Or a b) = of_cond (or_also (forms a).alone (forms b).joined)

abbrev pub where_form : Option Condition → Option CondForm
where_form None = None
where_form (Some x) = Some (forms x).alone

-- ---- statements

abbrev pub set_form : Set → SetForm
set_form s = record { column = s.column; value = expr_form s.value }

-- only a falling key says its direction
abbrev pub direction_form : Bool → Direction
direction_form true = g.descending
direction_form false = g.unsaid

abbrev pub key_form : Key → KeyForm
key_form k = record { col = k.col; direction = direction_form k.desc }

abbrev pub select_form : Select → SelectForm
select_form s = record { items = s.items; tables = s.tables; cond = where_form s.cond; group = s.group; order = map key_form s.order; limit = s.limit }

abbrev pub write_form : Write → Statement
write_form (write.Insert n names rows) = g.insert n names (map (map const_form) rows)
write_form (write.Update n sets cond) = g.update n (map set_form sets) (where_form cond)
write_form (write.Delete n cond) = g.delete n (where_form cond)

abbrev pub form : Request → Statement
form (request.Create x) = g.create x.table x.columns
form (request.Drop n) = g.drop n
form (request.Write w) = write_form w
form (request.Select s) = g.select (select_form s)
form request.Begin = g.begin
form request.Commit = g.commit
form request.Rollback = g.rollback
