-- A term with a value in place of its call can be spelled, fits and is what its form means, where the term itself is so.
use Rattle.std.proofs.Common.{◌≡◌, refl, ℕ, ℤ, ◌<◌, ◌^◌, List, [], ◌∷◌, pos, negsuc, arith}
use Rattle.std.specs.Int.Signed.{mag}
use Rattle.std.proofs.lemmas.List.Elements.{All-nil, All-cons, All-head, All-append, All-take, All-drop}
use Rattle.cj_macro.proofs.Common.{All, Col, Expr, Lit, Minus, Now, One, Plus, Rand, Term}
use Rattle.cj_model.specs.declared.value.Value.{Value}
use Rattle.cj_model.specs.declared.value.Value.TheVariants as value
use Rattle.cj_model.specs.Sql.Literals.{form_of, IsConstant}
use Rattle.cj_model.specs.Sql.TermForms.{const_meant, term_meant, expr_meant, ConstFits, TermFits, ExprFits}
use Rattle.cj_model.specs.Sql.Macros.{term_bounds, expr_bounds, IsDrawable, draws_for, draws_behind, first_draw, rewritten_term, rewritten_expr}
use Rattle.cj_model.proofs.Spellable.{FineTerm, FineConst, IsConst, FineExpr}
use Rattle.cj_print.proofs.Forms.{const_form, term_form, expr_form}
use Rattle.cj_print.proofs.ReadBack.{literals_read_back}
use Rattle.cj_print.proofs.StoredWritten.{literal_fine}

-- ---- draws

-- what a literal can hold
abbrev pub IsSmall : ℕ → Type 0
IsSmall n = n < 2 ^ 63

pub first_small : (draws : List ℕ) → All IsSmall draws → IsSmall (first_draw draws)
first_small [] h = omega arith
first_small (d ∷ ds) h = All-head IsSmall d ds h

pub front_small : (bounds draws : List ℕ) → All IsSmall draws → All IsSmall (draws_for bounds draws)
front_small bounds draws h = All-take IsSmall _ draws h

pub behind_small : (bounds draws : List ℕ) → All IsSmall draws → All IsSmall (draws_behind bounds draws)
behind_small bounds draws h = All-drop IsSmall _ draws h

-- a number of 64 bits with a sign is one that a literal can hold
pub in_range : (number : ℤ) → mag number < 2 ^ 63 → IsConstant (value.Int number)
in_range (pos n) h = h
in_range (negsuc n) h = h

-- ---- terms

-- a value's literal means it
literal_means : (v : Value) → const_meant (form_of v) ≡ Lit v
literal_means (value.Int (pos n)) = refl
literal_means (value.Int (negsuc n)) = refl
literal_means (value.Text x) = refl

pub term_means : (moment : ℤ) (draws : List ℕ) (t : Term) → term_meant (term_form (rewritten_term moment draws t)) ≡ rewritten_term moment draws t
term_means moment draws (Lit v) = literal_means v
term_means moment draws (Col x) = refl
term_means moment draws Now = literal_means (value.Int moment)
term_means moment draws (Rand n) = refl

-- a column is no constant
pub const_means : (moment : ℤ) (draws : List ℕ) (t : Term) → IsConst t → const_meant (const_form (rewritten_term moment draws t)) ≡ rewritten_term moment draws t
const_means moment draws (Lit v) h = literal_means v
const_means moment draws (Col x) h = absurd h
const_means moment draws Now h = literal_means (value.Int moment)
const_means moment draws (Rand n) h = refl

pub expr_means : (moment : ℤ) (draws : List ℕ) (e : Expr) → expr_meant (expr_form (rewritten_expr moment draws e)) ≡ rewritten_expr moment draws e
expr_means moment draws (One a) = let e = term_means moment draws a in cc
expr_means moment draws (Plus a b) = let e = term_means moment (draws_for (term_bounds a) draws) a in let f = term_means moment (draws_behind (term_bounds a) draws) b in cc
expr_means moment draws (Minus a b) = let e = term_means moment (draws_for (term_bounds a) draws) a in let f = term_means moment (draws_behind (term_bounds a) draws) b in cc

-- so is a term that can be spelled
pub fine_term_means : (t : Term) → FineTerm t → term_meant (term_form t) ≡ t
fine_term_means (Lit v) h = literal_means v
fine_term_means (Col x) h = refl
fine_term_means Now h = refl
fine_term_means (Rand (pos n)) h = refl
fine_term_means (Rand (negsuc n)) h = absurd h

-- the RAND of a term that fits is drawable
pub term_drawable : (t : Term) → FineTerm t → TermFits (term_form t) → All IsDrawable (term_bounds t)
term_drawable (Lit v) fine h = All-nil IsDrawable
term_drawable (Col x) fine h = All-nil IsDrawable
term_drawable Now fine h = All-nil IsDrawable
term_drawable (Rand (pos n)) fine h = All-cons IsDrawable n [] h (All-nil IsDrawable)
term_drawable (Rand (negsuc n)) fine h = absurd fine

pub const_drawable : (t : Term) → FineConst t → ConstFits (const_form t) → All IsDrawable (term_bounds t)
const_drawable (Lit v) fine h = All-nil IsDrawable
const_drawable (Col x) fine h = All-nil IsDrawable
const_drawable Now fine h = All-nil IsDrawable
const_drawable (Rand (pos n)) fine h = All-cons IsDrawable n [] h (All-nil IsDrawable)
const_drawable (Rand (negsuc n)) fine h = absurd fine.1

pub expr_drawable : (e : Expr) → FineExpr e → ExprFits (expr_form e) → All IsDrawable (expr_bounds e)
expr_drawable (One a) fine h = term_drawable a fine h
expr_drawable (Plus a b) fine h = All-append IsDrawable (term_bounds a) (term_bounds b) (term_drawable a fine.0 h.0) (term_drawable b fine.1 h.1)
expr_drawable (Minus a b) fine h = All-append IsDrawable (term_bounds a) (term_bounds b) (term_drawable a fine.0 h.0) (term_drawable b fine.1 h.1)

module _ (moment : ℤ) (in_range : IsConstant (value.Int moment)) where
  pub term_fine : (draws : List ℕ) (t : Term) → All IsSmall draws → FineTerm t → FineTerm (rewritten_term moment draws t)
  term_fine draws (Lit v) small h = h
  term_fine draws (Col x) small h = h
  term_fine draws Now small h = literal_fine (value.Int moment) in_range
  term_fine draws (Rand n) small h = literal_fine (value.Int (pos (first_draw draws))) (first_small draws small)

  pub const_fine : (draws : List ℕ) (t : Term) → All IsSmall draws → FineConst t → FineConst (rewritten_term moment draws t)
  const_fine draws (Lit v) small h = h
  const_fine draws (Col x) small h = h
  const_fine draws Now small h = (tt, literal_fine (value.Int moment) in_range)
  const_fine draws (Rand n) small h = (tt, literal_fine (value.Int (pos (first_draw draws))) (first_small draws small))

  pub expr_fine : (draws : List ℕ) (e : Expr) → All IsSmall draws → FineExpr e → FineExpr (rewritten_expr moment draws e)
  expr_fine draws (One a) small h = term_fine draws a small h
  expr_fine draws (Plus a b) small h =
      (term_fine (draws_for (term_bounds a) draws) a (front_small (term_bounds a) draws small) h.0, term_fine (draws_behind (term_bounds a) draws) b (behind_small (term_bounds a) draws small) h.1)
  expr_fine draws (Minus a b) small h =
      (term_fine (draws_for (term_bounds a) draws) a (front_small (term_bounds a) draws small) h.0, term_fine (draws_behind (term_bounds a) draws) b (behind_small (term_bounds a) draws small) h.1)

  pub term_fits : (draws : List ℕ) (t : Term) → All IsSmall draws → TermFits (term_form t) → TermFits (term_form (rewritten_term moment draws t))
  term_fits draws (Lit v) small h = h
  term_fits draws (Col x) small h = h
  term_fits draws Now small h = (literals_read_back (value.Int moment) in_range).fits
  term_fits draws (Rand n) small h = first_small draws small

  pub const_fits : (draws : List ℕ) (t : Term) → All IsSmall draws → ConstFits (const_form t) → ConstFits (const_form (rewritten_term moment draws t))
  const_fits draws (Lit v) small h = h
  const_fits draws (Col x) small h = h
  const_fits draws Now small h = (literals_read_back (value.Int moment) in_range).fits
  const_fits draws (Rand n) small h = first_small draws small

  pub expr_fits : (draws : List ℕ) (e : Expr) → All IsSmall draws → ExprFits (expr_form e) → ExprFits (expr_form (rewritten_expr moment draws e))
  expr_fits draws (One a) small h = term_fits draws a small h
  expr_fits draws (Plus a b) small h =
      (term_fits (draws_for (term_bounds a) draws) a (front_small (term_bounds a) draws small) h.0, term_fits (draws_behind (term_bounds a) draws) b (behind_small (term_bounds a) draws small) h.1)
  expr_fits draws (Minus a b) small h =
      (term_fits (draws_for (term_bounds a) draws) a (front_small (term_bounds a) draws small) h.0, term_fits (draws_behind (term_bounds a) draws) b (behind_small (term_bounds a) draws small) h.1)
