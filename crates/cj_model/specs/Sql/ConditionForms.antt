-- Conditions: what may be written, the tokens of it, what it means, and its limits.
use Rattle.std.specs.Prelude.{ℕ, zero, suc, ◌+◌, ◌≤◌, List, ◌∷◌}
use Rattle.cj_model.specs.declared.token.Token.{Token}
use Rattle.cj_model.specs.declared.token.Token.TheVariants as token
use Rattle.cj_model.specs.declared.token.Keyword.TheVariants as word
use Rattle.cj_model.specs.declared.token.Symbol.TheVariants as symbol
use Rattle.cj_model.specs.declared.term.Cmp.{Cmp}
use Rattle.cj_model.specs.declared.term.Cmp.TheVariants as cmp
use Rattle.cj_model.specs.declared.limits.TheConstants.{DEPTH_LIMIT, TEST_LIMIT}
use Rattle.cj_model.specs.Database.Conditions.{Condition, Test, Not, And, Or}
use Rattle.cj_model.specs.Sql.TermForms.{TermForm, term_tokens, term_meant, TermFits}

-- ---- what may be written

mutual
  -- cond = conj { OR conj }
  pub data CondForm : Type 0 where
    ors : ConjForm → OrsForm → CondForm

  -- { OR conj }
  pub data OrsForm : Type 0 where
    no_or : OrsForm
    or : ConjForm → OrsForm → OrsForm

  -- conj = prim { AND prim }
  pub data ConjForm : Type 0 where
    ands : PrimForm → AndsForm → ConjForm

  -- { AND prim }
  pub data AndsForm : Type 0 where
    no_and : AndsForm
    and : PrimForm → AndsForm → AndsForm

  -- prim = NOT prim | "(" cond ")" | term cmp term
  pub data PrimForm : Type 0 where
    not : PrimForm → PrimForm
    parens : CondForm → PrimForm
    test : TermForm → Cmp → TermForm → PrimForm

-- ---- its tokens, and the tokens that follow

-- cmp = "=" | "<>" or "!=", which are one token | "<" | "<=" | ">" | ">="
abbrev pub cmp_token : Cmp → Token
cmp_token cmp.Eq = token.Symbol symbol.Eq
cmp_token cmp.Ne = token.Symbol symbol.Ne
cmp_token cmp.Lt = token.Symbol symbol.Lt
cmp_token cmp.Le = token.Symbol symbol.Le
cmp_token cmp.Gt = token.Symbol symbol.Gt
cmp_token cmp.Ge = token.Symbol symbol.Ge

abbrev mutual
  pub cond_tokens : CondForm → List Token → List Token
  cond_tokens (ors c more) rest = conj_tokens c (ors_tokens more rest)

  pub ors_tokens : OrsForm → List Token → List Token
  ors_tokens no_or rest = rest
  ors_tokens (or c more) rest = token.Word word.Or ∷ conj_tokens c (ors_tokens more rest)

  pub conj_tokens : ConjForm → List Token → List Token
  conj_tokens (ands p more) rest = prim_tokens p (ands_tokens more rest)

  pub ands_tokens : AndsForm → List Token → List Token
  ands_tokens no_and rest = rest
  ands_tokens (and p more) rest = token.Word word.And ∷ prim_tokens p (ands_tokens more rest)

  pub prim_tokens : PrimForm → List Token → List Token
  prim_tokens (not p) rest = token.Word word.Not ∷ prim_tokens p rest
  prim_tokens (parens c) rest = token.Symbol symbol.Open ∷ cond_tokens c (token.Symbol symbol.Close ∷ rest)
  prim_tokens (test a op b) rest = term_tokens a (cmp_token op ∷ term_tokens b rest)

-- ---- what it means

abbrev mutual
  pub cond_meant : CondForm → Condition
  cond_meant (ors c more) = ors_meant (conj_meant c) more

  -- OR groups from the left
  pub ors_meant : Condition → OrsForm → Condition
  ors_meant left no_or = left
  ors_meant left (or c more) = ors_meant (Or left (conj_meant c)) more

  pub conj_meant : ConjForm → Condition
  conj_meant (ands p more) = ands_meant (prim_meant p) more

  -- AND groups from the left
  pub ands_meant : Condition → AndsForm → Condition
  ands_meant left no_and = left
  ands_meant left (and p more) = ands_meant (And left (prim_meant p)) more

  pub prim_meant : PrimForm → Condition
  prim_meant (not p) = Not (prim_meant p)
  prim_meant (parens c) = cond_meant c
  prim_meant (test a op b) = Test op (term_meant a) (term_meant b)

-- ---- its limits

-- how many comparisons there are in a condition
abbrev pub comparisons : Condition → ℕ
comparisons (Test op a b) = 1
comparisons (Not c) = comparisons c
comparisons (And c d) = comparisons c + comparisons d
comparisons (Or c d) = comparisons c + comparisons d

-- No place lies in more NOTs and parentheses than this, and each number is in range.
abbrev mutual
  pub CondNests : ℕ → CondForm → Type 0
  CondNests depth (ors c more) = ConjNests depth c × OrsNest depth more

  pub OrsNest : ℕ → OrsForm → Type 0
  OrsNest depth no_or = Unit {0}
  OrsNest depth (or c more) = ConjNests depth c × OrsNest depth more

  pub ConjNests : ℕ → ConjForm → Type 0
  ConjNests depth (ands p more) = PrimNests depth p × AndsNest depth more

  pub AndsNest : ℕ → AndsForm → Type 0
  AndsNest depth no_and = Unit {0}
  AndsNest depth (and p more) = PrimNests depth p × AndsNest depth more

  pub PrimNests : ℕ → PrimForm → Type 0
  PrimNests zero (not p) = ⊥
  PrimNests (suc depth) (not p) = PrimNests depth p
  PrimNests zero (parens c) = ⊥
  PrimNests (suc depth) (parens c) = CondNests depth c
  PrimNests depth (test a op b) = TermFits a × TermFits b

-- a condition within the limits: of open NOTs and parentheses at one point, and of comparisons
pub record CondFits (form : CondForm) : Type 0 where
  pub nests : CondNests DEPTH_LIMIT form
  pub counts : comparisons (cond_meant form) ≤ TEST_LIMIT
