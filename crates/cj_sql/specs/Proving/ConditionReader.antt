-- The reader of conditions as a function, which the code follows step by step.
use Rattle.std.specs.Prelude.{ℕ, zero, suc, ◌-◌, nat_lt, if◌then◌else◌, List, drop}
use Rattle.std.specs.declared.option.Option.{Option}
use Rattle.std.specs.declared.option.Option.TheVariants.{None, Some}
use Rattle.cj_model.specs.declared.token.Token.{Token}
use Rattle.cj_model.specs.declared.token.Keyword.{Keyword}
use Rattle.cj_model.specs.declared.token.Keyword.TheVariants as word
use Rattle.cj_model.specs.declared.token.Symbol.{Symbol}
use Rattle.cj_model.specs.declared.token.Symbol.TheVariants as symbol
use Rattle.cj_model.specs.declared.term.Cmp.{Cmp}
use Rattle.cj_model.specs.declared.term.Cmp.TheVariants as cmp
use Rattle.cj_model.specs.declared.limits.TheConstants.{DEPTH_LIMIT, TEST_LIMIT}
use Rattle.cj_model.specs.Database.Conditions.{Condition, Test, Not, And, Or}
use Rattle.cj_sql.specs.declared.conditions.Connective.{Connective}
use Rattle.cj_sql.specs.declared.conditions.Connective.TheVariants as connective
use Rattle.cj_sql.specs.Proving.Reader.{ReadResult, refused, read, and_then, Reader, sees_word, sees_symbol, symbol_at, expect_symbol}
use Rattle.cj_sql.specs.Proving.TermReader.{term}

-- what is left to read, and how many comparisons may still come
pub record Input : Type 0 where
  pub rest : List Token
  pub tests : ℕ

-- these tokens, and so many comparisons
abbrev pub input_at : List Token → ℕ → Input
input_at rest tests = record { rest = rest; tests = tests }

-- past the token at the front
abbrev pub input_after : Input → Input
input_after i = input_at (drop 1 i.rest) i.tests

-- what a reader makes of a condition's input
abbrev pub Conditions : Type 0
Conditions = Input → ReadResult Condition Input

-- ---- comparisons

-- the comparison that a symbol says
abbrev pub cmp_of : Symbol → Option Cmp
cmp_of symbol.Eq = Some cmp.Eq
cmp_of symbol.Ne = Some cmp.Ne
cmp_of symbol.Lt = Some cmp.Lt
cmp_of symbol.Le = Some cmp.Le
cmp_of symbol.Gt = Some cmp.Gt
cmp_of symbol.Ge = Some cmp.Ge
cmp_of _ = None

-- the comparison, where there is one
abbrev pub given : Option Cmp → Reader Cmp
given None ts = refused
given (Some op) ts = read op ts

-- "=" | "<>" | "<" | "<=" | ">" | ">="
unfoldable pub comparison : Reader Cmp
comparison ts = and_then (symbol_at ts) (λ s rest. given (cmp_of s) rest)

-- term cmp term, where a comparison may still come
unfoldable pub compared : Conditions
compared i =
    if nat_lt 0 i.tests then
    and_then (term i.rest) (λ left ts.
    and_then (comparison ts) (λ op ts.
    and_then (term ts) (λ right rest.
    read (Test op left right) (input_at rest (i.tests - 1)))))
    else refused

-- ---- connectives

-- the word of a connective
abbrev pub keyword_of : Connective → Keyword
keyword_of connective.And = word.And
keyword_of connective.Or = word.Or

-- the condition that the connective makes of two
abbrev pub compound : Connective → Condition → Condition → Condition
compound connective.And = And
compound connective.Or = Or

-- over a connective, and a reader of each of its sides
module _ (by : Connective) (side : Conditions) where
  -- { keyword side } after a condition, at most so many
  unfoldable pub more_connected : ℕ → Condition → Conditions
  more_connected zero left i = if sees_word (keyword_of by) i.rest then refused else read left i
  more_connected (suc turns) left i =
      if sees_word (keyword_of by) i.rest then and_then (side (input_after i)) (λ right o. more_connected turns (compound by left right) o) else read left i

  -- side { keyword side }
  unfoldable pub connected : Conditions
  connected i = and_then (side i) (λ left o. more_connected o.tests left o)

-- over a reader of prim
module _ (prim : Conditions) where
  -- conj = prim { AND prim }
  abbrev pub conj : Conditions
  conj = connected connective.And prim

  -- cond = conj { OR conj }
  abbrev pub cond : Conditions
  cond = connected connective.Or conj

  -- the reader of each side of a connective
  abbrev pub side : Connective → Conditions
  side connective.And = prim
  side connective.Or = conj

  -- cond ")"
  unfoldable pub parens : Conditions
  parens i = and_then (cond i) (λ c o. and_then (expect_symbol symbol.Close o.rest) (λ _ rest. read c (input_at rest o.tests)))

-- NOT prim | "(" cond ")" | term cmp term, within this many NOTs and parentheses more
unfoldable pub prim : ℕ → Conditions
prim zero i = compared i
prim (suc depth) i =
    if sees_word word.Not i.rest then and_then (prim depth (input_after i)) (λ c o. read (Not c) o)
    else (if sees_symbol symbol.Open i.rest then parens (prim depth) (input_after i) else compared i)

-- a whole condition
unfoldable pub condition : Reader Condition
condition ts = and_then (cond (prim DEPTH_LIMIT) (input_at ts TEST_LIMIT)) (λ c o. read c o.rest)

-- [ WHERE cond ]
unfoldable pub filter : Reader (Option Condition)
filter ts = if sees_word word.Where ts then and_then (condition (drop 1 ts)) (λ c rest. read (Some c) rest) else read None ts
