-- Lists, constants, columns, terms and expressions: what may be written, its tokens, what it means, and its limits.
use Rattle.std.specs.Prelude.{ℕ, ◌≤◌, ◌<◌, ◌^◌, List, [], ◌∷◌, length, pos, neg_ℤ}
use Rattle.std.specs.declared.option.Option.{Option}
use Rattle.std.specs.declared.option.Option.TheVariants.{None, Some}
use Rattle.cj_model.specs.declared.token.Token.{Token}
use Rattle.cj_model.specs.declared.token.Token.TheVariants as token
use Rattle.cj_model.specs.declared.token.Keyword.TheVariants as word
use Rattle.cj_model.specs.declared.token.Symbol.TheVariants as symbol
use Rattle.cj_model.specs.declared.value.Value.TheVariants as value
use Rattle.cj_model.specs.declared.term.ColRef.{ColRef}
use Rattle.cj_model.specs.declared.term.Term.{Term}
use Rattle.cj_model.specs.declared.term.Term.TheVariants as term
use Rattle.cj_model.specs.declared.term.Expr.{Expr}
use Rattle.cj_model.specs.declared.term.Expr.TheVariants as expr

-- ---- lists

-- item { "," item }, and the tokens that follow
abbrev pub commas : {A : Type 0} → (A → List Token → List Token) → List A → List Token → List Token
commas item [] rest = rest
commas item (x ∷ []) rest = item x rest
commas item (x ∷ y ∷ more) rest = item x (token.Symbol symbol.Comma ∷ commas item (y ∷ more) rest)

-- each item of the list fits
abbrev pub EachFits : {A : Type 0} → (A → Type 0) → List A → Type 0
EachFits P [] = Unit {0}
EachFits P (x ∷ xs) = P x × EachFits P xs

-- one or more, at most so many, each of which fits
abbrev pub SomeFit : {A : Type 0} → (A → Type 0) → ℕ → List A → Type 0
SomeFit P limit xs = (0 < length xs) × (length xs ≤ limit) × EachFits P xs

-- what has no limit of its own
abbrev pub AnyFits : {A : Type 0} → A → Type 0
AnyFits x = Unit {0}

-- ---- what may be written

-- const = [ "-" ] number | string | NOW "(" ")" | RAND "(" number ")"
pub data ConstForm : Type 0 where
  number : ℕ → ConstForm
  minus : ℕ → ConstForm
  string : List ℕ → ConstForm
  now : ConstForm
  rand : ℕ → ConstForm

-- term = const | col
pub data TermForm : Type 0 where
  constant : ConstForm → TermForm
  column : ColRef → TermForm

-- expr = term [ ( "+" | "-" ) term ]
pub data ExprForm : Type 0 where
  one : TermForm → ExprForm
  sum : TermForm → TermForm → ExprForm
  difference : TermForm → TermForm → ExprForm

-- ---- its tokens, and the tokens that follow

abbrev pub const_tokens : ConstForm → List Token → List Token
const_tokens (number n) rest = token.Number n ∷ rest
const_tokens (minus n) rest = token.Symbol symbol.Minus ∷ token.Number n ∷ rest
const_tokens (string x) rest = token.Text x ∷ rest
const_tokens now rest = token.Word word.Now ∷ token.Symbol symbol.Open ∷ token.Symbol symbol.Close ∷ rest
const_tokens (rand n) rest = token.Word word.Rand ∷ token.Symbol symbol.Open ∷ token.Number n ∷ token.Symbol symbol.Close ∷ rest

-- [ name "." ]
abbrev pub qualifier_tokens : Option (List ℕ) → List Token → List Token
qualifier_tokens None rest = rest
qualifier_tokens (Some table) rest = token.Name table ∷ token.Symbol symbol.Dot ∷ rest

-- col = [ name "." ] name
abbrev pub col_tokens : ColRef → List Token → List Token
col_tokens c rest = qualifier_tokens c.table (token.Name c.column ∷ rest)

abbrev pub term_tokens : TermForm → List Token → List Token
term_tokens (constant c) rest = const_tokens c rest
term_tokens (column c) rest = col_tokens c rest

abbrev pub expr_tokens : ExprForm → List Token → List Token
expr_tokens (one t) rest = term_tokens t rest
expr_tokens (sum a b) rest = term_tokens a (token.Symbol symbol.Plus ∷ term_tokens b rest)
expr_tokens (difference a b) rest = term_tokens a (token.Symbol symbol.Minus ∷ term_tokens b rest)

-- ---- what it means

abbrev pub const_meant : ConstForm → Term
const_meant (number n) = term.Lit (value.Int (pos n))
const_meant (minus n) = term.Lit (value.Int (neg_ℤ (pos n)))
const_meant (string x) = term.Lit (value.Text x)
const_meant now = term.Now
const_meant (rand n) = term.Rand (pos n)

abbrev pub term_meant : TermForm → Term
term_meant (constant c) = const_meant c
term_meant (column c) = term.Col c

abbrev pub expr_meant : ExprForm → Expr
expr_meant (one t) = expr.One (term_meant t)
expr_meant (sum a b) = expr.Plus (term_meant a) (term_meant b)
expr_meant (difference a b) = expr.Minus (term_meant a) (term_meant b)

-- ---- its limits

-- A number is in the range of 64 bits with a sign. One of RAND is at least 1.
abbrev pub ConstFits : ConstForm → Type 0
ConstFits (number n) = n < 2 ^ 63
ConstFits (minus n) = n ≤ 2 ^ 63
ConstFits (string x) = Unit {0}
ConstFits now = Unit {0}
ConstFits (rand n) = (0 < n) × (n < 2 ^ 63)

abbrev pub TermFits : TermForm → Type 0
TermFits (constant c) = ConstFits c
TermFits (column c) = Unit {0}

abbrev pub ExprFits : ExprForm → Type 0
ExprFits (one t) = TermFits t
ExprFits (sum a b) = TermFits a × TermFits b
ExprFits (difference a b) = TermFits a × TermFits b
