-- The reader of constants, columns, terms and expressions as a function, which the code follows step by step.
use Rattle.std.specs.Prelude.{◌^◌, ℕ, ◌&&◌, nat_lt, nat_le, if◌then◌else◌, List, pos, neg_ℤ, drop}
use Rattle.std.specs.declared.option.Option.TheVariants.{None, Some}
use Rattle.cj_model.specs.declared.token.Keyword.TheVariants as word
use Rattle.cj_model.specs.declared.token.Symbol.TheVariants as symbol
use Rattle.cj_model.specs.declared.value.Value.TheVariants as value
use Rattle.cj_model.specs.declared.term.ColRef.{ColRef}
use Rattle.cj_model.specs.declared.term.Term.{Term}
use Rattle.cj_model.specs.declared.term.Term.TheVariants as term_of
use Rattle.cj_model.specs.declared.term.Expr.{Expr}
use Rattle.cj_model.specs.declared.term.Expr.TheVariants as expr_of
use Rattle.cj_sql.specs.Proving.Reader.{refused, read, and_then, Reader, sees_word, sees_symbol, sees_number, sees_name, expect_name, expect_number, expect_text, expect_symbol}

-- ---- constants

-- a number in the range of 64 bits with a sign
unfoldable pub positive : Reader Term
positive ts = and_then (expect_number ts) (λ n rest. if nat_lt n (2 ^ 63) then read (term_of.Lit (value.Int (pos n))) rest else refused)

-- the negative of a number in that range, after "-"
unfoldable pub negative : Reader Term
negative ts = and_then (expect_number ts) (λ n rest. if nat_le n (2 ^ 63) then read (term_of.Lit (value.Int (neg_ℤ (pos n)))) rest else refused)

-- a string as a constant
unfoldable pub string : Reader Term
string ts = and_then (expect_text ts) (λ x rest. read (term_of.Lit (value.Text x)) rest)

-- "(" ")", after NOW
unfoldable pub now : Reader Term
now ts = and_then (expect_symbol symbol.Open ts) (λ _ ts. and_then (expect_symbol symbol.Close ts) (λ _ rest. read term_of.Now rest))

-- "(" number ")", after RAND
unfoldable pub rand : Reader Term
rand ts =
    and_then (expect_symbol symbol.Open ts) (λ _ ts.
    and_then (expect_number ts) (λ n ts.
    and_then (expect_symbol symbol.Close ts) (λ _ rest.
    if nat_lt 0 n && nat_lt n (2 ^ 63) then read (term_of.Rand (pos n)) rest else refused)))

-- [ "-" ] number | string | NOW "(" ")" | RAND "(" number ")"
unfoldable pub const_term : Reader Term
const_term ts =
    if sees_symbol symbol.Minus ts then negative (drop 1 ts)
    else (if sees_number ts then positive ts
    else (if sees_word word.Now ts then now (drop 1 ts)
    else (if sees_word word.Rand ts then rand (drop 1 ts)
    else string ts)))

-- ---- columns, terms and expressions

-- [ "." name ], after the first name
unfoldable pub qualified : List ℕ → Reader ColRef
qualified first ts =
    if sees_symbol symbol.Dot ts then and_then (expect_name (drop 1 ts)) (λ c rest. read (record { table = Some first; column = c }) rest)
    else read (record { table = None; column = first }) ts

-- name [ "." name ]
unfoldable pub column : Reader ColRef
column ts = and_then (expect_name ts) (λ first rest. qualified first rest)

-- const | col
unfoldable pub term : Reader Term
term ts = if sees_name ts then and_then (column ts) (λ c rest. read (term_of.Col c) rest) else const_term ts

-- [ ( "+" | "-" ) term ], after the first term
unfoldable pub combined : Term → Reader Expr
combined left ts =
    if sees_symbol symbol.Plus ts then and_then (term (drop 1 ts)) (λ right rest. read (expr_of.Plus left right) rest)
    else (if sees_symbol symbol.Minus ts then and_then (term (drop 1 ts)) (λ right rest. read (expr_of.Minus left right) rest)
    else read (expr_of.One left) ts)

-- term [ ( "+" | "-" ) term ]
unfoldable pub expr : Reader Expr
expr ts = and_then (term ts) (λ left rest. combined left rest)
