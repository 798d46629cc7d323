-- What may follow a part of a statement: the rank of the token at the front says which parts it can't go on.
use Rattle.std.proofs.Common.{◌≡◌, refl, ap, ℕ, ◌<◌, true, false, List, [], ◌∷◌, arith}
use Rattle.cj_sql.proofs.Common.{Keyword, Symbol, Token}
use Rattle.cj_model.specs.declared.token.Keyword.TheVariants as word
use Rattle.cj_model.specs.declared.token.Symbol.TheVariants as symbol
use Rattle.cj_model.specs.declared.token.Token.TheVariants as token
use Rattle.cj_sql.specs.Proving.Reader.{sees_word, sees_symbol}
use Rattle.cj_sql.proofs.Front.{word_seen, symbol_seen}

-- The larger, the larger the part that ends before it: 1 ends a column, 2 an expression, a key or a column's definition,
-- 3 what OR joins, 4 a condition, 5 a list, 6 to 9 the clauses WHERE, GROUP BY, ORDER BY and LIMIT.
abbrev pub word_rank : Keyword → ℕ
word_rank word.Asc = 1
word_rank word.Desc = 1
word_rank word.Primary = 1
word_rank word.And = 2
word_rank word.Or = 3
word_rank word.Where = 5
word_rank word.Group = 6
word_rank word.Order = 7
word_rank word.Limit = 8
word_rank word.From = 9
word_rank word.Values = 9
word_rank _ = 0

abbrev pub symbol_rank : Symbol → ℕ
symbol_rank symbol.Plus = 1
symbol_rank symbol.Minus = 1
symbol_rank symbol.Eq = 1
symbol_rank symbol.Ne = 1
symbol_rank symbol.Lt = 1
symbol_rank symbol.Le = 1
symbol_rank symbol.Gt = 1
symbol_rank symbol.Ge = 1
symbol_rank symbol.Comma = 4
symbol_rank symbol.Close = 9
symbol_rank symbol.Semi = 9
symbol_rank _ = 0

abbrev pub rank : List Token → ℕ
rank [] = 9
rank (token.Word w ∷ rest) = word_rank w
rank (token.Symbol s ∷ rest) = symbol_rank s
rank (_ ∷ rest) = 0

-- a word of lower rank isn't at the front
pub no_word : (w : Keyword) (ts : List Token) → word_rank w < rank ts → sees_word w ts ≡ false
no_word w ts above =
    elim (sees_word w ts) as (λ v. sees_word w ts ≡ v → v ≡ false) [
      | true ↦ λ e. let same : rank ts ≡ word_rank w = ap rank (word_seen w ts e) in absurd (omega (arith, above, same))
      | false ↦ λ e. refl
    ]
    refl

-- a symbol of lower rank isn't at the front
pub no_symbol : (s : Symbol) (ts : List Token) → symbol_rank s < rank ts → sees_symbol s ts ≡ false
no_symbol s ts above =
    elim (sees_symbol s ts) as (λ v. sees_symbol s ts ≡ v → v ≡ false) [
      | true ↦ λ e. let same : rank ts ≡ symbol_rank s = ap rank (symbol_seen s ts e) in absurd (omega (arith, above, same))
      | false ↦ λ e. refl
    ]
    refl
