-- The readers of constants, columns, terms and expressions read exactly the forms of the grammar.
use Rattle.std.proofs.Common.{◌≡◌, refl, sym, subst, ℕ, ◌^◌, ◌<◌, nat_lt, nat_le, true, false, ◌&&◌, List, ◌∷◌, drop, Option, None, Some, arith}
use Rattle.std.proofs.lemmas.Bool.{and_parts}
use Rattle.cj_sql.proofs.Common.{ColRef, Keyword, Symbol, Term, Token, nat_tests}
use Rattle.cj_model.specs.declared.token.Token.TheVariants as token
use Rattle.cj_model.specs.declared.token.Keyword.TheVariants as word
use Rattle.cj_model.specs.declared.token.Symbol.TheVariants as symbol
use Rattle.cj_model.specs.declared.term.Expr.{Expr}
use Rattle.cj_model.specs.Sql.TermForms.{AnyFits, ConstForm, TermForm, ExprForm, const_tokens, const_meant, ConstFits, qualifier_tokens, col_tokens, term_tokens, term_meant, TermFits, expr_tokens, expr_meant, ExprFits}
use Rattle.cj_model.specs.Sql.TermForms as form
use Rattle.cj_sql.specs.Proving.Reader.{read, same_word, same_symbol, sees_word, sees_symbol, sees_number, sees_name, expect_name, expect_number, expect_text, expect_symbol}
use Rattle.cj_sql.specs.Proving.TermReader.{positive, negative, string, now, rand, const_term, qualified, column, term, combined, expr}
use Rattle.cj_sql.proofs.Binds.{branch, holds, fails, part, part_of}
use Rattle.cj_sql.proofs.Front.{word_seen, symbol_seen, name_sound, number_sound, text_sound, expect_symbol_sound}
use Rattle.cj_sql.proofs.Lists.{IsForm, IsReaderOf}
use Rattle.cj_sql.proofs.Ranks.{rank, no_symbol}

-- ---- constants

-- the tokens are those of a constant
abbrev IsConstant : List Token → Term → List Token → Type 0
IsConstant = IsForm const_tokens const_meant ConstFits

-- a number that was read is a constant
positive_sound : (ts : List Token) (x : Term) (rest : List Token) → positive ts ≡ read x rest → IsConstant ts x rest
unfolding positive
positive_sound ts x rest h = elim (part_of (number_sound ts) h) [
  | part n us a k ↦
      elim (branch (nat_lt n (2 ^ 63)) _ _ _ k) [
        | holds e k ↦ record { form = form.number n; tokens_are = cc; means = cc; fits = grind (arith, nat_tests) }
        | fails e k ↦ absurd (cc)
      ]
]

-- a number that was read after a minus is one with it
negative_sound : (ts : List Token) (x : Term) (rest : List Token) → negative ts ≡ read x rest → IsConstant (token.Symbol symbol.Minus ∷ ts) x rest
unfolding negative
negative_sound ts x rest h = elim (part_of (number_sound ts) h) [
  | part n us a k ↦
      elim (branch (nat_le n (2 ^ 63)) _ _ _ k) [
        | holds e k ↦ record { form = form.minus n; tokens_are = cc; means = cc; fits = grind (arith, nat_tests) }
        | fails e k ↦ absurd (cc)
      ]
]

-- a string that was read is a constant
string_sound : (ts : List Token) (x : Term) (rest : List Token) → string ts ≡ read x rest → IsConstant ts x rest
unfolding string
string_sound ts x rest h = elim (part_of (text_sound ts) h) [ part y us a k ↦ record { form = form.string y; tokens_are = cc; means = cc; fits = tt } ]

-- what was read after NOW is a constant with it
now_sound : (ts : List Token) (x : Term) (rest : List Token) → now ts ≡ read x rest → IsConstant (token.Word word.Now ∷ ts) x rest
unfolding now
now_sound ts x rest h =
    elim (part_of (expect_symbol_sound symbol.Open ts) h) [
      | part _ ts1 a1 k1 ↦ elim (part_of (expect_symbol_sound symbol.Close ts1) k1) [ part _ ts2 a2 k2 ↦ record { form = form.now; tokens_are = cc; means = cc; fits = tt } ]
    ]

-- what was read after RAND is a constant with it
rand_sound : (ts : List Token) (x : Term) (rest : List Token) → rand ts ≡ read x rest → IsConstant (token.Word word.Rand ∷ ts) x rest
unfolding rand
rand_sound ts x rest h =
    elim (part_of (expect_symbol_sound symbol.Open ts) h) [
      | part _ ts1 a1 k1 ↦
          elim (part_of (number_sound ts1) k1) [
            | part n ts2 a2 k2 ↦
                elim (part_of (expect_symbol_sound symbol.Close ts2) k2) [
                  | part _ ts3 a3 k3 ↦
                      elim (branch (nat_lt 0 n && nat_lt n (2 ^ 63)) _ _ _ k3) [
                        | holds e k ↦
                            let both = and_parts (nat_lt 0 n) (nat_lt n (2 ^ 63)) e in
                            let some = both.0 in
                            let low = both.1 in
                            record { form = form.rand n; tokens_are = cc; means = cc; fits = (grind (arith, nat_tests, some), grind (arith, nat_tests, low)) }
                        | fails e k ↦ absurd (cc)
                      ]
                ]
          ]
    ]

-- a constant that was read stood there
constant_sound : (ts : List Token) (x : Term) (rest : List Token) → const_term ts ≡ read x rest → IsConstant ts x rest
unfolding const_term
constant_sound ts x rest h =
    let P : List Token → Type 0 = λ us. IsConstant us x rest in
    elim (branch (sees_symbol symbol.Minus ts) _ _ _ h) [
      | holds e k ↦ subst P (sym (symbol_seen symbol.Minus ts e)) (negative_sound (drop 1 ts) x rest k)
      | fails e k ↦ elim (branch (sees_number ts) _ _ _ k) [
        | holds f k ↦ positive_sound ts x rest k
        | fails f k ↦ elim (branch (sees_word word.Now ts) _ _ _ k) [
          | holds g k ↦ subst P (sym (word_seen word.Now ts g)) (now_sound (drop 1 ts) x rest k)
          | fails g k ↦ elim (branch (sees_word word.Rand ts) _ _ _ k) [
            | holds i k ↦ subst P (sym (word_seen word.Rand ts i)) (rand_sound (drop 1 ts) x rest k)
            | fails i k ↦ string_sound ts x rest k
          ]
        ]
      ]
    ]

-- a constant is read
constant_complete : (f : ConstForm) (rest : List Token) → ConstFits f → 0 < rank rest → const_term (const_tokens f rest) ≡ read (const_meant f) rest
unfolding const_term positive negative string now rand expect_symbol expect_number expect_text same_word same_symbol
constant_complete (form.number n) rest fits e = grind (arith, nat_tests, fits)
constant_complete (form.minus n) rest fits e = grind (arith, nat_tests, fits)
constant_complete (form.string x) rest fits e = refl
constant_complete form.now rest fits e = refl
constant_complete (form.rand n) rest fits e =
    let low = fits.0 in
    let high = fits.1 in
    let some : nat_lt 0 n ≡ true = grind (arith, nat_tests, low) in
    let small : nat_lt n (2 ^ 63) ≡ true = grind (arith, nat_tests, high) in
    rw (some, small) refl

pub constant_read : IsReaderOf const_tokens const_meant ConstFits 0 const_term
constant_read = record { sound = constant_sound; complete = constant_complete }

-- no constant begins with a name
const_no_name : (f : ConstForm) (rest : List Token) → sees_name (const_tokens f rest) ≡ false
const_no_name (form.number n) rest = refl
const_no_name (form.minus n) rest = refl
const_no_name (form.string x) rest = refl
const_no_name form.now rest = refl
const_no_name (form.rand n) rest = refl

-- ---- columns

-- a column that was read stood there
column_sound : (ts : List Token) (c : ColRef) (rest : List Token) → column ts ≡ read c rest → IsForm col_tokens (λ c. c) AnyFits ts c rest
unfolding column qualified
column_sound ts c rest h =
    elim (part_of (name_sound ts) h) [
      | part first us a k ↦
          elim (branch (sees_symbol symbol.Dot us) _ _ _ k) [
            | holds e k ↦
                let dot = symbol_seen symbol.Dot us e in
                elim (part_of (name_sound (drop 1 us)) k) [ part n vs b k ↦ record { form = record { table = Some first; column = n }; tokens_are = cc; means = cc; fits = tt } ]
            | fails e k ↦ record { form = record { table = None; column = first }; tokens_are = cc; means = cc; fits = tt }
          ]
    ]

-- a column is read, by its parts
column_of : (table : Option (List ℕ)) (n : List ℕ) (rest : List Token) → 0 < rank rest
    → column (qualifier_tokens table (token.Name n ∷ rest)) ≡ read (record { table = table; column = n }) rest
unfolding column qualified expect_name same_symbol
column_of None n rest e = rw (no_symbol symbol.Dot rest e) refl
column_of (Some t) n rest e = refl

pub column_read : IsReaderOf col_tokens (λ c. c) AnyFits 0 column
column_read = record { sound = column_sound; complete = λ c rest fits e. column_of c.table c.column rest e }

-- a column begins with a name
col_name : (table : Option (List ℕ)) (n : List ℕ) (rest : List Token) → sees_name (qualifier_tokens table (token.Name n ∷ rest)) ≡ true
col_name None n rest = refl
col_name (Some t) n rest = refl

-- and so with no word
pub col_no_word : (w : Keyword) (table : Option (List ℕ)) (n : List ℕ) (rest : List Token) → sees_word w (qualifier_tokens table (token.Name n ∷ rest)) ≡ false
col_no_word w None n rest = refl
col_no_word w (Some t) n rest = refl

-- and no symbol
pub col_no_symbol : (s : Symbol) (table : Option (List ℕ)) (n : List ℕ) (rest : List Token) → sees_symbol s (qualifier_tokens table (token.Name n ∷ rest)) ≡ false
col_no_symbol s None n rest = refl
col_no_symbol s (Some t) n rest = refl

-- ---- terms

-- a term that was read stood there
term_sound : (ts : List Token) (x : Term) (rest : List Token) → term ts ≡ read x rest → IsForm term_tokens term_meant TermFits ts x rest
unfolding term
term_sound ts x rest h = elim (branch (sees_name ts) _ _ _ h) [
  | holds e k ↦ elim (part_of (column_sound ts) k) [ part c us a k ↦ record { form = form.column a.form; tokens_are = cc; means = cc; fits = tt } ]
  | fails e k ↦ let a = constant_sound ts x rest k in record { form = form.constant a.form; tokens_are = a.tokens_are; means = a.means; fits = a.fits }
]

-- a term is read
term_complete : (f : TermForm) (rest : List Token) → TermFits f → 0 < rank rest → term (term_tokens f rest) ≡ read (term_meant f) rest
unfolding term
term_complete (form.constant f) rest fits e = rw (const_no_name f rest) (constant_complete f rest fits e)
term_complete (form.column c) rest fits e = rw (col_name c.table c.column rest, column_of c.table c.column rest e) refl

pub term_read : IsReaderOf term_tokens term_meant TermFits 0 term
term_read = record { sound = term_sound; complete = term_complete }

-- no term begins with this symbol
pub term_no_open : (f : TermForm) (rest : List Token) → sees_symbol symbol.Open (term_tokens f rest) ≡ false
unfolding same_symbol
term_no_open (form.constant (form.number n)) rest = refl
term_no_open (form.constant (form.minus n)) rest = refl
term_no_open (form.constant (form.string x)) rest = refl
term_no_open (form.constant form.now) rest = refl
term_no_open (form.constant (form.rand n)) rest = refl
term_no_open (form.column c) rest = col_no_symbol symbol.Open c.table c.column rest

-- nor with this word
pub term_no_not : (f : TermForm) (rest : List Token) → sees_word word.Not (term_tokens f rest) ≡ false
unfolding same_word
term_no_not (form.constant (form.number n)) rest = refl
term_no_not (form.constant (form.minus n)) rest = refl
term_no_not (form.constant (form.string x)) rest = refl
term_no_not (form.constant form.now) rest = refl
term_no_not (form.constant (form.rand n)) rest = refl
term_no_not (form.column c) rest = col_no_word word.Not c.table c.column rest

-- ---- expressions

-- an expression that was read stood there
expr_sound : (ts : List Token) (x : Expr) (rest : List Token) → expr ts ≡ read x rest → IsForm expr_tokens expr_meant ExprFits ts x rest
unfolding expr combined
expr_sound ts x rest h =
    elim (part_of (term_sound ts) h) [
      | part left us a k ↦
          elim (branch (sees_symbol symbol.Plus us) _ _ _ k) [
            | holds e k ↦
                let sign = symbol_seen symbol.Plus us e in
                elim (part_of (term_sound (drop 1 us)) k) [ part right vs b k ↦ record { form = form.sum a.form b.form; tokens_are = cc; means = cc; fits = (a.fits, b.fits) } ]
            | fails e k ↦ elim (branch (sees_symbol symbol.Minus us) _ _ _ k) [
              | holds f k ↦
                  let sign = symbol_seen symbol.Minus us f in
                  elim (part_of (term_sound (drop 1 us)) k) [ part right vs b k ↦ record { form = form.difference a.form b.form; tokens_are = cc; means = cc; fits = (a.fits, b.fits) } ]
              | fails f k ↦ record { form = form.one a.form; tokens_are = cc; means = cc; fits = a.fits }
            ]
          ]
    ]

-- an expression is read
expr_complete : (f : ExprForm) (rest : List Token) → ExprFits f → 1 < rank rest → expr (expr_tokens f rest) ≡ read (expr_meant f) rest
unfolding expr combined same_symbol
expr_complete (form.one t) rest fits e = rw (term_complete t rest fits (omega (arith, e)), no_symbol symbol.Plus rest e, no_symbol symbol.Minus rest e) refl
expr_complete (form.sum a b) rest fits e =
    rw (term_complete a (token.Symbol symbol.Plus ∷ term_tokens b rest) fits.0 (omega arith), term_complete b rest fits.1 (omega (arith, e))) refl
expr_complete (form.difference a b) rest fits e =
    rw (term_complete a (token.Symbol symbol.Minus ∷ term_tokens b rest) fits.0 (omega arith), term_complete b rest fits.1 (omega (arith, e))) refl

pub expr_read : IsReaderOf expr_tokens expr_meant ExprFits 1 expr
expr_read = record { sound = expr_sound; complete = expr_complete }
