-- What was read of the token at the front.
use Rattle.std.proofs.Common.{◌≡◌, refl, ap, ℕ, true, List, [], ◌∷◌, drop, rules}
use Rattle.cj_sql.proofs.Common.{Keyword, Symbol, Token}
use denote.Enum.Bare.{same_true, true_same}
use Rattle.cj_model.specs.contracts.token.Keyword as keyword_type
use Rattle.cj_model.specs.contracts.token.Symbol as symbol_type
use Rattle.cj_model.specs.declared.token.Token.TheVariants as token
use Rattle.cj_sql.specs.Proving.Reader.{read, same_word, same_symbol, sees_word, sees_symbol, sees_end, expect_name, expect_number, expect_text, symbol_at, expect_word, expect_symbol}
use Rattle.cj_sql.proofs.Binds.{branch, holds, fails}

-- a word that is seen stands there
pub word_seen : (w : Keyword) (ts : List Token) → sees_word w ts ≡ true → ts ≡ token.Word w ∷ drop 1 ts
unfolding same_word
word_seen w [] h = absurd (cc)
word_seen w (token.Word found ∷ ts) h = let e = same_true keyword_type.the_type (search rules) found w h in ap (λ x. token.Word x ∷ ts) e
word_seen w (_ ∷ ts) h = absurd (cc)

-- and a word that stands there is seen
pub word_sees : (w : Keyword) (ts : List Token) → sees_word w (token.Word w ∷ ts) ≡ true
unfolding same_word
word_sees w ts = true_same keyword_type.the_type w w refl

-- a symbol that is seen stands there
pub symbol_seen : (s : Symbol) (ts : List Token) → sees_symbol s ts ≡ true → ts ≡ token.Symbol s ∷ drop 1 ts
unfolding same_symbol
symbol_seen s [] h = absurd (cc)
symbol_seen s (token.Symbol found ∷ ts) h = let e = same_true symbol_type.the_type (search rules) found s h in ap (λ x. token.Symbol x ∷ ts) e
symbol_seen s (_ ∷ ts) h = absurd (cc)

-- where the end is seen, no token is left
pub end_seen : (ts : List Token) → sees_end ts ≡ true → ts ≡ []
end_seen [] h = refl
end_seen (t ∷ ts) h = absurd (cc)

-- a name that was read stood there
pub name_sound : (ts : List Token) (n : List ℕ) (rest : List Token) → expect_name ts ≡ read n rest → ts ≡ token.Name n ∷ rest
unfolding expect_name
name_sound [] n rest h = absurd (cc)
name_sound (token.Name m ∷ ts) n rest h = cc
name_sound (_ ∷ ts) n rest h = absurd (cc)

-- a number that was read stood there
pub number_sound : (ts : List Token) (n : ℕ) (rest : List Token) → expect_number ts ≡ read n rest → ts ≡ token.Number n ∷ rest
unfolding expect_number
number_sound [] n rest h = absurd (cc)
number_sound (token.Number m ∷ ts) n rest h = cc
number_sound (_ ∷ ts) n rest h = absurd (cc)

-- a string that was read stood there
pub text_sound : (ts : List Token) (x : List ℕ) (rest : List Token) → expect_text ts ≡ read x rest → ts ≡ token.Text x ∷ rest
unfolding expect_text
text_sound [] x rest h = absurd (cc)
text_sound (token.Text y ∷ ts) x rest h = cc
text_sound (_ ∷ ts) x rest h = absurd (cc)

-- a symbol that was read stood there
pub symbol_sound : (ts : List Token) (s : Symbol) (rest : List Token) → symbol_at ts ≡ read s rest → ts ≡ token.Symbol s ∷ rest
unfolding symbol_at
symbol_sound [] s rest h = absurd (cc)
symbol_sound (token.Symbol t ∷ ts) s rest h = cc
symbol_sound (_ ∷ ts) s rest h = absurd (cc)

-- a word that was expected stood there
pub expect_word_sound : (w : Keyword) (ts : List Token) (u : Unit {0}) (rest : List Token) → expect_word w ts ≡ read u rest → ts ≡ token.Word w ∷ rest
unfolding expect_word
expect_word_sound w ts u rest h = elim (branch (sees_word w ts) _ _ _ h) [
  | holds e k ↦ let seen = word_seen w ts e in cc
  | fails e k ↦ absurd (cc)
]

-- a symbol that was expected stood there
pub expect_symbol_sound : (s : Symbol) (ts : List Token) (u : Unit {0}) (rest : List Token) → expect_symbol s ts ≡ read u rest → ts ≡ token.Symbol s ∷ rest
unfolding expect_symbol
expect_symbol_sound s ts u rest h = elim (branch (sees_symbol s ts) _ _ _ h) [
  | holds e k ↦ let seen = symbol_seen s ts e in cc
  | fails e k ↦ absurd (cc)
]
