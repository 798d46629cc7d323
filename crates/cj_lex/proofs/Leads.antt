-- The tokens of a whole text, one after another.
use Rattle.std.proofs.Common.{◌≡◌, ◌∙◌, sym, ap, subst, ℕ, ◌<◌, List, [], ◌∷◌, ◌++◌, append_assoc, append-nil, length, length-append, Err, inl, inr, arith}
use Rattle.cj_model.specs.declared.token.Symbol.{Symbol}
use Rattle.cj_model.specs.declared.token.Symbol.TheVariants as symbol
use Rattle.cj_model.specs.declared.token.Token.{Token}
use Rattle.cj_model.specs.declared.token.Token.TheVariants as token
use Rattle.cj_model.specs.Sql.Lexical.{IsSymbol, Spells, Tokens}
use Rattle.cj_lex.specs.declared.error.SqlError.{SqlError}
use Rattle.cj_lex.specs.declared.error.SqlError.TheVariants.{Syntax, NoMemory}
use Rattle.cj_lex.specs.Read.{TokensRead}
use Rattle.cj_lex.specs.Proving.Cut as reader
use Rattle.cj_lex.specs.Proving.Cut.{finished, bad, cut}
use Rattle.cj_lex.proofs.Sound.{first_sound}
use Rattle.cj_lex.proofs.Complete.{first_complete}
use Rattle.cj_lex.proofs.Finished.{finished_sound, finished_complete}

-- all tokens are those that were found and then tokens of what is left
pub record Rest (found : List Token) (left : List ℕ) (all : List Token) : Type 0 where
  pub more : List Token
  pub is : all ≡ found ++ more
  pub tokens : Tokens left more

-- these tokens were read of the text, and this of it is left
pub record Leads (text : List ℕ) (found : List Token) (left : List ℕ) : Type 0 where
  pub sound : (more : List Token) → Tokens left more → Tokens text (found ++ more)
  pub complete : (all : List Token) → Tokens text all → Rest found left all

-- ---- a token takes bytes

-- a symbol takes bytes
symbol_takes : (x : Symbol) (z : List ℕ) → IsSymbol x z → 0 < length z
symbol_takes symbol.Ne z (inl e) = rw e (omega arith)
symbol_takes symbol.Ne z (inr e) = rw e (omega arith)
symbol_takes symbol.Open z e = rw e (omega arith)
symbol_takes symbol.Close z e = rw e (omega arith)
symbol_takes symbol.Comma z e = rw e (omega arith)
symbol_takes symbol.Dot z e = rw e (omega arith)
symbol_takes symbol.Star z e = rw e (omega arith)
symbol_takes symbol.Semi z e = rw e (omega arith)
symbol_takes symbol.Eq z e = rw e (omega arith)
symbol_takes symbol.Lt z e = rw e (omega arith)
symbol_takes symbol.Le z e = rw e (omega arith)
symbol_takes symbol.Gt z e = rw e (omega arith)
symbol_takes symbol.Ge z e = rw e (omega arith)
symbol_takes symbol.Plus z e = rw e (omega arith)
symbol_takes symbol.Minus z e = rw e (omega arith)

-- a token takes bytes
takes : (t : Token) (z : List ℕ) → Spells t z → 0 < length z
takes (token.Word k) [] h = absurd h.0
takes (token.Word k) (b ∷ z) h = omega arith
takes (token.Name k) [] h = absurd h.0
takes (token.Name k) (b ∷ z) h = omega arith
takes (token.Number k) [] h = absurd h.0
takes (token.Number k) (b ∷ z) h = omega arith
takes (token.Text x) [] h = absurd (let e = h.0 in cc)
takes (token.Text x) (b ∷ z) h = omega arith
takes (token.Symbol x) z h = symbol_takes x z h

-- so the text after a token is shorter
pub shorter : (z : List ℕ) (t : Token) (rest : List ℕ) → reader.first_token z ≡ cut t rest → length rest < length z
shorter z t rest h =
    let f = first_sound z t rest h in
    let some = takes t f.spelling f.spells in
    let l = ap length f.text_is in
    let l1 = length-append f.blanks (f.spelling ++ rest) in
    let l2 = length-append f.spelling rest in
    omega arith

-- ---- one token more

-- with one token more
rest_more : (found : List Token) (z : List ℕ) (t : Token) (rest : List ℕ) (all more : List Token) → reader.first_token z ≡ cut t rest → all ≡ found ++ more → Tokens z more
    → Rest (found ++ t ∷ []) rest all
rest_more found z t rest all [] h e k = let f = finished_complete z k in absurd (cc)
rest_more found z t rest all (u ∷ more) h e k =
    let f = first_complete z u k.0 k.1 in
    let same : u ≡ t = cc in
    let there : k.0 ≡ rest = cc in
    let P : List ℕ → Type 0 = λ x. Tokens x more in
    record { more = more; is = e ∙ ap (λ x. found ++ x ∷ more) same ∙ sym (append_assoc found (t ∷ []) more); tokens = subst P there k.2 }

-- the same after one token more
pub leads_more : (text : List ℕ) (found : List Token) (z : List ℕ) (t : Token) (rest : List ℕ) → Leads text found z → reader.first_token z ≡ cut t rest → Leads text (found ++ t ∷ []) rest
leads_more text found z t rest l h = record {
  sound = λ more k.
      let P : List Token → Type 0 = Tokens text in
      subst P (sym (append_assoc found (t ∷ []) more)) (l.sound (t ∷ more) (rest, first_sound z t rest h, k));
  complete = λ all k. let r = l.complete all k in rest_more found z t rest all r.more h r.is r.tokens;
}

-- at the end what was found are the tokens
pub leads_end : (text : List ℕ) (found : List Token) (z : List ℕ) → Leads text found z → reader.first_token z ≡ finished → Tokens text found
leads_end text found z l h = let P : List Token → Type 0 = Tokens text in subst P (append-nil found) (l.sound [] (finished_sound z h))

-- and nothing is left
rest_end : (found : List Token) (z : List ℕ) (all more : List Token) → reader.first_token z ≡ finished → all ≡ found ++ more → Tokens z more → all ≡ found
rest_end found z all [] h e k = e ∙ append-nil found
rest_end found z all (u ∷ more) h e k = let f = first_complete z u k.0 k.1 in absurd (cc)

-- so they are the only ones
pub leads_only : (text : List ℕ) (found : List Token) (z : List ℕ) → Leads text found z → reader.first_token z ≡ finished → (all : List Token) → Tokens text all → all ≡ found
leads_only text found z l h all k = let r = l.complete all k in rest_end found z all r.more h r.is r.tokens

-- what is no token has no tokens
rest_bad : (z : List ℕ) (more : List Token) → reader.first_token z ≡ bad → Tokens z more → ⊥
rest_bad z [] h k = let f = finished_complete z k in cc
rest_bad z (u ∷ more) h k = let f = first_complete z u k.0 k.1 in cc

-- so neither has the whole text
pub leads_bad : (text : List ℕ) (found : List Token) (z : List ℕ) → Leads text found z → reader.first_token z ≡ bad → (all : List Token) → Tokens text all → ⊥
leads_bad text found z l h all k = let r = l.complete all k in rest_bad z r.more h r.tokens

-- what an error says of the whole text
pub leads_err : (text : List ℕ) (found : List Token) (z : List ℕ) (e : SqlError) → Leads text found z → reader.AnswersCut (reader.first_token z) (Err e) → TokensRead text (Err e)
leads_err text found z Syntax l h = leads_bad text found z l h
leads_err text found z NoMemory l h = tt
