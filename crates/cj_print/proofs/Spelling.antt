-- How texts of a token or some are put before others.
use Rattle.std.proofs.Common.{◌≡◌, refl, sym, ℕ, ◌≤◌, ◌^◌, ◌<◌, false, ◌==◌, List, [], ◌∷◌, ◌++◌, inl, codes, arith}
use Rattle.std.proofs.lemmas.Fmt.{digits_value-decimal}
use Rattle.cj_print.proofs.Common.{Keyword, Symbol, Token, append_assoc, decimal, nat_tests}
use Rattle.cj_model.specs.declared.token.Keyword.TheVariants as word
use Rattle.cj_model.specs.declared.token.Symbol.TheVariants as symbol
use Rattle.cj_model.specs.declared.token.Token.TheVariants as token
use Rattle.cj_model.specs.Sql.Lexical.{is_word, EndsBefore, IsDigits, doubled, keyword, Spells, EndsToken, Tokens}
use Rattle.cj_print.proofs.Texts.{numerals}
use Rattle.cj_print.proofs.ReadBack.{decimal_digits}
use Rattle.cj_model.proofs.Spellable.{IsToken}

-- ---- reserved words and symbols

-- a reserved word in capitals
abbrev pub capitals : Keyword → List ℕ
capitals word.And = codes "AND"
capitals word.Asc = codes "ASC"
capitals word.Begin = codes "BEGIN"
capitals word.By = codes "BY"
capitals word.Commit = codes "COMMIT"
capitals word.Count = codes "COUNT"
capitals word.Create = codes "CREATE"
capitals word.Delete = codes "DELETE"
capitals word.Desc = codes "DESC"
capitals word.Drop = codes "DROP"
capitals word.From = codes "FROM"
capitals word.Group = codes "GROUP"
capitals word.Insert = codes "INSERT"
capitals word.Integer = codes "INTEGER"
capitals word.Into = codes "INTO"
capitals word.Key = codes "KEY"
capitals word.Limit = codes "LIMIT"
capitals word.Not = codes "NOT"
capitals word.Now = codes "NOW"
capitals word.Or = codes "OR"
capitals word.Order = codes "ORDER"
capitals word.Primary = codes "PRIMARY"
capitals word.Rand = codes "RAND"
capitals word.Rollback = codes "ROLLBACK"
capitals word.Select = codes "SELECT"
capitals word.Set = codes "SET"
capitals word.Sum = codes "SUM"
capitals word.Table = codes "TABLE"
capitals word.Text = codes "TEXT"
capitals word.Update = codes "UPDATE"
capitals word.Values = codes "VALUES"
capitals word.Where = codes "WHERE"

capitals_spell : (k : Keyword) → Spells (token.Word k) (capitals k)
unfolding keyword
capitals_spell word.And = ((refl, (refl, (refl, tt))), omega arith, refl)
capitals_spell word.Asc = ((refl, (refl, (refl, tt))), omega arith, refl)
capitals_spell word.Begin = ((refl, (refl, (refl, (refl, (refl, tt))))), omega arith, refl)
capitals_spell word.By = ((refl, (refl, tt)), omega arith, refl)
capitals_spell word.Commit = ((refl, (refl, (refl, (refl, (refl, (refl, tt)))))), omega arith, refl)
capitals_spell word.Count = ((refl, (refl, (refl, (refl, (refl, tt))))), omega arith, refl)
capitals_spell word.Create = ((refl, (refl, (refl, (refl, (refl, (refl, tt)))))), omega arith, refl)
capitals_spell word.Delete = ((refl, (refl, (refl, (refl, (refl, (refl, tt)))))), omega arith, refl)
capitals_spell word.Desc = ((refl, (refl, (refl, (refl, tt)))), omega arith, refl)
capitals_spell word.Drop = ((refl, (refl, (refl, (refl, tt)))), omega arith, refl)
capitals_spell word.From = ((refl, (refl, (refl, (refl, tt)))), omega arith, refl)
capitals_spell word.Group = ((refl, (refl, (refl, (refl, (refl, tt))))), omega arith, refl)
capitals_spell word.Insert = ((refl, (refl, (refl, (refl, (refl, (refl, tt)))))), omega arith, refl)
capitals_spell word.Integer = ((refl, (refl, (refl, (refl, (refl, (refl, (refl, tt))))))), omega arith, refl)
capitals_spell word.Into = ((refl, (refl, (refl, (refl, tt)))), omega arith, refl)
capitals_spell word.Key = ((refl, (refl, (refl, tt))), omega arith, refl)
capitals_spell word.Limit = ((refl, (refl, (refl, (refl, (refl, tt))))), omega arith, refl)
capitals_spell word.Not = ((refl, (refl, (refl, tt))), omega arith, refl)
capitals_spell word.Now = ((refl, (refl, (refl, tt))), omega arith, refl)
capitals_spell word.Or = ((refl, (refl, tt)), omega arith, refl)
capitals_spell word.Order = ((refl, (refl, (refl, (refl, (refl, tt))))), omega arith, refl)
capitals_spell word.Primary = ((refl, (refl, (refl, (refl, (refl, (refl, (refl, tt))))))), omega arith, refl)
capitals_spell word.Rand = ((refl, (refl, (refl, (refl, tt)))), omega arith, refl)
capitals_spell word.Rollback = ((refl, (refl, (refl, (refl, (refl, (refl, (refl, (refl, tt)))))))), omega arith, refl)
capitals_spell word.Select = ((refl, (refl, (refl, (refl, (refl, (refl, tt)))))), omega arith, refl)
capitals_spell word.Set = ((refl, (refl, (refl, tt))), omega arith, refl)
capitals_spell word.Sum = ((refl, (refl, (refl, tt))), omega arith, refl)
capitals_spell word.Table = ((refl, (refl, (refl, (refl, (refl, tt))))), omega arith, refl)
capitals_spell word.Text = ((refl, (refl, (refl, (refl, tt)))), omega arith, refl)
capitals_spell word.Update = ((refl, (refl, (refl, (refl, (refl, (refl, tt)))))), omega arith, refl)
capitals_spell word.Values = ((refl, (refl, (refl, (refl, (refl, (refl, tt)))))), omega arith, refl)
capitals_spell word.Where = ((refl, (refl, (refl, (refl, (refl, tt))))), omega arith, refl)

-- a symbol; unequal is `<>`
abbrev pub sign : Symbol → List ℕ
sign symbol.Open = codes "("
sign symbol.Close = codes ")"
sign symbol.Comma = codes ","
sign symbol.Dot = codes "."
sign symbol.Star = codes "*"
sign symbol.Semi = codes ";"
sign symbol.Eq = codes "="
sign symbol.Ne = codes "<>"
sign symbol.Lt = codes "<"
sign symbol.Le = codes "<="
sign symbol.Gt = codes ">"
sign symbol.Ge = codes ">="
sign symbol.Plus = codes "+"
sign symbol.Minus = codes "-"

sign_spells : (s : Symbol) → Spells (token.Symbol s) (sign s)
sign_spells symbol.Open = refl
sign_spells symbol.Close = refl
sign_spells symbol.Comma = refl
sign_spells symbol.Dot = refl
sign_spells symbol.Star = refl
sign_spells symbol.Semi = refl
sign_spells symbol.Eq = refl
sign_spells symbol.Ne = inl refl
sign_spells symbol.Lt = refl
sign_spells symbol.Le = refl
sign_spells symbol.Gt = refl
sign_spells symbol.Ge = refl
sign_spells symbol.Plus = refl
sign_spells symbol.Minus = refl

-- ---- what follows a token

-- a byte that no token goes on with
pub record Apart (b : ℕ) : Type 0 where
  pub word : is_word b ≡ false
  pub quote : (b == 39) ≡ false
  pub equals : (b == 61) ≡ false
  pub more : (b == 62) ≡ false
  pub hyphen : (b == 45) ≡ false

-- such a byte stands in front, or nothing
abbrev pub Starts : List ℕ → Type 0
Starts [] = Unit {0}
Starts (b ∷ z) = Apart b

pub space : Apart 32
space = record { word = refl; quote = refl; equals = refl; more = refl; hyphen = refl }

pub comma : Apart 44
comma = record { word = refl; quote = refl; equals = refl; more = refl; hyphen = refl }

pub dot : Apart 46
dot = record { word = refl; quote = refl; equals = refl; more = refl; hyphen = refl }

pub left : Apart 40
left = record { word = refl; quote = refl; equals = refl; more = refl; hyphen = refl }

pub right : Apart 41
right = record { word = refl; quote = refl; equals = refl; more = refl; hyphen = refl }

-- each token ends there
byte_ends : (x : Token) (b : ℕ) (z : List ℕ) → Apart b → EndsToken x (b ∷ z)
byte_ends (token.Word w) b z p = p.word
byte_ends (token.Name w) b z p = p.word
byte_ends (token.Number w) b z p = p.word
byte_ends (token.Text w) b z p = p.quote
byte_ends (token.Symbol symbol.Lt) b z p = rw (p.equals, p.more) refl
byte_ends (token.Symbol symbol.Gt) b z p = p.equals
byte_ends (token.Symbol symbol.Minus) b z p = p.hyphen
byte_ends (token.Symbol _) b z p = tt

nothing_ends : (x : Token) → EndsToken x []
nothing_ends (token.Symbol symbol.Lt) = tt
nothing_ends (token.Symbol symbol.Gt) = tt
nothing_ends (token.Symbol symbol.Minus) = tt
nothing_ends (token.Symbol _) = tt
nothing_ends _ = tt

pub ends : (x : Token) (z : List ℕ) → Starts z → EndsToken x z
ends x [] h = nothing_ends x
ends x (b ∷ z) h = byte_ends x b z h

-- ---- one token more in front

-- a token's spelling in front of a text is that token in front of the text's
pub put : (x : Token) (z rest : List ℕ) (xs : List Token) → Spells x z → EndsToken x rest → Tokens rest xs → Tokens (z ++ rest) (x ∷ xs)
put x z rest xs s e h = (rest, record { blanks = []; spelling = z; text_is = refl; blank = tt; spells = s; ends = e }, h)

-- a space in front changes nothing
pub spaced : (text : List ℕ) (xs : List Token) → Tokens text xs → Tokens (32 ∷ text) xs
spaced text [] h = (refl, h)
spaced text (x ∷ xs) h =
    let e = h.1.text_is in
    (h.0, record { blanks = 32 ∷ h.1.blanks; spelling = h.1.spelling; text_is = cc; blank = (refl, h.1.blank); spells = h.1.spells; ends = h.1.ends }, h.2)

pub put_word : (k : Keyword) (rest : List ℕ) (xs : List Token) → Starts rest → Tokens rest xs → Tokens (capitals k ++ rest) (token.Word k ∷ xs)
put_word k rest xs p h = put (token.Word k) (capitals k) rest xs (capitals_spell k) (ends (token.Word k) rest p) h

pub put_sign : (s : Symbol) (rest : List ℕ) (xs : List Token) → EndsToken (token.Symbol s) rest → Tokens rest xs → Tokens (sign s ++ rest) (token.Symbol s ∷ xs)
put_sign s rest xs p h = put (token.Symbol s) (sign s) rest xs (sign_spells s) p h

pub put_name : (n rest : List ℕ) (xs : List Token) → IsToken (token.Name n) → Starts rest → Tokens rest xs → Tokens (n ++ rest) (token.Name n ∷ xs)
put_name n rest xs k p h = put (token.Name n) n rest xs (k.0, k.1, k.2, k.3) (ends (token.Name n) rest p) h

pub put_number : (n : ℕ) (rest : List ℕ) (xs : List Token) → n ≤ 2 ^ 63 → Starts rest → Tokens rest xs → Tokens (decimal n ++ rest) (token.Number n ∷ xs)
put_number n rest xs k p h =
    let small : n < 2 ^ 64 = omega arith in
    put (token.Number n) (decimal n) rest xs (decimal_digits n small, sym (digits_value-decimal numerals n small), k) (ends (token.Number n) rest p) h

pub put_text : (x rest : List ℕ) (xs : List Token) → IsToken (token.Text x) → Starts rest → Tokens rest xs → Tokens ((39 ∷ doubled x ++ 39 ∷ []) ++ rest) (token.Text x ∷ xs)
put_text x rest xs k p h = put (token.Text x) (39 ∷ doubled x ++ 39 ∷ []) rest xs (refl, k.0, k.1) (ends (token.Text x) rest p) h

no_hyphen : (z rest : List ℕ) → IsDigits z → EndsBefore (λ b. b == 45) (z ++ rest)
no_hyphen [] rest h = absurd h
no_hyphen (b ∷ z) rest h = let d = h.0 in grind (arith, nat_tests, d)

pub put_minus : (n : ℕ) (rest : List ℕ) (xs : List Token) → n ≤ 2 ^ 63 → Starts rest → Tokens rest xs → Tokens (45 ∷ (decimal n ++ rest)) (token.Symbol symbol.Minus ∷ token.Number n ∷ xs)
put_minus n rest xs k p h =
    put_sign symbol.Minus (decimal n ++ rest) (token.Number n ∷ xs) (no_hyphen (decimal n) rest (decimal_digits n (omega arith))) (put_number n rest xs k p h)

-- ---- texts of some tokens

-- The text is spelled by these tokens, where no token goes on behind it.
pub record Spelled (text : List ℕ) (tokens : List Token → List Token) : Type 0 where
  pub before : (rest : List ℕ) (xs : List Token) → Starts rest → Tokens rest xs → Tokens (text ++ rest) (tokens xs)

-- The text is spelled by these tokens, whatever stands behind it.
pub record Ended (text : List ℕ) (tokens : List Token → List Token) : Type 0 where
  pub before : (rest : List ℕ) (xs : List Token) → Tokens rest xs → Tokens (text ++ rest) (tokens xs)

-- No token goes on into the text, where none goes on behind it.
abbrev pub Parts : List ℕ → Type 0
Parts text = (rest : List ℕ) → Starts rest → Starts (text ++ rest)

-- No token goes on into the text.
abbrev pub Cuts : List ℕ → Type 0
Cuts text = (rest : List ℕ) → Starts (text ++ rest)

-- what is ended, and then another text
pub after : (a b : List ℕ) (f g : List Token → List Token) → Ended a f → Spelled b g → Spelled (a ++ b) (λ xs. f (g xs))
after a b f g x y = record { before = λ rest xs p h. rw (append_assoc a b rest) (x.before (b ++ rest) (g xs) (y.before rest xs p h)) }

-- both are ended
pub both_ended : (a b : List ℕ) (f g : List Token → List Token) → Ended a f → Ended b g → Ended (a ++ b) (λ xs. f (g xs))
both_ended a b f g x y = record { before = λ rest xs h. rw (append_assoc a b rest) (x.before (b ++ rest) (g xs) (y.before rest xs h)) }

-- a text, and then one that parts
pub then_part : (a b : List ℕ) (f g : List Token → List Token) → Spelled a f → Parts b → Spelled b g → Spelled (a ++ b) (λ xs. f (g xs))
then_part a b f g x c y = record { before = λ rest xs p h. rw (append_assoc a b rest) (x.before (b ++ rest) (g xs) (c rest p) (y.before rest xs p h)) }

-- a text, and then one that cuts and is ended
pub then_end : (a b : List ℕ) (f g : List Token → List Token) → Spelled a f → Cuts b → Ended b g → Ended (a ++ b) (λ xs. f (g xs))
then_end a b f g x c y = record { before = λ rest xs h. rw (append_assoc a b rest) (x.before (b ++ rest) (g xs) (c rest) (y.before rest xs h)) }

-- what is ended is spelled
pub as_spelled : (a : List ℕ) (f : List Token → List Token) → Ended a f → Spelled a f
as_spelled a f x = record { before = λ rest xs p h. x.before rest xs h }

-- nothing is spelled by no token
pub no_text : Spelled [] (λ xs. xs)
no_text = record { before = λ rest xs p h. h }
