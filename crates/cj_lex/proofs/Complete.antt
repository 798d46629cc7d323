-- What is spelled so is cut.
use Rattle.std.proofs.Common.{◌≡◌, refl, ℕ, ◌≤◌, ◌^◌, Bool, true, false, ◌||◌, ◌==◌, nat_le, cond, List, [], ◌∷◌, ◌++◌, append_assoc, length, map, Option, Some, None, inl, inr, arith}
use Rattle.std.specs.List.{prefix_len}
use Rattle.std.specs.Char.{is_ascii_digit}
use Rattle.std.proofs.lemmas.Bool.Decides.{nat_tests}
use Rattle.std.proofs.Math.Seq.{take-append_seam, drop-append_seam}
use Rattle.cj_model.specs.Sql.Names.{lower, is_text}
use Rattle.cj_model.specs.declared.token.Keyword.{Keyword}
use Rattle.cj_model.specs.declared.token.Symbol.{Symbol}
use Rattle.cj_model.specs.declared.token.Symbol.TheVariants as symbol
use Rattle.cj_model.specs.declared.token.Token.{Token}
use Rattle.cj_model.specs.declared.token.Token.TheVariants as token
use Rattle.cj_model.specs.Sql.Lexical.{is_white_space, is_word, EachByte, EndsBefore, IsWordSpelling, number_spelled, doubled, keyword, IsSymbol, Spells, EndsToken, BeginsWithToken}
use Rattle.cj_lex.specs.declared.bytes.Class.TheVariants as class
use Rattle.cj_lex.specs.Proving.Cut as reader
use Rattle.cj_lex.specs.Proving.Cut.{cut, closed, count_of_class, begins, begins_with, reserved_or_name, word_token, close_string}
use Rattle.cj_lex.proofs.Classes.{letter_not_blank, digit_not_blank, digit_not_letter, word_not_digit, letter_in_word}
use Rattle.cj_lex.proofs.Fronts.{prefix_all}
use Rattle.cj_lex.proofs.Names.{word_is_name}

-- ---- what follows

-- no digit follows where no byte of a word does
not_word_digit : (rest : List ℕ) → EndsBefore is_word rest → EndsBefore is_ascii_digit rest
not_word_digit [] h = tt
not_word_digit (b ∷ z) h = word_not_digit b h

-- no byte of a word follows
not_begun : (rest : List ℕ) → EndsBefore is_word rest → begins class.Word rest ≡ false
not_begun [] h = refl
not_begun (b ∷ z) h = h

-- the byte does not follow
not_begun_with : (c : ℕ) (z : List ℕ) → EndsBefore (λ b. b == c) z → begins_with c z ≡ false
not_begun_with c [] h = refl
not_begun_with c (b ∷ z) h = h

-- ---- words and numbers

-- a word of at most 32 bytes is cut
word_complete : (sp rest : List ℕ) → IsWordSpelling sp → EachByte is_word sp → length sp ≤ 32 → EndsBefore is_word rest → reader.cut_word (sp ++ rest) ≡ cut (word_token (map lower sp)) rest
unfolding reader.cut_word count_of_class
word_complete sp rest w e l h =
    let n : prefix_len is_word (sp ++ rest) ≡ length sp = prefix_all is_word sp rest e h in
    rw (n, take-append_seam sp rest, drop-append_seam sp rest, word_is_name sp w l) refl

-- a number of at most 2^63 is cut
number_complete : (sp rest : List ℕ) → EachByte is_ascii_digit sp → number_spelled sp ≤ 2 ^ 63 → EndsBefore is_word rest → reader.cut_number (sp ++ rest) ≡ cut (token.Number (number_spelled sp)) rest
unfolding reader.cut_number count_of_class
number_complete sp rest e l h =
    let n : prefix_len is_ascii_digit (sp ++ rest) ≡ length sp = prefix_all is_ascii_digit sp rest e (not_word_digit rest h) in
    let small : nat_le (number_spelled sp) (2 ^ 63) ≡ true = grind (arith, nat_tests, l) in
    rw (n, take-append_seam sp rest, drop-append_seam sp rest, not_begun rest h, small) refl

-- ---- strings

-- a quote that no other follows ends the string
closing_end : (r : List ℕ) → EndsBefore (λ b. b == 39) r → close_string true r ≡ closed [] r
closing_end [] h = refl
closing_end (b ∷ z) h = rw h refl

-- a value, each quote twice, is found
closing_complete : (x r : List ℕ) → EndsBefore (λ b. b == 39) r → close_string false (doubled x ++ 39 ∷ r) ≡ closed x r
closing_complete [] r h = closing_end r h
closing_complete (b ∷ x) r h =
    elim (b == 39) as (λ v. (b == 39) ≡ v → close_string false (cond v (39 ∷ 39 ∷ doubled x) (b ∷ doubled x) ++ 39 ∷ r) ≡ closed (b ∷ x) r) [
      | true ↦ λ e. let same : b ≡ 39 = grind (arith, nat_tests, e) in rw (closing_complete x r h, same) refl
      | false ↦ λ e. rw (e, closing_complete x r h) refl
    ] refl

-- a string is cut
string_complete : (x rest : List ℕ) → is_text x ≡ true → length x ≤ 4096 → EndsBefore (λ b. b == 39) rest → reader.cut_string (doubled x ++ 39 ∷ rest) ≡ cut (token.Text x) rest
unfolding reader.cut_string
string_complete x rest e l h =
    let short : nat_le (length x) 4096 ≡ true = grind (arith, nat_tests, l) in
    rw (closing_complete x rest h, short, e) refl

-- ---- symbols

-- the token is cut, and no white space stands before it
abbrev CutsAtFront : List ℕ → Token → List ℕ → Type 0
CutsAtFront sp t rest = (reader.cut_at (sp ++ rest) ≡ cut t rest) × EndsBefore is_white_space (sp ++ rest)

-- neither of the two: not the first
either : (a b : Bool) → (a || b) ≡ false → a ≡ false
either true b h = absurd (cc)
either false b h = refl

-- nor the second
other : (a b : Bool) → (a || b) ≡ false → b ≡ false
other true b h = absurd (cc)
other false b h = h

-- `<` that neither `=` nor `>` follows
less_alone : (z : List ℕ) → EndsBefore (λ b. b == 61 || b == 62) z → reader.less z ≡ cut (token.Symbol symbol.Lt) z
less_alone [] h = refl
less_alone (b ∷ z) h = let e : (b == 61) ≡ false = either (b == 61) (b == 62) h in let f : (b == 62) ≡ false = other (b == 61) (b == 62) h in rw (e, f) refl

-- a symbol is cut
symbol_complete : (x : Symbol) (sp rest : List ℕ) → IsSymbol x sp → EndsToken (token.Symbol x) rest → CutsAtFront sp (token.Symbol x) rest
unfolding reader.cut_at reader.cut_symbol reader.single
symbol_complete symbol.Open sp rest e h = rw e (refl, refl)
symbol_complete symbol.Close sp rest e h = rw e (refl, refl)
symbol_complete symbol.Comma sp rest e h = rw e (refl, refl)
symbol_complete symbol.Dot sp rest e h = rw e (refl, refl)
symbol_complete symbol.Star sp rest e h = rw e (refl, refl)
symbol_complete symbol.Semi sp rest e h = rw e (refl, refl)
symbol_complete symbol.Eq sp rest e h = rw e (refl, refl)
symbol_complete symbol.Ne sp rest (inl e) h = rw e (refl, refl)
symbol_complete symbol.Ne sp rest (inr e) h = rw e (refl, refl)
symbol_complete symbol.Lt sp rest e h = rw e (less_alone rest h, refl)
symbol_complete symbol.Le sp rest e h = rw e (refl, refl)
symbol_complete symbol.Gt sp rest e h = rw e (rw (not_begun_with 61 rest h) refl, refl)
symbol_complete symbol.Ge sp rest e h = rw e (refl, refl)
symbol_complete symbol.Plus sp rest e h = rw e (refl, refl)
symbol_complete symbol.Minus sp rest e h = rw e (rw (not_begun_with 45 rest h) refl, refl)

-- ---- a token at the front

-- a word is cut as its token
word_starts : (sp rest : List ℕ) → IsWordSpelling sp → length sp ≤ 32 → EndsBefore is_word rest → CutsAtFront sp (word_token (map lower sp)) rest
unfolding reader.cut_at
word_starts [] rest w l h = absurd w
word_starts (b ∷ z) rest w l h = (rw w.0 (word_complete (b ∷ z) rest w (letter_in_word b w.0, w.1) l h), letter_not_blank b w.0)

-- the token of a word, by whether it is reserved
keyed : (o : Option Keyword) (z n : List ℕ) → n ≡ map lower z → keyword n ≡ o → word_token (map lower z) ≡ reserved_or_name o n
keyed o z n e h = rw (← e, h) refl

-- a token at the front is cut
starts_complete : (t : Token) (sp rest : List ℕ) → Spells t sp → EndsToken t rest → CutsAtFront sp t rest
unfolding reader.cut_at
starts_complete (token.Word k) sp rest w h = rw (← keyed (Some k) sp (map lower sp) refl w.2) (word_starts sp rest w.0 w.1 h)
starts_complete (token.Name n) sp rest w h = rw (← keyed None sp n w.3 w.2) (word_starts sp rest w.0 w.1 h)
starts_complete (token.Number n) [] rest w h = absurd w.0
starts_complete (token.Number n) (b ∷ z) rest w h =
    let small : number_spelled (b ∷ z) ≤ 2 ^ 63 = omega (arith, w.1, w.2) in
    (rw (w.1, digit_not_letter b w.0.0, w.0.0) (number_complete (b ∷ z) rest w.0 small h), digit_not_blank b w.0.0)
starts_complete (token.Text x) sp rest w h = rw (w.0, append_assoc (doubled x) (39 ∷ []) rest) (string_complete x rest w.1 w.2 h, refl)
starts_complete (token.Symbol x) sp rest w h = symbol_complete x sp rest w h

-- the first token is cut
pub first_complete : (z : List ℕ) (t : Token) (rest : List ℕ) → BeginsWithToken z t rest → reader.first_token z ≡ cut t rest
unfolding reader.first_token count_of_class
first_complete z t rest f =
    let s = starts_complete t f.spelling rest f.spells f.ends in
    let n : prefix_len is_white_space (f.blanks ++ (f.spelling ++ rest)) ≡ length f.blanks = prefix_all is_white_space f.blanks (f.spelling ++ rest) f.blank s.1 in
    rw (f.text_is, n, drop-append_seam f.blanks (f.spelling ++ rest)) s.0
