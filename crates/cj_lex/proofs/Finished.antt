-- A text is at its end exactly where it is white space alone.
use Rattle.std.proofs.Common.{◌≡◌, ◌∙◌, refl, sym, ap, subst, ℕ, Bool, true, false, ◌==◌, cond, List, [], ◌∷◌, ◌++◌, append-nil, length, take, drop, Option, Some, None, inl, inr}
use Rattle.std.specs.List.{prefix_len}
use Rattle.std.specs.Char.{is_ascii_digit}
use Rattle.std.proofs.lemmas.List.{take-append-drop}
use Rattle.std.proofs.Math.Seq.{drop-append_seam}
use Rattle.cj_model.specs.declared.token.Symbol.{Symbol}
use Rattle.cj_model.specs.declared.token.Token.{Token}
use Rattle.cj_model.specs.Sql.Lexical.{is_white_space, is_letter, EachByte}
use Rattle.cj_lex.specs.Proving.Cut as reader
use Rattle.cj_lex.specs.Proving.Cut.{finished, bad, cut, Closed, unclosed, closed, count_of_class, begins_with, close_string}
use Rattle.cj_lex.proofs.Choices.{chosen}
use Rattle.cj_lex.proofs.Fronts.{front_each, prefix_all}

-- neither of two choices
two_ways : (b : Bool) (x y : reader.Cut) → ¬ (x ≡ finished) → ¬ (y ≡ finished) → ¬ (cond b x y ≡ finished)
two_ways true x y h k = h
two_ways false x y h k = k

-- a token is not the end
cut_unfinished : (t : Token) (z : List ℕ) → ¬ (cut t z ≡ finished)
cut_unfinished t z = λ h. cc

-- nor is what is no token
bad_unfinished : ¬ (bad ≡ finished)
bad_unfinished = λ h. cc

-- nor a word, by whether it is a name
cut_name_unfinished : (o : Option (List ℕ)) (rest : List ℕ) → ¬ (reader.cut_name o rest ≡ finished)
cut_name_unfinished None rest = bad_unfinished
cut_name_unfinished (Some name) rest = cut_unfinished _ _

-- nor a word
word_unfinished : (z : List ℕ) → ¬ (reader.cut_word z ≡ finished)
unfolding reader.cut_word
word_unfinished z = cut_name_unfinished _ _

-- nor a number
number_unfinished : (z : List ℕ) → ¬ (reader.cut_number z ≡ finished)
unfolding reader.cut_number
number_unfinished z = two_ways _ _ _ bad_unfinished (two_ways _ _ _ (cut_unfinished _ _) bad_unfinished)

-- nor a string, by whether it is closed
closed_unfinished : (c : Closed) → ¬ (reader.cut_closed c ≡ finished)
closed_unfinished unclosed = bad_unfinished
closed_unfinished (closed x r) = two_ways _ _ _ (cut_unfinished _ _) bad_unfinished

-- nor a string
string_unfinished : (z : List ℕ) → ¬ (reader.cut_string z ≡ finished)
unfolding reader.cut_string
string_unfinished z = closed_unfinished (close_string false z)

-- nor a symbol of one byte
single_unfinished : (o : Option Symbol) (z : List ℕ) → ¬ (reader.cut_single o z ≡ finished)
single_unfinished None z = bad_unfinished
single_unfinished (Some x) z = cut_unfinished _ _

-- nor `<`
less_unfinished : (z : List ℕ) → reader.less z ≡ finished → ⊥
less_unfinished z h = elim (chosen (begins_with 61 z) _ _ _ h) [ inl e ↦ let k = e.1 in cc | inr e ↦ elim (chosen (begins_with 62 z) _ _ _ e.1) [ inl f ↦ let k = f.1 in cc | inr f ↦ let k = f.1 in cc ] ]

-- nor `>`
greater_unfinished : (z : List ℕ) → reader.greater z ≡ finished → ⊥
greater_unfinished z h = elim (chosen (begins_with 61 z) _ _ _ h) [ inl e ↦ let k = e.1 in cc | inr e ↦ let k = e.1 in cc ]

-- nor a hyphen
hyphen_unfinished : (z : List ℕ) → reader.hyphen z ≡ finished → ⊥
hyphen_unfinished z h = elim (chosen (begins_with 45 z) _ _ _ h) [ inl e ↦ let k = e.1 in cc | inr e ↦ let k = e.1 in cc ]

-- nor `!`
exclamation_unfinished : (z : List ℕ) → reader.exclamation z ≡ finished → ⊥
exclamation_unfinished z h = elim (chosen (begins_with 61 z) _ _ _ h) [ inl e ↦ let k = e.1 in cc | inr e ↦ let k = e.1 in cc ]

-- nor a symbol
symbol_unfinished : (b : ℕ) (z : List ℕ) → reader.cut_symbol b z ≡ finished → ⊥
unfolding reader.cut_symbol
symbol_unfinished b z h =
    elim (chosen (b == 60) _ _ _ h) [
      | inl e ↦ less_unfinished z e.1
      | inr h1 ↦
          elim (chosen (b == 62) _ _ _ h1.1) [
            | inl e ↦ greater_unfinished z e.1
            | inr h2 ↦
                elim (chosen (b == 45) _ _ _ h2.1) [
                  | inl e ↦ hyphen_unfinished z e.1
                  | inr h3 ↦
                      elim (chosen (b == 33) _ _ _ h3.1) [ inl e ↦ exclamation_unfinished z e.1 | inr h4 ↦ single_unfinished (reader.single b) z h4.1 ]
                ]
          ]
    ]

-- only an empty text is at its end
finished_nil : (z : List ℕ) → reader.cut_at z ≡ finished → z ≡ []
unfolding reader.cut_at
finished_nil [] h = refl
finished_nil (b ∷ z) h =
    elim (chosen (is_letter b) _ _ _ h) [
      | inl e ↦ absurd (word_unfinished (b ∷ z) e.1)
      | inr h1 ↦
          elim (chosen (is_ascii_digit b) _ _ _ h1.1) [
            | inl e ↦ absurd (number_unfinished (b ∷ z) e.1)
            | inr h2 ↦
                elim (chosen (b == 39) _ _ _ h2.1) [ inl e ↦ absurd (string_unfinished z e.1) | inr e ↦ absurd (symbol_unfinished b z e.1) ]
          ]
    ]

-- where nothing is cut, there is white space alone
pub finished_sound : (z : List ℕ) → reader.first_token z ≡ finished → EachByte is_white_space z
unfolding reader.first_token count_of_class
finished_sound z h =
    let n = prefix_len is_white_space z in
    let nil : drop n z ≡ [] = finished_nil (drop n z) h in
    let all : take n z ≡ z = sym (append-nil (take n z)) ∙ ap (λ k. take n z ++ k) (sym nil) ∙ take-append-drop n z in
    subst (EachByte is_white_space) all (front_each is_white_space z)

-- of white space alone nothing is cut
pub finished_complete : (z : List ℕ) → EachByte is_white_space z → reader.first_token z ≡ finished
unfolding reader.first_token count_of_class reader.cut_at
finished_complete z e =
    let n : prefix_len is_white_space (z ++ []) ≡ length z = prefix_all is_white_space z [] e tt in
    let m : prefix_len is_white_space z ≡ length z = ap (prefix_len is_white_space) (sym (append-nil z)) ∙ n in
    let d : drop (length z) z ≡ [] = ap (drop (length z)) (sym (append-nil z)) ∙ drop-append_seam z [] in
    rw (m, d) refl
