-- What is cut is spelled so.
use Rattle.std.proofs.Common.{◌≡◌, ◌∙◌, refl, sym, ap, subst, ℕ, ◌≤◌, ◌^◌, Bool, true, false, ◌&&◌, ◌||◌, ◌==◌, nat_le, List, [], ◌∷◌, ◌++◌, append_assoc, length, map, drop, Option, Some, None, inl, inr, arith}
use Rattle.std.specs.List.{prefix_len}
use Rattle.std.specs.Char.{is_ascii_digit}
use Rattle.std.proofs.lemmas.Bool.Decides.{nat_tests}
use Rattle.std.proofs.lemmas.List.{take-append-drop}
use Rattle.cj_model.specs.Sql.Names.{lower, is_text, name_of}
use Rattle.cj_model.specs.declared.token.Symbol.{Symbol}
use Rattle.cj_model.specs.declared.token.Symbol.TheVariants as symbol
use Rattle.cj_model.specs.declared.token.Token.{Token}
use Rattle.cj_model.specs.declared.token.Token.TheVariants as token
use Rattle.cj_model.specs.Sql.Lexical.{is_white_space, is_letter, is_word, EndsBefore, IsWordSpelling, IsDigits, number_spelled, doubled, keyword, Spells, EndsToken, BeginsWithToken}
use Rattle.cj_lex.specs.declared.bytes.Class.TheVariants as class
use Rattle.cj_lex.specs.Proving.Cut as reader
use Rattle.cj_lex.specs.Proving.Cut.{cut, Closed, unclosed, closed, count_of_class, begins, begins_with, reserved_or_name, word_token, close_string, with_front}
use Rattle.cj_lex.proofs.Choices.{chosen, both, equal}
use Rattle.cj_lex.proofs.Classes.{letter_in_word}
use Rattle.cj_lex.proofs.Fronts.{front, past, front_each, past_ends, front_first}
use Rattle.cj_lex.proofs.Names.{name_is, name_is_short}

-- ---- what stands at the front

-- the letters, digits and `_` after a letter are a word
word_front : (b : ℕ) (z : List ℕ) → is_letter b ≡ true → IsWordSpelling (front is_word (b ∷ z))
word_front b z h = rw (front_first is_word b z (letter_in_word b h)) (h, front_each is_word z)

-- the digits at the front are a number
digits_front : (b : ℕ) (z : List ℕ) → is_ascii_digit b ≡ true → IsDigits (front is_ascii_digit (b ∷ z))
digits_front b z h = rw (front_first is_ascii_digit b z h) (h, front_each is_ascii_digit z)

-- a text that no byte of a word begins
not_begun : (z : List ℕ) → begins class.Word z ≡ false → EndsBefore is_word z
not_begun [] h = tt
not_begun (b ∷ z) h = h

-- a text that does not begin with the byte
not_begun_with : (c : ℕ) (z : List ℕ) → begins_with c z ≡ false → EndsBefore (λ b. b == c) z
not_begun_with c [] h = tt
not_begun_with c (b ∷ z) h = h

-- a text that begins with neither `=` nor `>`
neither : (z : List ℕ) → begins_with 61 z ≡ false → begins_with 62 z ≡ false → EndsBefore (λ b. b == 61 || b == 62) z
neither [] h k = tt
neither (b ∷ z) h k = rw (h, k) refl

-- a text that begins with the byte
begun_with : (c : ℕ) (z : List ℕ) → begins_with c z ≡ true → z ≡ c ∷ drop 1 z
begun_with c [] h = absurd (cc)
begun_with c (b ∷ z) h = ap (λ x. x ∷ z) (equal b c h)

-- ---- a token at the front, with no white space before it

-- the text begins with the spelling of this token, and then comes the rest
pub record Starts (z : List ℕ) (t : Token) (rest : List ℕ) : Type 0 where
  pub spelling : List ℕ
  pub text_is : z ≡ spelling ++ rest
  pub spells : Spells t spelling
  pub ends : EndsToken t rest

-- what is cut is one token and one rest
moved : (z : List ℕ) (a t : Token) (r rest : List ℕ) → cut a r ≡ cut t rest → Starts z a r → Starts z t rest
moved z a t r rest h s =
    let e : a ≡ t = cc in
    let f : r ≡ rest = cc in
    let P : Token → Type 0 = λ x. Starts z x rest in
    let Q : List ℕ → Type 0 = λ x. Starts z a x in
    subst P e (subst Q f s)

-- a word of at most 32 bytes spells its token
word_spells : (z : List ℕ) → IsWordSpelling z → length z ≤ 32 → Spells (word_token (map lower z)) z
word_spells z w l =
    elim (keyword (map lower z)) as (λ v. keyword (map lower z) ≡ v → Spells (reserved_or_name v (map lower z)) z) [
      | Some k ↦ λ e. (w, l, e)
      | None ↦ λ e. (w, l, e, refl)
    ] refl

-- its token ends with it
word_ends : (x : List ℕ) (rest : List ℕ) → EndsBefore is_word rest → EndsToken (word_token x) rest
word_ends x rest h = elim (keyword x) as (λ v. EndsToken (reserved_or_name v x) rest) [ Some k ↦ h | None ↦ h ]

-- the same, by whether the word is a name
cut_name_sound : (b : ℕ) (z : List ℕ) (o : Option (List ℕ)) (t : Token) (rest : List ℕ) → is_letter b ≡ true → name_of (map lower (front is_word (b ∷ z))) ≡ o
    → reader.cut_name o (past is_word (b ∷ z)) ≡ cut t rest → Starts (b ∷ z) t rest
cut_name_sound b z None t rest h e f = absurd (cc)
cut_name_sound b z (Some name) t rest h e f =
    let w = front is_word (b ∷ z) in
    let P : List ℕ → Type 0 = λ k. Spells (word_token k) w in
    moved (b ∷ z) (word_token name) t (past is_word (b ∷ z)) rest f (record {
      spelling = w;
      text_is = sym (take-append-drop (prefix_len is_word (b ∷ z)) (b ∷ z));
      spells = subst P (name_is (map lower w) name e) (word_spells w (word_front b z h) (name_is_short w name e));
      ends = word_ends name _ (past_ends is_word (b ∷ z));
    })

-- a word that is cut stands at the front
word_sound : (b : ℕ) (z : List ℕ) (t : Token) (rest : List ℕ) → is_letter b ≡ true → reader.cut_word (b ∷ z) ≡ cut t rest → Starts (b ∷ z) t rest
unfolding reader.cut_word count_of_class
word_sound b z t rest h e = cut_name_sound b z (name_of (map lower (front is_word (b ∷ z)))) t rest h refl e

-- a number that is cut stands at the front
number_sound : (b : ℕ) (z : List ℕ) (t : Token) (rest : List ℕ) → is_ascii_digit b ≡ true → reader.cut_number (b ∷ z) ≡ cut t rest → Starts (b ∷ z) t rest
unfolding reader.cut_number count_of_class
number_sound b z t rest h e = elim (chosen (begins class.Word (past is_ascii_digit (b ∷ z))) _ _ _ e) [
  | inl f ↦ absurd (cc)
  | inr f ↦ elim (chosen (nat_le (number_spelled (front is_ascii_digit (b ∷ z))) (2 ^ 63)) _ _ _ f.1) [
    | inl g ↦ moved (b ∷ z) (token.Number (number_spelled (front is_ascii_digit (b ∷ z)))) t (past is_ascii_digit (b ∷ z)) rest g.1 (record {
      spelling = front is_ascii_digit (b ∷ z);
      text_is = sym (take-append-drop (prefix_len is_ascii_digit (b ∷ z)) (b ∷ z));
      spells = (digits_front b z h, refl, grind (arith, nat_tests, g.0));
      ends = not_begun _ f.0;
    })
    | inr g ↦ absurd (cc)
  ]
]

-- ---- strings

-- the quote that has just come
abbrev with_quote : Bool → List ℕ → List ℕ
with_quote false z = z
with_quote true z = 39 ∷ z

-- what was found behind the front
pub data Behind (front : List ℕ) (c : Closed) (x r : List ℕ) : Type 0 where
  is_behind : (y : List ℕ) → c ≡ closed y r → x ≡ front ++ y → Behind front c x r

-- what is closed behind a front was closed
behind_is : (front : List ℕ) (c : Closed) (x r : List ℕ) → with_front front c ≡ closed x r → Behind front c x r
behind_is front unclosed x r h = absurd (cc)
behind_is front (closed y q) x r h = let e : q ≡ r = cc in is_behind y (ap (λ k. closed y k) e) (cc)

-- a value in the spelling of strings, without the opening quote
record Quoted (z x r : List ℕ) : Type 0 where
  is : z ≡ doubled x ++ 39 ∷ r
  ends : EndsBefore (λ b. b == 39) r

-- another byte is not doubled
doubled_other : (b : ℕ) (x : List ℕ) → (b == 39) ≡ false → doubled (b ∷ x) ≡ b ∷ doubled x
doubled_other b x h = rw h refl

-- what stands before the closing quote is the value, each quote twice
closing_sound : (z : List ℕ) (second : Bool) (x r : List ℕ) → close_string second z ≡ closed x r → Quoted (with_quote second z) x r
closing_sound [] false x r h = absurd (cc)
closing_sound [] true x r h = let e : [] ≡ x = cc in let f : [] ≡ r = cc in rw (← e, ← f) (record { is = refl; ends = tt })
closing_sound (b ∷ z) false x r h = elim (chosen (b == 39) _ _ _ h) [
  | inl e ↦ let q = closing_sound z true x r e.1 in record { is = rw (equal b 39 e.0) q.is; ends = q.ends }
  | inr e ↦ elim (behind_is (b ∷ []) (close_string false z) x r e.1) [
    | is_behind y c f ↦
        let q = closing_sound z false y r c in
        record { is = rw (f, doubled_other b y e.0) (ap (λ k. b ∷ k) q.is); ends = q.ends }
  ]
]
closing_sound (b ∷ z) true x r h = elim (chosen (b == 39) _ _ _ h) [
  | inl e ↦ elim (behind_is (39 ∷ []) (close_string false z) x r e.1) [
    | is_behind y c f ↦
        let q = closing_sound z false y r c in
        record { is = rw (f, equal b 39 e.0) (ap (λ k. 39 ∷ 39 ∷ k) q.is); ends = q.ends }
  ]
  | inr e ↦ let f : [] ≡ x = cc in let g : b ∷ z ≡ r = cc in rw (← f, ← g) (record { is = refl; ends = e.0 })
]

-- where it is a text and not too long, it is a string
closed_sound : (z : List ℕ) (c : Closed) (t : Token) (rest : List ℕ) → close_string false z ≡ c → reader.cut_closed c ≡ cut t rest → Starts (39 ∷ z) t rest
closed_sound z unclosed t rest e h = absurd (cc)
closed_sound z (closed x r) t rest e h =
    let q = closing_sound z false x r e in
    elim (chosen (nat_le (length x) 4096 && is_text x) _ _ _ h) [
      | inl f ↦
          let g = both (nat_le (length x) 4096) (is_text x) f.0 in
          moved (39 ∷ z) (token.Text x) t r rest f.1 (record {
            spelling = 39 ∷ doubled x ++ 39 ∷ [];
            text_is = ap (λ k. 39 ∷ k) q.is ∙ sym (append_assoc (39 ∷ doubled x) (39 ∷ []) r);
            spells = (refl, g.1, grind (arith, nat_tests, g.0));
            ends = q.ends;
          })
      | inr f ↦ absurd (cc)
    ]

-- a string that is cut stands at the front
string_sound : (z : List ℕ) (t : Token) (rest : List ℕ) → reader.cut_string z ≡ cut t rest → Starts (39 ∷ z) t rest
unfolding reader.cut_string
string_sound z t rest h = closed_sound z (close_string false z) t rest refl h

-- ---- symbols

-- a symbol as a token
abbrev sign : Symbol → Token
sign x = token.Symbol x

-- a symbol that begins with `<`
less_sound : (z : List ℕ) (t : Token) (rest : List ℕ) → reader.less z ≡ cut t rest → Starts (60 ∷ z) t rest
less_sound z t rest h = elim (chosen (begins_with 61 z) _ _ _ h) [
  | inl e ↦ moved (60 ∷ z) (sign symbol.Le) t (drop 1 z) rest e.1 (record { spelling = 60 ∷ 61 ∷ []; text_is = ap (λ k. 60 ∷ k) (begun_with 61 z e.0); spells = refl; ends = tt })
  | inr e ↦ elim (chosen (begins_with 62 z) _ _ _ e.1) [
    | inl f ↦ moved (60 ∷ z) (sign symbol.Ne) t (drop 1 z) rest f.1 (record { spelling = 60 ∷ 62 ∷ []; text_is = ap (λ k. 60 ∷ k) (begun_with 62 z f.0); spells = inl refl; ends = tt })
    | inr f ↦ moved (60 ∷ z) (sign symbol.Lt) t z rest f.1 (record { spelling = 60 ∷ []; text_is = refl; spells = refl; ends = neither z e.0 f.0 })
  ]
]

-- a symbol that begins with `>`
greater_sound : (z : List ℕ) (t : Token) (rest : List ℕ) → reader.greater z ≡ cut t rest → Starts (62 ∷ z) t rest
greater_sound z t rest h = elim (chosen (begins_with 61 z) _ _ _ h) [
  | inl e ↦ moved (62 ∷ z) (sign symbol.Ge) t (drop 1 z) rest e.1 (record { spelling = 62 ∷ 61 ∷ []; text_is = ap (λ k. 62 ∷ k) (begun_with 61 z e.0); spells = refl; ends = tt })
  | inr e ↦ moved (62 ∷ z) (sign symbol.Gt) t z rest e.1 (record { spelling = 62 ∷ []; text_is = refl; spells = refl; ends = not_begun_with 61 z e.0 })
]

-- a hyphen that no other follows
hyphen_sound : (z : List ℕ) (t : Token) (rest : List ℕ) → reader.hyphen z ≡ cut t rest → Starts (45 ∷ z) t rest
hyphen_sound z t rest h = elim (chosen (begins_with 45 z) _ _ _ h) [
  | inl e ↦ absurd (cc)
  | inr e ↦ moved (45 ∷ z) (sign symbol.Minus) t z rest e.1 (record { spelling = 45 ∷ []; text_is = refl; spells = refl; ends = not_begun_with 45 z e.0 })
]

-- a symbol that begins with `!`
exclamation_sound : (z : List ℕ) (t : Token) (rest : List ℕ) → reader.exclamation z ≡ cut t rest → Starts (33 ∷ z) t rest
exclamation_sound z t rest h = elim (chosen (begins_with 61 z) _ _ _ h) [
  | inl e ↦ moved (33 ∷ z) (sign symbol.Ne) t (drop 1 z) rest e.1 (record { spelling = 33 ∷ 61 ∷ []; text_is = ap (λ k. 33 ∷ k) (begun_with 61 z e.0); spells = inr refl; ends = tt })
  | inr e ↦ absurd (cc)
]

-- a symbol of one byte that nothing can follow to make another one
record Single (b : ℕ) (x : Symbol) : Type 0 where
  spells : Spells (sign x) (b ∷ [])
  ends : (rest : List ℕ) → EndsToken (sign x) rest

-- the same of the byte and of the symbol that are meant
byte_is : (b c : ℕ) (x y : Symbol) → (b == c) ≡ true → Some x ≡ Some y → Single c x → Single b y
byte_is b c x y h e s =
    let f : c ≡ b = sym (equal b c h) in
    let g : x ≡ y = cc in
    let P : ℕ → Type 0 = λ k. Single k y in
    let Q : Symbol → Type 0 = λ k. Single c k in
    subst P f (subst Q g s)

-- each byte that is a symbol by itself
single_sound : (b : ℕ) (x : Symbol) → reader.single b ≡ Some x → Single b x
unfolding reader.single
single_sound b x h =
    elim (chosen (b == 40) _ _ _ h) [
      | inl e ↦ byte_is b 40 symbol.Open x e.0 e.1 (record { spells = refl; ends = λ r. tt })
      | inr h1 ↦
          elim (chosen (b == 41) _ _ _ h1.1) [
            | inl e ↦ byte_is b 41 symbol.Close x e.0 e.1 (record { spells = refl; ends = λ r. tt })
            | inr h2 ↦
                elim (chosen (b == 44) _ _ _ h2.1) [
                  | inl e ↦ byte_is b 44 symbol.Comma x e.0 e.1 (record { spells = refl; ends = λ r. tt })
                  | inr h3 ↦
                      elim (chosen (b == 46) _ _ _ h3.1) [
                        | inl e ↦ byte_is b 46 symbol.Dot x e.0 e.1 (record { spells = refl; ends = λ r. tt })
                        | inr h4 ↦
                            elim (chosen (b == 42) _ _ _ h4.1) [
                              | inl e ↦ byte_is b 42 symbol.Star x e.0 e.1 (record { spells = refl; ends = λ r. tt })
                              | inr h5 ↦
                                  elim (chosen (b == 59) _ _ _ h5.1) [
                                    | inl e ↦ byte_is b 59 symbol.Semi x e.0 e.1 (record { spells = refl; ends = λ r. tt })
                                    | inr h6 ↦
                                        elim (chosen (b == 61) _ _ _ h6.1) [
                                          | inl e ↦ byte_is b 61 symbol.Eq x e.0 e.1 (record { spells = refl; ends = λ r. tt })
                                          | inr h7 ↦
                                              elim (chosen (b == 43) _ _ _ h7.1) [ inl e ↦ byte_is b 43 symbol.Plus x e.0 e.1 (record { spells = refl; ends = λ r. tt }) | inr h8 ↦ absurd (let n = h8.1 in cc) ]
                                        ]
                                  ]
                            ]
                      ]
                ]
          ]
    ]

-- such a symbol that is cut stands at the front
cut_single_sound : (o : Option Symbol) (b : ℕ) (z : List ℕ) (t : Token) (rest : List ℕ) → reader.single b ≡ o → reader.cut_single o z ≡ cut t rest → Starts (b ∷ z) t rest
cut_single_sound None b z t rest e h = absurd (cc)
cut_single_sound (Some x) b z t rest e h =
    let one = single_sound b x e in
    moved (b ∷ z) (sign x) t z rest h (record { spelling = b ∷ []; text_is = refl; spells = one.spells; ends = one.ends z })

-- the same at the byte that is meant
at_byte : (b c : ℕ) (z : List ℕ) (t : Token) (rest : List ℕ) → (b == c) ≡ true → Starts (c ∷ z) t rest → Starts (b ∷ z) t rest
at_byte b c z t rest h s = let P : ℕ → Type 0 = λ k. Starts (k ∷ z) t rest in subst P (sym (equal b c h)) s

-- a symbol that is cut stands at the front
symbol_sound : (b : ℕ) (z : List ℕ) (t : Token) (rest : List ℕ) → reader.cut_symbol b z ≡ cut t rest → Starts (b ∷ z) t rest
unfolding reader.cut_symbol
symbol_sound b z t rest h =
    elim (chosen (b == 60) _ _ _ h) [
      | inl e ↦ at_byte b 60 z t rest e.0 (less_sound z t rest e.1)
      | inr h1 ↦
          elim (chosen (b == 62) _ _ _ h1.1) [
            | inl e ↦ at_byte b 62 z t rest e.0 (greater_sound z t rest e.1)
            | inr h2 ↦
                elim (chosen (b == 45) _ _ _ h2.1) [
                  | inl e ↦ at_byte b 45 z t rest e.0 (hyphen_sound z t rest e.1)
                  | inr h3 ↦
                      elim (chosen (b == 33) _ _ _ h3.1) [
                        | inl e ↦ at_byte b 33 z t rest e.0 (exclamation_sound z t rest e.1)
                        | inr h4 ↦
                            cut_single_sound (reader.single b) b z t rest refl h4.1
                      ]
                ]
          ]
    ]

-- ---- the first token

-- a token that is cut stands at the front
cut_at_sound : (z : List ℕ) (t : Token) (rest : List ℕ) → reader.cut_at z ≡ cut t rest → Starts z t rest
unfolding reader.cut_at
cut_at_sound [] t rest h = absurd (cc)
cut_at_sound (b ∷ z) t rest h =
    elim (chosen (is_letter b) _ _ _ h) [
      | inl e ↦ word_sound b z t rest e.0 e.1
      | inr h1 ↦
          elim (chosen (is_ascii_digit b) _ _ _ h1.1) [
            | inl e ↦ number_sound b z t rest e.0 e.1
            | inr h2 ↦
                elim (chosen (b == 39) _ _ _ h2.1) [
                  | inl e ↦ at_byte b 39 z t rest e.0 (string_sound z t rest e.1)
                  | inr h3 ↦
                      symbol_sound b z t rest h3.1
                ]
          ]
    ]

-- the first token that is cut is the first one
pub first_sound : (z : List ℕ) (t : Token) (rest : List ℕ) → reader.first_token z ≡ cut t rest → BeginsWithToken z t rest
unfolding reader.first_token count_of_class
first_sound z t rest h =
    let s = cut_at_sound (past is_white_space z) t rest h in
    record {
      blanks = front is_white_space z;
      spelling = s.spelling;
      text_is = sym (take-append-drop (prefix_len is_white_space z) z) ∙ ap (λ k. front is_white_space z ++ k) s.text_is;
      blank = front_each is_white_space z;
      spells = s.spells;
      ends = s.ends;
    }
