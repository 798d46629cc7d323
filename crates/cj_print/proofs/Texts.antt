-- What is written is a text: words of ASCII, names, numbers and literals.
use Rattle.std.proofs.Common.{◌≡◌, ◌∙◌, refl, ℕ, suc, ◌+◌, ◌-◌, ◌*◌, fold, ◌≤◌, ◌<◌, ◌^◌, Bool, true, false, not, ◌==◌, List, [], ◌∷◌, ◌++◌, length, cond, arith, rules, ℤ, pos, negsuc, Option, IsSome, inl, inr, get_or, take, ap, nat_lt}
use Rattle.std.proofs.Math.Utf8.{scalar, scalars, encode, encodes, low_scalar}
use Rattle.std.specs.Int.Signed.{mag}
use Rattle.std.specs.List.{list_all}
use Rattle.std.specs.Str.{IsUtf8, is_utf8}
use Rattle.std.specs.Fmt.{decimal, signed_decimal}
use Rattle.std.proofs.lemmas.Fmt.{digits_decimal, IsAscii-decimal, IsAscii-signed}
use Rattle.std.proofs.lemmas.Str.{IsUtf8-append, IsUtf8-from_ascii, IsUtf8-from_is_utf8, is_utf8-from_IsUtf8, encode_ascii, IsUtf8-nil}
use Rattle.std.proofs.lemmas.Str.Parse.{IsNumeralModel, numerals_by_fold}
use Rattle.std.proofs.lemmas.List.{append-nil, take_more}
use Rattle.std.proofs.lemmas.List.Folds.{list_all-append}
use Rattle.std.proofs.lemmas.Bool.{and_parts, and_from, le-ltb, cases_lt, cond_both, ne_eqb}
use Rattle.std.specs.Prelude.{nat_le}
use Rattle.cj_print.proofs.Common.{is_ascii_digit, nat_tests}
use Rattle.cj_model.specs.Sql.Names.{begins_name, continues_name, is_name, is_spelled_as_name, IsNameOrEmpty, is_text, IsText, text_of}
use Rattle.cj_model.specs.Sql.Lexical.{EachByte, number_spelled, doubled}
use Rattle.cj_print.specs.Ascii.{is_ascii_byte, IsAsciiText}

-- no byte is 0
abbrev pub has_no_zero : List ℕ → Bool
has_no_zero = list_all (λ b. not (b == 0))

-- a text is UTF-8, without byte 0
text_parts : (z : List ℕ) → IsText z → (is_utf8 z ≡ true) × (has_no_zero z ≡ true)
unfolding is_text
text_parts z h = and_parts (is_utf8 z) (has_no_zero z) h

-- and such bytes are a text
text_from : (z : List ℕ) → IsUtf8 z → has_no_zero z ≡ true → IsText z
unfolding is_text
text_from z u h = rw (is_utf8-from_IsUtf8 z u, h) refl

-- a text is one
pub some_text : (r : Option (List ℕ)) (z x : List ℕ) → r ≡ text_of z → z ≡ x → IsText x → IsSome r
some_text r z x e q h = rw (e, q, h) refl

-- two texts one after another are a text
pub joined_text : (x y : List ℕ) → IsText x → IsText y → IsText (x ++ y)
joined_text x y h k =
    let left = text_parts x h in
    let right = text_parts y k in
    text_from (x ++ y) (IsUtf8-append x y (IsUtf8-from_is_utf8 x left.0) (IsUtf8-from_is_utf8 y right.0))
    (list_all-append (λ b. not (b == 0)) x y ∙ and_from (has_no_zero x) (has_no_zero y) left.1 right.1)

-- no bytes are a text
pub empty_text : IsText []
empty_text = text_from [] IsUtf8-nil refl

-- ---- ASCII

-- an ASCII byte is UTF-8
one_utf8 : (c : ℕ) → c < 128 → IsUtf8 (c ∷ [])
one_utf8 c h = (c ∷ [], (rw (low_scalar c (omega arith)) refl, rw (encode_ascii c h) refl))

one_ascii_text : (b : ℕ) → is_ascii_byte b ≡ true → IsText (b ∷ [])
one_ascii_text b h =
    let parts = and_parts (nat_lt 0 b) (nat_lt b 128) h in
    let above : 0 < b = grind (arith, nat_tests, parts) in
    let below : b < 128 = grind (arith, nat_tests, parts) in
    let e : (b == 0) ≡ false = ne_eqb b 0 (λ q. omega arith) in
    text_from (b ∷ []) (one_utf8 b below) (rw e refl)

-- ASCII without byte 0 is a text
pub ascii_text : (z : List ℕ) → IsAsciiText z → IsText z
ascii_text [] h = empty_text
ascii_text (b ∷ z) h =
    let parts = and_parts (is_ascii_byte b) (list_all is_ascii_byte z) h in
    joined_text (b ∷ []) z (one_ascii_text b parts.0) (ascii_text z parts.1)

name_byte : (b : ℕ) → continues_name b ≡ true → is_ascii_byte b ≡ true
name_byte b h = grind (arith, nat_tests, h)

name_bytes : (z : List ℕ) → list_all continues_name z ≡ true → IsAsciiText z
name_bytes [] h = refl
name_bytes (b ∷ z) h =
    let parts = and_parts (continues_name b) (list_all continues_name z) h in
    and_from (is_ascii_byte b) (list_all is_ascii_byte z) (name_byte b parts.0) (name_bytes z parts.1)

spelled_bytes : (z : List ℕ) → is_spelled_as_name z ≡ true → IsAsciiText z
spelled_bytes [] h = refl
spelled_bytes (b ∷ z) h =
    let parts = and_parts (begins_name b) (list_all continues_name z) h in
    let goes : continues_name b ≡ true = rw parts.0 refl in
    name_bytes (b ∷ z) (and_from (continues_name b) (list_all continues_name z) goes parts.1)

-- a name is a text, and so is the empty one
pub name_text : (z : List ℕ) → IsNameOrEmpty z → IsText z
unfolding is_name
name_text [] h = empty_text
name_text (b ∷ z) h = ascii_text (b ∷ z) (spelled_bytes (b ∷ z) (and_parts (nat_le (length (b ∷ z)) 32) (is_spelled_as_name (b ∷ z)) h).1)

-- ---- digits

-- the tests of digits that the grammar has are std's
pub numerals : IsNumeralModel (EachByte is_ascii_digit) number_spelled
numerals = numerals_by_fold (EachByte is_ascii_digit) (search rules) (λ n ds. fold (λ m b. 10 * m + (b - 48)) n ds) (search rules)

-- no digit is byte 0
digits_no_zero : (z : List ℕ) → EachByte is_ascii_digit z → has_no_zero z ≡ true
digits_no_zero [] h = refl
digits_no_zero (b ∷ z) h = let d = h.0 in let e : (b == 0) ≡ false = grind (arith, nat_tests, d) in rw (e, digits_no_zero z h.1) refl

-- no byte of a printed number is 0
signed_no_zero : (n : ℤ) → mag n < 2 ^ 63 → has_no_zero (signed_decimal n) ≡ true
signed_no_zero (pos n) h = digits_no_zero (decimal n) (digits_decimal numerals n (omega arith))
signed_no_zero (negsuc n) h = digits_no_zero (decimal (suc n)) (digits_decimal numerals (suc n) (omega arith))

-- a number's digits are a text
pub number_text : (n : ℤ) → mag n < 2 ^ 63 → IsText (signed_decimal n)
number_text n h = text_from (signed_decimal n) (IsUtf8-from_ascii _ (IsAscii-signed n h)) (signed_no_zero n h)

-- a count's digits are a text
pub count_text : (n : ℕ) → n < 2 ^ 64 → IsText (decimal n)
count_text n h = text_from (decimal n) (IsUtf8-from_ascii _ (IsAscii-decimal n h)) (digits_no_zero (decimal n) (digits_decimal numerals n h))

-- ---- quotes

-- quotes are doubled in each part alone
pub doubled-append : (x y : List ℕ) → doubled (x ++ y) ≡ doubled x ++ doubled y
doubled-append [] y = refl
doubled-append (b ∷ z) y =
    rw (doubled-append z y) (elim (b == 39) as (λ v. cond v (39 ∷ 39 ∷ (doubled z ++ doubled y)) (b ∷ (doubled z ++ doubled y)) ≡ cond v (39 ∷ 39 ∷ doubled z) (b ∷ doubled z) ++ doubled y) [ true ↦ refl | false ↦ refl ])

-- one byte more
pub doubled_more : (x : List ℕ) (i : ℕ) → i < length x → doubled (take (i + 1) x) ≡ doubled (take i x) ++ doubled (get_or x i 0 ∷ [])
doubled_more x i h = ap doubled (take_more x i 0 h) ∙ doubled-append (take i x) (get_or x i 0 ∷ [])

-- each byte is past ASCII
AllWide : List ℕ → Type 0
AllWide [] = Unit {0}
AllWide (b ∷ z) = (128 ≤ b) × AllWide z

-- such bytes hold no quote
doubled-wide : (z : List ℕ) → AllWide z → doubled z ≡ z
unfolding AllWide
doubled-wide [] h = refl
doubled-wide (b ∷ z) h = let l = h.0 in let e : (b == 39) ≡ false = ne_eqb b 39 (λ q. omega arith) in rw (e, doubled-wide z h.1) refl

-- a character past ASCII is made of such bytes
wide_encode : (c : ℕ) → 128 ≤ c → AllWide (encode c)
unfolding AllWide encode
wide_encode c h =
    rw (le-ltb c 128 h)
    (cond_both (nat_lt c 2048) _ _ AllWide (λ e. (omega arith, (omega arith, tt)))
    (λ e. cond_both (nat_lt c 65536) _ _ AllWide (λ f. (omega arith, (omega arith, (omega arith, tt)))) (λ f. (omega arith, (omega arith, (omega arith, (omega arith, tt)))))))

-- one character is UTF-8
encode_utf8 : (c : ℕ) → scalar c ≡ true → IsUtf8 (encode c)
encode_utf8 c s = (c ∷ [], (rw s refl, append-nil (encode c)))

-- a quote is UTF-8
quote_utf8 : IsUtf8 (39 ∷ [])
quote_utf8 = one_utf8 39 (omega arith)

-- an ASCII byte, doubled where it is a quote, is UTF-8
ascii_doubled : (c : ℕ) → c < 128 → IsUtf8 (doubled (c ∷ []))
ascii_doubled c h = cond_both (c == 39) _ _ IsUtf8 (λ e. IsUtf8-append (39 ∷ []) (39 ∷ []) quote_utf8 quote_utf8) (λ e. one_utf8 c h)

-- a character, doubled where it is a quote, is UTF-8
doubled_one : (c : ℕ) → scalar c ≡ true → IsUtf8 (doubled (encode c))
doubled_one c s = elim (cases_lt c 128) [ inl h ↦ rw (encode_ascii c h) (ascii_doubled c h) | inr h ↦ rw (doubled-wide (encode c) (wide_encode c h)) (encode_utf8 c s) ]

-- so is a row of characters
doubled_all : (cs : List ℕ) → scalars cs ≡ true → IsUtf8 (doubled (encodes cs))
doubled_all [] h = IsUtf8-nil
doubled_all (c ∷ cs) h =
    let parts = and_parts (scalar c) (scalars cs) h in
    rw (doubled-append (encode c) (encodes cs)) (IsUtf8-append _ _ (doubled_one c parts.0) (doubled_all cs parts.1))

-- quotes are doubled in UTF-8
doubled_utf8 : (x : List ℕ) → IsUtf8 x → IsUtf8 (doubled x)
doubled_utf8 x u = let e : encodes u.0 ≡ x = u.1.1 in rw (← e) (doubled_all u.0 u.1.0)

-- doubling quotes adds no byte 0
doubled_no_zero : (z : List ℕ) → has_no_zero z ≡ true → has_no_zero (doubled z) ≡ true
doubled_no_zero [] h = refl
doubled_no_zero (b ∷ z) h =
    let parts = and_parts (not (b == 0)) (has_no_zero z) h in
    let after : has_no_zero (doubled z) ≡ true = doubled_no_zero z parts.1 in
    cond_both (b == 39) _ _ (λ v. has_no_zero v ≡ true) (λ e. after) (λ e. and_from (not (b == 0)) (has_no_zero (doubled z)) parts.0 after)

-- a text in quotes is a text
pub quoted_text : (x : List ℕ) → IsText x → IsText (39 ∷ doubled x ++ 39 ∷ [])
quoted_text x h =
    let parts = text_parts x h in
    let inside : IsUtf8 (doubled x) = doubled_utf8 x (IsUtf8-from_is_utf8 x parts.0) in
    let zero_free : has_no_zero (doubled x) ≡ true = doubled_no_zero x parts.1 in
    text_from _ (IsUtf8-append (39 ∷ []) (doubled x ++ 39 ∷ []) quote_utf8 (IsUtf8-append (doubled x) (39 ∷ []) inside quote_utf8))
    (list_all-append (λ b. not (b == 0)) (doubled x) (39 ∷ []) ∙ and_from (has_no_zero (doubled x)) true zero_free refl)
