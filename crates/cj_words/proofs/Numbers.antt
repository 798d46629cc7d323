-- Numbers as words.
use Rattle.std.proofs.Common.{◌≡◌, ◌∙◌, refl, sym, ap, subst, ℕ, zero, suc, ◌<◌, ◌^◌, true, false, not, ◌||◌, ◌==◌, List, [], ◌∷◌, length, get_or, Result, Ok, inl, inr, arith, rules}
use Rattle.std.specs.Char.{is_ascii_digit}
use Rattle.std.specs.Fmt.{decimal}
use Rattle.std.specs.List.{list_all}
use Rattle.std.proofs.lemmas.Bool.Decides.{nat_tests}
use Rattle.std.specs.Str.{IsUtf8}
use Rattle.std.proofs.lemmas.Fmt.{digits_decimal, decimal_nonempty, first_decimal, decimal-digits_value, parse-decimal, decimal_injective, decimal_digit, IsAscii-decimal}
use Rattle.std.proofs.lemmas.Str.{IsUtf8-from_ascii}
use Rattle.std.proofs.lemmas.Str.Parse.{IsNumeralModel, numerals_by_value, parse_digits}
use Rattle.std.specs.Str.Parse.{ParsesUnsigned, digits_value}
use Rattle.std.proofs.lemmas.Bool.{and_parts, and_from, or_cases, not-true, eqb-false, ne_eqb, false≢true}
use Rattle.cj_cluster.specs.Script.Lines.{HasNoSpace, IsNumber}
use Rattle.cj_words.specs.Words.{begins_number, is_numeral}

-- the digits of the words are std's
numerals : IsNumeralModel (λ z. list_all is_ascii_digit z ≡ true) (digits_value 10)
numerals = numerals_by_value _ (search rules)

-- what begins a number
begins_from : (z : List ℕ) → 0 < length z → (get_or z 0 0 ≡ 48 → length z ≡ 1) → begins_number z ≡ true
begins_from [] l h = absurd (omega arith)
begins_from (b ∷ []) l h = elim (b == 48) as (λ v. (not v || true) ≡ true) [ true ↦ refl | false ↦ refl ]
begins_from (b ∷ a ∷ z) l h =
    let other : (b == 48) ≡ false = ne_eqb b 48 (λ e. let k = h e in omega arith) in
    rw other refl

-- and what such a word is
begins_to : (z : List ℕ) → begins_number z ≡ true → (0 < length z) × (get_or z 0 0 ≡ 48 → length z ≡ 1)
begins_to [] h = absurd (cc)
begins_to (b ∷ []) h = (omega arith, λ e. omega arith)
begins_to (b ∷ a ∷ z) h = (omega arith, λ e. absurd (elim (or_cases (not (b == 48)) false h) [ inl k ↦ eqb-false b 48 (not-true (b == 48) k) e | inr k ↦ false≢true k ]))

-- a 0 stands first only alone
zero_first : (n : ℕ) → n < 2 ^ 64 → get_or (decimal n) 0 0 ≡ 48 → length (decimal n) ≡ 1
zero_first zero h e = ap length (decimal_digit 0 (omega arith))
zero_first (suc n) h e = absurd (let k = first_decimal (suc n) (omega arith) h in omega arith)

-- a printed number is a numeral
pub decimal_numeral : (n : ℕ) → n < 2 ^ 64 → is_numeral (decimal n) ≡ true
decimal_numeral n h = and_from (begins_number (decimal n)) (list_all is_ascii_digit (decimal n)) (begins_from (decimal n) (decimal_nonempty n h) (zero_first n h)) (digits_decimal numerals n h)

-- what is no numeral is no number
pub no_numeral : (z : List ℕ) → is_numeral z ≡ false → (n : ℕ) → IsNumber z n → ⊥
no_numeral z h n i = false≢true (sym h ∙ ap is_numeral i.spelled ∙ decimal_numeral n i.fits)

-- a number's word is UTF-8
pub number_utf8 : (z : List ℕ) (n : ℕ) → IsNumber z n → IsUtf8 z
number_utf8 z n i = subst IsUtf8 (sym i.spelled) (IsUtf8-from_ascii (decimal n) (IsAscii-decimal n i.fits))

-- and parses as the number
pub number_parses : {E : Type 0} (z : List ℕ) (n : ℕ) (r : Result ℕ E) → IsNumber z n → ParsesUnsigned 64 10 z r → r ≡ Ok n
number_parses z n r i p = parse-decimal 64 n z r i.fits i.fits i.spelled p

pub number_one : (z : List ℕ) (m n : ℕ) → IsNumber z m → IsNumber z n → m ≡ n
number_one z m n p q = decimal_injective m n p.fits q.fits (sym p.spelled ∙ q.spelled)

-- a numeral that parses is its number's word
pub numeral_number : (E : Type 0) (z : List ℕ) (n : ℕ) (r : Result ℕ E) → is_numeral z ≡ true → r ≡ Ok n → ParsesUnsigned 64 10 z r → IsNumber z n
numeral_number E z n r h e p =
    let parts = and_parts (begins_number z) (list_all is_ascii_digit z) h in
    let begins = begins_to z parts.0 in
    let q = subst (ParsesUnsigned 64 10 z) e p in
    let k : ((0 < length z) × (digits_value 10 z < 2 ^ 64)) × (n ≡ digits_value 10 z) = parse_digits numerals {E = E} 64 z (Ok n) q parts.1 in
    record { spelled = sym (decimal-digits_value numerals z parts.1 begins.0 begins.1 k.0.1) ∙ ap decimal (sym k.1); fits = omega (arith, k.1, k.0.1) }

-- digits hold no space
digits_word : (z : List ℕ) → list_all is_ascii_digit z ≡ true → HasNoSpace z
digits_word [] h = refl
digits_word (b ∷ z) h =
    let parts = and_parts (is_ascii_digit b) (list_all is_ascii_digit z) h in
    let d = parts.0 in
    let e : (b == 32) ≡ false = grind (arith, nat_tests, d) in
    rw (e, digits_word z parts.1) refl

-- nor does a number's word
pub number_word : (z : List ℕ) (n : ℕ) → IsNumber z n → HasNoSpace z
number_word z n i = subst HasNoSpace (sym i.spelled) (digits_word (decimal n) (digits_decimal numerals n i.fits))
