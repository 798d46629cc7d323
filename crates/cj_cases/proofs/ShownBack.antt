-- Texts that are shown for bytes spell these bytes.
use Rattle.std.proofs.Common.{◌≡◌, ◌∙◌, refl, sym, ap, subst, ℕ, ◌+◌, ◌-◌, ◌*◌, ◌/◌, ◌%◌, ◌<◌, ◌≤◌, ◌==◌, true}
use Rattle.std.proofs.Common.{false, nat_lt, List, [], ◌∷◌, ◌++◌, Option, None, Some, All, arith}
use Rattle.std.proofs.lemmas.Bool.{eqb-true, ltb-true, ltb-false}
use Rattle.std.proofs.lemmas.Bool.Decides.{nat_tests}
use Rattle.std.proofs.lemmas.List.Elements.{All-head, All-tail}
use Rattle.std.specs.Int.{is_in_range}
use Rattle.cj_cases.specs.Spellings.{digit_byte, digit_value, is_digit, led_by, next_step, shown_byte, shown_text}
use Rattle.cj_cases.specs.Spellings.{spelled, spelled_from}
use Rattle.cj_cases.specs.declared.spelling.Place.TheVariants.{Between, BehindX, BehindDigit}
use Rattle.cj_cases.specs.declared.spelling.Step.{Step}
use Rattle.cj_cases.specs.declared.spelling.Step.TheVariants.{Goes, Gives, Wrong}

-- ---- digits

low_digit : (b : ℕ) → 48 ≤ b → b < 58 → (is_digit b ≡ true) × (digit_value b ≡ b - 48)
low_digit b low high =
    let here : is_in_range 48 57 b ≡ true = grind (arith, nat_tests) in
    (rw here refl, rw here refl)

high_digit : (b : ℕ) → 97 ≤ b → b < 103 → (is_digit b ≡ true) × (digit_value b ≡ b - 87)
high_digit b low high =
    let above : is_in_range 48 57 b ≡ false = grind (arith, nat_tests) in
    let here : is_in_range 97 102 b ≡ true = grind (arith, nat_tests) in
    (rw (above, here) refl, rw above refl)

-- a number's digit is one, and has its value
digit_back : (n : ℕ) → n < 16 → (is_digit (digit_byte n) ≡ true) × (digit_value (digit_byte n) ≡ n)
digit_back n few =
    elim (nat_lt n 10) as (λ v. nat_lt n 10 ≡ v → (is_digit (digit_byte n) ≡ true)
    × (digit_value (digit_byte n) ≡ n)) [
      | true ↦ λ e.
          let below = ltb-true n 10 e in
          let is : digit_byte n ≡ n + 48 = rw e refl in
          let digit = low_digit (n + 48) (omega arith) (omega arith) in
          let value : n + 48 - 48 ≡ n = omega arith in
          (ap is_digit is ∙ digit.0, ap digit_value is ∙ digit.1 ∙ value)
      | false ↦ λ e.
          let below = ltb-false n 10 e in
          let is : digit_byte n ≡ n + 87 = rw e refl in
          let digit = high_digit (n + 87) (omega arith) (omega arith) in
          let value : n + 87 - 87 ≡ n = omega arith in
          (ap is_digit is ∙ digit.0, ap digit_value is ∙ digit.1 ∙ value)
    ] refl

-- what is done at a place goes on so
goes_on : Step → List ℕ → Option (List ℕ)
goes_on step text = elim step [
  | Goes next ↦ spelled_from next text
  | Gives x ↦ led_by x
      (spelled_from Between text)
  | Wrong ↦ None
]

-- two digits behind a backslash and x
digits_spell : (x y : ℕ) (text : List ℕ) → is_digit x ≡ true → is_digit y ≡ true
    → spelled_from Between (92 ∷ 120 ∷ x ∷ y ∷ text)
    ≡ led_by (16 * digit_value x + digit_value y) (spelled_from Between text)
unfolding goes_on
digits_spell x y text dx dy =
    let high : next_step BehindX x ≡ Goes (BehindDigit (digit_value x)) = rw dx refl in
    let low : next_step (BehindDigit (digit_value x)) y ≡ Gives (16 * digit_value x + digit_value y) = rw dy refl in
    ap (λ s. goes_on s (y ∷ text)) high ∙ ap (λ s. goes_on s text) low

-- ---- bytes

-- what is shown for this byte spells it
IsSpelled : (b : ℕ) → List ℕ → Type 0
IsSpelled b text = spelled_from Between (shown_byte b ++ text) ≡ led_by b (spelled_from Between text)

plain_back : (b : ℕ) (text : List ℕ) → (b == 92) ≡ false → (b == 10) ≡ false → is_in_range 32 126 b ≡ true
    → IsSpelled b text
unfolding IsSpelled goes_on
plain_back b text n m p =
    let is : shown_byte b ≡ b ∷ [] = rw (n, m, p) refl in
    let step : next_step Between b ≡ Gives b = rw n refl in
    ap (λ (z : List ℕ). spelled_from Between (z ++ text)) is ∙ ap (λ s. goes_on s text) step

digits_back : (b : ℕ) (text : List ℕ) → b < 256 → (b == 92) ≡ false → (b == 10) ≡ false → is_in_range 32 126 b ≡ false
    → IsSpelled b text
unfolding IsSpelled
digits_back b text few n m p =
    let is : shown_byte b ≡ 92 ∷ 120 ∷ digit_byte (b / 16) ∷ digit_byte (b % 16) ∷ [] = rw (n, m, p) refl in
    let high = digit_back (b / 16) (omega arith) in
    let low = digit_back (b % 16) (omega arith) in
    let value : 16 * digit_value (digit_byte (b / 16)) + digit_value (digit_byte (b % 16)) ≡ b =
    rw (high.1, low.1) (omega arith) in
    ap (λ (z : List ℕ). spelled_from Between (z ++ text)) is
    ∙ digits_spell (digit_byte (b / 16)) (digit_byte (b % 16)) text high.0 low.0
    ∙ ap (λ (k : ℕ). led_by k (spelled_from Between text)) value

byte_back : (b : ℕ) (text : List ℕ) → b < 256 → IsSpelled b text
unfolding IsSpelled
byte_back b text few =
    elim (b == 92) as (λ v. (b == 92) ≡ v → IsSpelled b text) [
      | true ↦ λ e. subst (λ (k : ℕ). IsSpelled k text) (sym (eqb-true b 92 e)) refl
      | false ↦ λ n. elim (b == 10) as (λ v. (b == 10) ≡ v → IsSpelled b text) [
        | true ↦ λ e. subst (λ (k : ℕ). IsSpelled k text) (sym (eqb-true b 10 e)) refl
        | false ↦ λ m. elim (is_in_range 32 126 b) as (λ v. is_in_range 32 126 b ≡ v → IsSpelled b text) [
          | true ↦ λ p. plain_back b text n m p
          | false ↦ λ p. digits_back b text few n m p
        ] refl
      ] refl
    ] refl

-- what is shown for bytes spells them
pub shown_back : (bytes : List ℕ) → All (λ b. b < 256) bytes → spelled (shown_text bytes) ≡ Some bytes
unfolding IsSpelled
shown_back [] all = refl
shown_back (b ∷ bytes) all =
    byte_back b (shown_text bytes) (All-head (λ b. b < 256) b bytes all)
    ∙ ap (led_by b) (shown_back bytes (All-tail (λ b. b < 256) b bytes all))
