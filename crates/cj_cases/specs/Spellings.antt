-- How texts spell bytes, and how bytes are shown.
use Rattle.std.specs.Prelude.{ℕ, ◌+◌, ◌-◌, ◌*◌, ◌/◌, ◌%◌, ◌==◌, ◌<◌, ◌||◌, Bool, List, [], ◌∷◌, nat_lt}
use Rattle.std.specs.Prelude.{if◌then◌else◌}
use Rattle.std.specs.declared.option.Option.{Option}
use Rattle.std.specs.declared.option.Option.TheVariants.{None, Some}
use Rattle.std.specs.Int.{is_in_range}
use Rattle.std.specs.Option.{option_map}
use Rattle.std.specs.List.{flat_map}
use Rattle.cj_cases.specs.declared.spelling.Place.{Place}
use Rattle.cj_cases.specs.declared.spelling.Place.TheVariants.{Between, BehindBackslash, BehindX, BehindDigit}
use Rattle.cj_cases.specs.declared.spelling.Step.{Step}
use Rattle.cj_cases.specs.declared.spelling.Step.TheVariants.{Goes, Gives, Wrong}

-- ---- digits of base 16, 0 to 9 and a to f

abbrev pub is_digit : ℕ → Bool
is_digit b = is_in_range 48 57 b || is_in_range 97 102 b

abbrev pub digit_value : ℕ → ℕ
digit_value b = if is_in_range 48 57 b then b - 48 else b - 87

abbrev pub digit_byte : ℕ → ℕ
digit_byte n = if nat_lt n 10 then n + 48 else n + 87

-- ---- from texts to bytes

-- What the next byte of a text does at a place: the reader goes to another place; or a byte is spelled, and the
-- reader is between two spellings again; or the byte is wrong.
abbrev pub next_step : Place → ℕ → Step
next_step Between b = if b == 92 then Goes BehindBackslash else Gives b
next_step BehindBackslash b =
    if b == 92 then Gives 92 else if b == 110 then Gives 10 else if b == 120 then Goes BehindX else Wrong
next_step BehindX b = if is_digit b then Goes (BehindDigit (digit_value b)) else Wrong
next_step (BehindDigit high) b = if is_digit b then Gives (16 * high + digit_value b) else Wrong

-- the digit before the reader, if the place has one, is a digit
abbrev pub IsDigitAt : Place → Type 0
IsDigitAt (BehindDigit high) = high < 16
IsDigitAt place = Unit {0}

abbrev pub StepsToPlace : Step → Type 0
StepsToPlace (Goes next) = IsDigitAt next
StepsToPlace step = Unit {0}

-- the bytes with one more in front, if there are any bytes
abbrev pub led_by : ℕ → Option (List ℕ) → Option (List ℕ)
led_by b bytes = option_map (λ more. b ∷ more) bytes

-- a text may end only between spellings
abbrev pub spelled_at_end : Place → Option (List ℕ)
spelled_at_end Between = Some []
spelled_at_end BehindBackslash = None
spelled_at_end BehindX = None
spelled_at_end (BehindDigit high) = None

-- the bytes that the text spells from this place on, if it can go on and end so
abbrev pub spelled_from : Place → List ℕ → Option (List ℕ)
spelled_from place [] = spelled_at_end place
spelled_from place (b ∷ text) =
    elim (next_step place b) [
      | Goes next ↦ spelled_from next text
      | Gives x ↦ led_by x (spelled_from Between text)
      | Wrong ↦ None
    ]

-- The bytes that a text spells, if it is one: two backslashes are a backslash, \n is LF, \xNN is the byte of these
-- two digits, and each other byte is itself.
abbrev pub spelled : List ℕ → Option (List ℕ)
spelled text = spelled_from Between text

-- ---- from bytes to texts

abbrev pub shown_byte : ℕ → List ℕ
shown_byte b =
    if b == 92 then 92 ∷ 92 ∷ []
    else if b == 10 then 92 ∷ 110 ∷ []
    else if is_in_range 32 126 b then b ∷ []
    else 92 ∷ 120 ∷ digit_byte (b / 16) ∷ digit_byte (b % 16) ∷ []

-- one text that spells the bytes, in printable characters
abbrev pub shown_text : List ℕ → List ℕ
shown_text bytes = flat_map shown_byte bytes
