-- What a name is, and what a text is.
use Rattle.std.specs.Prelude.{◌≡◌, ℕ, Bool, true, false, not, ◌&&◌, ◌||◌, ◌==◌, nat_le, if◌then◌else◌, List, [], ◌∷◌, length}
use Rattle.std.specs.declared.option.Option.{Option}
use Rattle.std.specs.declared.option.Option.TheVariants.{None, Some}
use Rattle.std.specs.Str.{is_utf8}
use Rattle.std.specs.List.{list_all}
use Rattle.std.specs.Char.{is_ascii_lowercase, is_ascii_digit, to_ascii_lowercase}
use Rattle.cj_model.specs.declared.limits.TheConstants.{NAME_LIMIT}

-- a byte in lower case
abbrev pub lower : ℕ → ℕ
lower = to_ascii_lowercase

-- an ASCII letter in lower case, or `_`
abbrev pub begins_name : ℕ → Bool
begins_name b = is_ascii_lowercase b || b == 95

-- a byte that a name may have after its first
abbrev pub continues_name : ℕ → Bool
continues_name b = begins_name b || is_ascii_digit b

abbrev pub is_spelled_as_name : List ℕ → Bool
is_spelled_as_name [] = false
is_spelled_as_name (b ∷ z) = begins_name b && list_all continues_name z

-- 1 to 32 letters in lower case, digits and `_`, not beginning with a digit
unfoldable pub is_name : List ℕ → Bool
is_name bytes = nat_le (length bytes) NAME_LIMIT && is_spelled_as_name bytes

-- the bytes as a name, where they are one
abbrev pub name_of : List ℕ → Option (List ℕ)
name_of bytes = if is_name bytes then Some bytes else None

abbrev pub is_nothing : List ℕ → Bool
is_nothing [] = true
is_nothing (b ∷ z) = false

abbrev pub IsNameOrEmpty : List ℕ → Type 0
IsNameOrEmpty bytes = is_nothing bytes || is_name bytes ≡ true

-- UTF-8 without byte 0
unfoldable pub is_text : List ℕ → Bool
is_text bytes = is_utf8 bytes && list_all (λ b. not (b == 0)) bytes

abbrev pub IsText : List ℕ → Type 0
IsText bytes = is_text bytes ≡ true

-- the bytes as a text, where they are one
abbrev pub text_of : List ℕ → Option (List ℕ)
text_of bytes = if is_text bytes then Some bytes else None
