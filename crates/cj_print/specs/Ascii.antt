-- Words and signs of ASCII, which are texts.
use Rattle.std.specs.Prelude.{◌≡◌, ℕ, Bool, true, ◌&&◌, nat_lt, List}
use Rattle.std.specs.List.{list_all}

-- a byte of ASCII other than 0
abbrev pub is_ascii_byte : ℕ → Bool
is_ascii_byte b = nat_lt 0 b && nat_lt b 128

-- each byte is one of ASCII other than 0
abbrev pub IsAsciiText : List ℕ → Type 0
IsAsciiText bytes = list_all is_ascii_byte bytes ≡ true
