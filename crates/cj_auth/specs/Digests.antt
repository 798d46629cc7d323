-- Digests of passwords, written in hexadecimal digits.
use Rattle.std.specs.Prelude.{ℕ, ◌==◌, ◌&&◌, Bool, false, List, length}
use Rattle.std.specs.declared.result.Result.{Result}
use Rattle.std.specs.declared.result.Result.TheVariants.{Ok, Err}
use Rattle.std.specs.List.{list_all}
use Rattle.std.specs.Str.{bytes_eq}
use Rattle.hex.specs.declared.error.FromHexError.{FromHexError}
use Rattle.hex.specs.Hex.{decode_of, is_hex_digit}

-- 64 hexadecimal digits, each in either case
abbrev pub is_digest : List ℕ → Bool
is_digest text = length text == 64 && list_all is_hex_digit text

-- whether the digits were read as these bytes
abbrev pub reads_as : Result (List ℕ) FromHexError → List ℕ → Bool
reads_as (Ok read) bytes = bytes_eq read bytes
reads_as (Err e) bytes = false

-- whether the hexadecimal digits spell these bytes
abbrev pub spells : List ℕ → List ℕ → Bool
spells digits bytes = reads_as (decode_of digits) bytes
