-- Fields of the binary formats: numbers, and bytes after their length. Reading one may fail with the error given.
use Rattle.std.specs.Prelude.{ℕ, List, ◌++◌, length, take, drop, Result, Ok, Err, nat_lt, if◌then◌else◌}
use Rattle.std.specs.Int.{Width, w16, w32, byte_len, to_be_bytes, from_be_bytes}

-- bytes after their length as a u16, and below as a u32
abbrev pub str16 : List ℕ → List ℕ
str16 bytes = to_be_bytes w16 (length bytes) ++ bytes

abbrev pub str32 : List ℕ → List ℕ
str32 bytes = to_be_bytes w32 (length bytes) ++ bytes

-- one step of reading after another
infixl 10 ◌>>=◌
abbrev pub ◌>>=◌ : {A B E : Type 0} → Result A E → (A → Result B E) → Result B E
(Ok x) >>= f = f x
(Err e) >>= f = Err e

-- a number, and the bytes after it
abbrev pub number_at : {E : Type 0} → E → Width → List ℕ → Result (ℕ × List ℕ) E
number_at short w bytes = if nat_lt (length bytes) (byte_len w) then Err short else Ok (from_be_bytes w (take (byte_len w) bytes), drop (byte_len w) bytes)

-- so many bytes, and the bytes after them
abbrev pub bytes_at : {E : Type 0} → E → ℕ → List ℕ → Result (List ℕ × List ℕ) E
bytes_at short n bytes = if nat_lt (length bytes) n then Err short else Ok (take n bytes, drop n bytes)
