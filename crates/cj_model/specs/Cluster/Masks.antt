-- Masks of backends: backend b is in one whose bit b is 1.
use Rattle.std.specs.Prelude.{ℕ, ◌^◌, Bool, ◌==◌, bit_or}
use Rattle.std.specs.Int.{bit_at}

-- backend b is in the mask
abbrev pub in_mask : ℕ → ℕ → Bool
in_mask mask b = bit_at mask b == 1

-- the mask with backend b
abbrev pub with_backend : ℕ → ℕ → ℕ
with_backend mask b = bit_or mask (2 ^ b)
