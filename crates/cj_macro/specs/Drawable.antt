-- Whether random numbers can be drawn below bounds, as a test.
use Rattle.std.specs.Prelude.{ℕ, ◌^◌, Bool, ◌&&◌, List, nat_lt}
use Rattle.std.specs.List.{list_all}

-- a number below `n` can be drawn: `n` is above 0 and fits the positive INTEGERs
abbrev pub is_drawable : ℕ → Bool
is_drawable n = nat_lt 0 n && nat_lt n (2 ^ 63)

-- a number below each bound can be drawn
abbrev pub are_drawable : List ℕ → Bool
are_drawable bounds = list_all is_drawable bounds
