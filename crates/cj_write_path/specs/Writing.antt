-- What a session owes after a write.
use Rattle.std.specs.Prelude.{ℕ, zero, suc}

-- the position that the session's reads need at least, after a write whose entry has this number; 0 where nothing was
-- scheduled
abbrev pub least_after : ℕ → ℕ → ℕ
least_after zero least = least
least_after (suc n) least = suc n
