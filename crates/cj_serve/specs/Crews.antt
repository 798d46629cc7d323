-- What contracts say of the workers that were started.
use Rattle.std.specs.Prelude.{ℕ, ◌+◌, ◌-◌, ◌^◌, ◌<◌, ◌≤◌, zero, suc, cond}
use Rattle.cj_model.specs.Cluster.Masks.{in_mask}

-- how many of so many backends are not in the mask
abbrev pub missing : ℕ → ℕ → ℕ
missing mask zero = 0
missing mask (suc b) = cond (in_mask mask b) 0 1 + missing mask b

-- each of so many backends that is not in the mask was counted, unless the count is full
abbrev pub CountsMissing : ℕ → ℕ → ℕ → ℕ → Type 0
CountsMissing before now mask count = now < 2 ^ 64 - 1 → before + missing mask count ≤ now
