-- A recursion on the turns that are left, beside a loop that counts up.
use Rattle.std.proofs.Common.{◌≡◌, ℕ, suc, ◌+◌, ◌-◌, ◌<◌, ◌≤◌, ap, ◌∙◌, arith}

-- before the end, the recursion is at a successor
pub one_more : {X : Type 0} {x : X} (f : ℕ → X) (end at : ℕ) → at < end → x ≡ f (end - at) → x ≡ f (suc (end - (at + 1)))
one_more f end at below e = let turn : end - at ≡ suc (end - (at + 1)) = omega arith in e ∙ ap f turn

-- at the end, the recursion is at 0
pub no_more : {X : Type 0} {x : X} (f : ℕ → X) (end at : ℕ) → end ≤ at → x ≡ f (end - at) → x ≡ f 0
no_more f end at done e = let none : end - at ≡ 0 = omega arith in e ∙ ap f none

-- where something is left, the recursion is at a successor
pub deeper : {X : Type 0} (f : ℕ → X) (n : ℕ) → 0 < n → f n ≡ f (suc (n - 1))
deeper f n some = let e : n ≡ suc (n - 1) = omega arith in ap f e
