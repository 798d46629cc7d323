-- The backends without a worker are counted.
use Rattle.std.proofs.Common.{◌≡◌, ℕ, ◌+◌, ◌-◌, ◌^◌, ◌<◌, ◌≤◌, ◌||◌, ◌==◌, Bool, true, false, zero, suc, cond, min, refl, sym, ap, ◌∙◌, subst, arith, ⊎_elim}
use Rattle.std.proofs.lemmas.Bool.{cases_lt, eq-eqb}
use Rattle.std.proofs.Math.Nat.{min-eq_left, min-eq_right}
use Rattle.cj_model.specs.Cluster.Masks.{in_mask}
use Rattle.cj_outside.specs.Causes.{next}
use Rattle.cj_serve.specs.Crews.{missing, CountsMissing}

one_fewer : (s t : Bool) → (s ≡ true → t ≡ true) → cond t 0 1 ≤ cond s 0 1
one_fewer true t to = subst (λ (x : Bool). cond x 0 1 ≤ 0) (sym (to refl)) (omega arith)
one_fewer false true to = omega arith
one_fewer false false to = omega arith

at_most_one : (t : Bool) → cond t 0 1 ≤ 1
at_most_one true = omega arith
at_most_one false = omega arith

-- a mask with more backends lacks no more
fewer : (m k : ℕ) → ((b : ℕ) → in_mask m b ≡ true → in_mask k b ≡ true) → (count : ℕ) → missing k count ≤ missing m count
fewer m k more zero = omega arith
fewer m k more (suc b) =
    let rest : missing k b ≤ missing m b = fewer m k more b in
    let one : cond (in_mask k b) 0 1 ≤ cond (in_mask m b) 0 1 = one_fewer (in_mask m b) (in_mask k b) (more b) in omega (arith, rest, one)

-- a count that is not full has risen by one
by_one : (most n now : ℕ) → now ≡ min (n + 1) most → now < most → now ≡ n + 1
by_one most n now is few = ⊎_elim (λ (lt : most < n + 1). absurd (full (is ∙ min-eq_right (below most n lt)) few)) (λ (le : n + 1 ≤ most). is ∙ min-eq_left le) (cases_lt most (n + 1))
  where
    below : (most n : ℕ) → most < n + 1 → most ≤ n + 1
    below most n lt = omega (arith, lt)

    full : now ≡ most → now < most → ⊥
    full same lt = omega (arith, same, lt)

or_true : (t : Bool) → (t || true) ≡ true
or_true true = refl
or_true false = refl

next_is : (b : ℕ) → suc b ≡ b + 1
next_is b = omega arith

-- one backend more was looked at: its worker was started, and it is added to the mask
module _ (before was now m k b : ℕ) (counts : CountsMissing before was m b) (same : now ≡ was) (bits : (c : ℕ) → in_mask k c ≡ (in_mask m c || c == b)) where
  started : CountsMissing before now k (suc b)
  started few =
      let all : before + missing m b ≤ was = counts (subst (λ (x : ℕ). x < 2 ^ 64 - 1) same few) in
      let less : missing k b ≤ missing m b = fewer m k (λ c on. bits c ∙ ap (λ (t : Bool). t || c == b) on) b in
      let on : in_mask k b ≡ true = bits b ∙ (ap (λ (t : Bool). in_mask m b || t) (eq-eqb b b refl) ∙ or_true (in_mask m b)) in
      let none : ◌≡◌ {A = ℕ} (cond (in_mask k b) 0 1) 0 = ap (λ (t : Bool). cond {A = ℕ} t 0 1) on in omega (arith, all, less, none, same)

  pub one_started : CountsMissing before now k (b + 1)
  one_started = subst (CountsMissing before now k) (next_is b) started

-- or it was refused
module _ (before was now m b : ℕ) (counts : CountsMissing before was m b) (is : now ≡ next was) where
  refused : CountsMissing before now m (suc b)
  refused few =
      let risen : now ≡ was + 1 = by_one (2 ^ 64 - 1) was now is few in
      let all : before + missing m b ≤ was = counts (less_then was now (2 ^ 64 - 1) risen few) in
      let one : cond (in_mask m b) 0 1 ≤ 1 = at_most_one (in_mask m b) in omega (arith, risen, all, one)
    where
      less_then : (x y most : ℕ) → y ≡ x + 1 → y < most → x < most
      less_then x y most is few = omega (arith, is, few)

  pub one_refused : CountsMissing before now m (b + 1)
  one_refused = subst (CountsMissing before now m) (next_is b) refused
