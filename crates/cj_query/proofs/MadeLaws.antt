-- Refusals that are passed on.
use Rattle.std.proofs.Common.{◌≡◌, Bool, true, subst, sym}
use Rattle.std.specs.Result.{IsErrAnd}
use Rattle.cj_query.proofs.Common.{Err, MakesValue, Ok, Result, ValueError}
use Rattle.cj_expr.specs.declared.formula.ValueError.TheVariants.{Overflow, NoMemory}

-- what lies outside in a part lies outside in the whole
pub err_kept : {A B : Type 0} (b c : Bool) (x : A) (y : B) (e : ValueError) → (b ≡ true → c ≡ true) → MakesValue b x (Err e) → MakesValue c y (Err e)
err_kept b c x y Overflow h m = h m
err_kept b c x y NoMemory h m = tt

-- the same error, as `?` gives it
pub err_given : {A : Type 0} (b : Bool) (y : A) (e : ValueError) (r : Result A ValueError) → IsErrAnd r (λ x. x ≡ e) → MakesValue b y (Err e) → MakesValue b y r
err_given b y e (Ok x) h m = absurd h
err_given b y e (Err x) h m = subst (λ z. MakesValue b y (Err z)) (sym h) m
