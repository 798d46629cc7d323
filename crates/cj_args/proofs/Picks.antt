-- What holds of an option that a test picks.
use Rattle.std.proofs.Common.{◌≡◌, refl, Bool, true, false}
use Rattle.std.specs.Prelude.{IfSome, if◌then◌else◌}
use Rattle.std.specs.declared.option.Option.{Option}
use Rattle.std.specs.declared.option.Option.TheVariants.{None, Some}
use Rattle.cj_args.specs.Proving.{or_else}

pub pick : {A : Type 0} (P : A → Type 0) (b : Bool) (x : A) (o : Option A) → (b ≡ true → P x) → IfSome o P → IfSome (if b then Some x else o) P
pick P true x o f h = f refl
pick P false x o f h = h

pub either : {A : Type 0} (P : A → Type 0) (x y : Option A) → IfSome x P → IfSome y P → IfSome (or_else x y) P
either P None y h k = k
either P (Some x) y h k = h
