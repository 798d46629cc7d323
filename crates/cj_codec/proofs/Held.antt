-- What names and values a field may hold.
use Rattle.std.proofs.Common.{◌≡◌, ℕ, ◌^◌, ◌<◌, ◌≤◌, ℤ, pos, negsuc, true, nat_le, List, length, refl, subst, arith}
use Rattle.std.specs.Int.{w64, cast_unsigned}
use Rattle.std.specs.Int.RustNames.{FitsSigned}
use Rattle.std.proofs.Math.Facts.{sfits_to_z, Fits-of_lt}
use Rattle.std.proofs.lemmas.Int.{to_z-of_z}
use Rattle.std.proofs.lemmas.Bool.{and_parts, and_from, leb-true, le-leb}
use Rattle.cj_model.specs.declared.value.Value.{Value}
use Rattle.cj_model.specs.declared.value.Value.TheVariants.{Int, Text}
use Rattle.cj_model.specs.declared.limits.TheConstants.{NAME_LIMIT, TEXT_LIMIT}
use Rattle.cj_model.specs.Sql.Literals.{IsConstant}
use Rattle.cj_model.specs.Sql.Names.{is_name, is_spelled_as_name, is_text}
use Rattle.cj_codec.specs.Fields.{integer, name, value}
use Rattle.cj_codec.specs.Laws.{FieldsHold}

-- a name is short enough for its length
name_short : (n : List ℕ) → is_name n ≡ true → length n ≤ NAME_LIMIT
unfolding is_name
name_short n is = leb-true (length n) NAME_LIMIT (and_parts (nat_le (length n) NAME_LIMIT) (is_spelled_as_name n) is).0

name_held : (n : List ℕ) → is_name n ≡ true → name.fits n
name_held n is = ((omega (arith, name_short n is), refl), is)

-- a number of 64 bits with a sign is held as its two's complement
integer_held : (z : ℤ) → FitsSigned w64 z → cast_unsigned w64 z < 2 ^ 64 → integer.fits z
integer_held z fits small = (small, to_z-of_z w64 z fits)

-- and no other is
integer_fits : (z : ℤ) → integer.fits z → FitsSigned w64 z
integer_fits z held = subst (FitsSigned w64) held.1 (sfits_to_z (Fits-of_lt held.0))

pub constant_held : (v : Value) → IsConstant v → value.fits v
constant_held (Int (pos n)) is = (omega arith, (integer_held (pos n) (record { sfits = omega (arith, is) }) (omega (arith, is)), refl))
constant_held (Int (negsuc n)) is = (omega arith, (integer_held (negsuc n) (record { sfits = omega (arith, is) }) (omega arith), refl))
constant_held (Text t) is =
    (omega arith, (((omega (arith, is.1), refl), and_from (nat_le (length t) TEXT_LIMIT) (is_text t) (le-leb (length t) TEXT_LIMIT is.1) is.0), refl))

pub held_constant : (v : Value) → value.fits v → IsConstant v
held_constant (Int (pos n)) held = omega (arith, (integer_fits (pos n) held.1.0).sfits)
held_constant (Int (negsuc n)) held = omega (arith, (integer_fits (negsuc n) held.1.0).sfits)
held_constant (Text t) held =
    let parts = and_parts (nat_le (length t) TEXT_LIMIT) (is_text t) held.1.0.1 in
    (parts.1, leb-true (length t) TEXT_LIMIT parts.0)

pub fields_hold : FieldsHold
fields_hold = record { of_name = λ n. (λ held. held.1, name_held n); of_value = λ v. (held_constant v, constant_held v) }
