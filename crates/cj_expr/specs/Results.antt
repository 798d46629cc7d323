-- What binding and evaluating give.
use Rattle.std.specs.Prelude.{◌≡◌, ℤ, true, false, ⊤, IsOk, if◌then◌else◌}
use Rattle.std.specs.declared.option.Option.{Option}
use Rattle.std.specs.declared.option.Option.TheVariants.{None, Some}
use Rattle.std.specs.declared.result.Result.{Result}
use Rattle.std.specs.declared.result.Result.TheVariants.{Ok, Err}
use Rattle.cj_model.specs.declared.value.Value.{Value}
use Rattle.cj_model.specs.declared.value.Value.TheVariants.{Int, Text}
use Rattle.cj_model.specs.declared.term.Expr.{Expr}
use Rattle.cj_model.specs.declared.answer.Refusal.{Refusal}
use Rattle.cj_model.specs.declared.codes.TheConstants.{NO_COLUMN, WRONG_TYPE}
use Rattle.cj_model.specs.Database.Conditions.{Condition}
use Rattle.cj_model.specs.Database.Predicates as by_place
use Rattle.cj_model.specs.Database.Inserts.{refusal_of_code, refuse_if}
use Rattle.cj_model.specs.Database.Scopes.{Scope, has_unknown_column, expr_has_unknown_column, mixes_kinds, adds_text, predicate_of, formula_of}
use Rattle.cj_model.specs.Database.Evaluation.{is_out_of_range}
use Rattle.cj_expr.specs.declared.binding.BindError.{BindError}
use Rattle.cj_expr.specs.declared.binding.BindError.TheVariants as bind_error
use Rattle.cj_expr.specs.declared.formula.Formula.{Formula}
use Rattle.cj_expr.specs.declared.formula.ValueError.{ValueError}
use Rattle.cj_expr.specs.declared.formula.ValueError.TheVariants as value_error
use Rattle.cj_expr.specs.Shapes.{formula}

-- the condition with columns by index, or the first refusal: an unknown column, else kinds that differ
abbrev pub bound_condition : Scope → Condition → Result by_place.Predicate Refusal
bound_condition scope c =
    refuse_if (has_unknown_column scope c) (refusal_of_code NO_COLUMN)
    (refuse_if (mixes_kinds scope c) (refusal_of_code WRONG_TYPE)
    (Ok (predicate_of scope c)))

-- the expression with columns by index, or the first refusal: an unknown column, else a TEXT under `+` or `-`
abbrev pub bound_expr : Scope → Expr → Result by_place.Formula Refusal
bound_expr scope e =
    refuse_if (expr_has_unknown_column scope e) (refusal_of_code NO_COLUMN)
    (refuse_if (adds_text scope e) (refusal_of_code WRONG_TYPE)
    (Ok (formula_of scope e)))

-- the result is the expected one in this sight; an allocation may fail only where nothing is refused
abbrev pub GivesBy : {A B : Type 0} → (B → A) → Result A Refusal → Result B BindError → Type 0
GivesBy sight expected (Ok x) = expected ≡ Ok (sight x)
GivesBy sight expected (Err (bind_error.Refused r)) = expected ≡ Err r
GivesBy sight expected (Err bind_error.NoMemory) = IsOk expected

-- the result is the expected condition or refusal; an allocation may fail only where nothing is refused
abbrev pub GivesPredicate : Result by_place.Predicate Refusal → Result by_place.Predicate BindError → Type 0
GivesPredicate = GivesBy (λ p. p)

-- the result is the expected expression or refusal; an allocation may fail only where nothing is refused
abbrev pub GivesFormula : Result by_place.Formula Refusal → Result Formula BindError → Type 0
GivesFormula = GivesBy formula

-- the result is the value where it fits 64 bits, else Overflow; an allocation may fail in both cases
abbrev pub IsValueOf : Value → Result Value ValueError → Type 0
IsValueOf v (Ok w) = (is_out_of_range v ≡ false) × (w ≡ v)
IsValueOf v (Err value_error.Overflow) = is_out_of_range v ≡ true
IsValueOf v (Err value_error.NoMemory) = ⊤

-- the INTEGER that a value is, where it fits 64 bits; none for a TEXT
abbrev pub integer_within : Value → Option ℤ
integer_within (Int z) = if is_out_of_range (Int z) then None else Some z
integer_within (Text t) = None
