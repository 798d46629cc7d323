-- The literals of values in canonical SQL, and that they read back.
use Rattle.std.specs.Prelude.{◌≡◌, ◌≤◌, ◌<◌, ◌^◌, ℕ, suc, pos, negsuc, List, [], ◌∷◌, ◌++◌, length}
use Rattle.std.specs.Fmt.{signed_decimal}
use Rattle.cj_model.specs.declared.value.Value.{Value}
use Rattle.cj_model.specs.declared.value.Value.TheVariants as value
use Rattle.cj_model.specs.declared.term.Term.TheVariants as term
use Rattle.cj_model.specs.declared.limits.TheConstants.{TEXT_LIMIT}
use Rattle.cj_model.specs.Sql.Names.{IsText}
use Rattle.cj_model.specs.Sql.Lexical.{doubled, Tokens}
use Rattle.cj_model.specs.Sql.TermForms.{ConstForm, number, minus, string, const_tokens, const_meant, ConstFits}

-- an INTEGER in decimal, with `-` where it is negative; a TEXT in quotes, with each quote in it twice
abbrev pub literal : Value → List ℕ
literal (value.Int n) = signed_decimal n
literal (value.Text t) = 39 ∷ doubled t ++ 39 ∷ []

-- what is written of the value
abbrev pub form_of : Value → ConstForm
form_of (value.Int (pos n)) = number n
form_of (value.Int (negsuc n)) = minus (suc n)
form_of (value.Text t) = string t

-- a number of 64 bits with a sign, or a text that a statement may hold
abbrev pub IsConstant : Value → Type 0
IsConstant (value.Int (pos n)) = n < 2 ^ 63
IsConstant (value.Int (negsuc n)) = n < 2 ^ 63
IsConstant (value.Text t) = IsText t × (length t ≤ TEXT_LIMIT)

-- the literal of a value reads as a constant, whose value it is
pub record ReadsBack (v : Value) : Type 0 where
  pub tokens : Tokens (literal v) (const_tokens (form_of v) [])
  pub fits : ConstFits (form_of v)
  pub meant : const_meant (form_of v) ≡ term.Lit v

abbrev pub LiteralsReadBack : Type 0
LiteralsReadBack = (v : Value) → IsConstant v → ReadsBack v
