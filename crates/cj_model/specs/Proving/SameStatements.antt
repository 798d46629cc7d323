-- Statements that are one, and what a hash reads of them.
use Rattle.std.specs.Prelude.{◌≡◌, ◌==◌, ◌&&◌, ℕ, List, [], ◌++◌, Bool, true, false, Option, None, Some, refl}
use Rattle.std.specs.Bool.{Decides}
use Rattle.std.specs.Cmp.{IsEquivalence, decided}
use Rattle.std.specs.Hash.{slice, u8, i64, u64, same_Alike}
use Rattle.std.specs.Str.{bytes_eq}
use Rattle.std.proofs.Common.{ap, sym, ◌∙◌}
use Rattle.std.proofs.lemmas.Bool.{and_from, and_parts, both_ways, eqb-true, eq-eqb}
use Rattle.std.proofs.lemmas.Slice.Eq.{bytes_eq-Decides}
use base.Stored.{Gv, gnil, gnum, gcons}
use Rattle.cj_model.specs.declared.term.Term.{Term}
use Rattle.cj_model.specs.declared.term.Term.TheVariants as term
use Rattle.cj_model.specs.declared.value.Value.{Value}
use Rattle.cj_model.specs.declared.value.Value.TheVariants.{Int, Text}
use Rattle.cj_model.specs.Database.Conditions.{Condition, Test, Not, And, Or}
use Rattle.cj_model.specs.declared.select.Select.{Select}
use Rattle.cj_model.specs.contracts.select.Select as statement

-- whether two of the logic's codes, which are trees of numbers, are one
abbrev pub same_code : Gv → Gv → Bool
same_code gnil gnil = true
same_code gnil (gnum n) = false
same_code gnil (gcons c d) = false
same_code (gnum m) gnil = false
same_code (gnum m) (gnum n) = m == n
same_code (gnum m) (gcons c d) = false
same_code (gcons a b) gnil = false
same_code (gcons a b) (gnum n) = false
same_code (gcons a b) (gcons c d) = same_code a c && same_code b d

-- whether two statements are one, as their codes tell; proofs know it by its law, `same_statement-Decides`
unfoldable pub same_statement : Select → Select → Bool
same_statement s t = same_code (statement.the_row.coded.code s) (statement.the_row.coded.code t)

same_code-itself : (c : Gv) → same_code c c ≡ true
same_code-itself gnil = refl
same_code-itself (gnum n) = eq-eqb n n refl
same_code-itself (gcons a b) = and_from _ _ (same_code-itself a) (same_code-itself b)

no' : {A : Type 0} → false ≡ true → A
no' e = absurd (both_ways false refl e)

one_code : (c d : Gv) → same_code c d ≡ true → c ≡ d
one_code gnil gnil e = refl
one_code gnil (gnum n) e = no' e
one_code gnil (gcons c d) e = no' e
one_code (gnum m) gnil e = no' e
one_code (gnum m) (gnum n) e = ap gnum (eqb-true m n e)
one_code (gnum m) (gcons c d) e = no' e
one_code (gcons a b) gnil e = no' e
one_code (gcons a b) (gnum n) e = no' e
one_code (gcons a b) (gcons c d) e =
    let both = and_parts _ _ e in
    ap (λ x. gcons x b) (one_code a c both.0) ∙ ap (gcons c) (one_code b d both.1)

pub same_statement-Decides : (s t : Select) → Decides (same_statement s t) (s ≡ t)
unfolding same_statement
same_statement-Decides s t = (
  λ e. statement.the_row.coded.inj s t (one_code _ _ e),
  λ e. ap (λ x. same_statement s x) (sym e) ∙ same_code-itself (statement.the_row.coded.code s),
)

pub statement_equiv : IsEquivalence same_statement
statement_equiv = decided same_statement same_statement-Decides

-- ---- what a hash reads of a statement: the tables that it needs, the columns and literals of its condition, its limit

abbrev pub fed_name : List ℕ → List (List ℕ)
fed_name = slice u8

abbrev pub fed_value : Value → List (List ℕ)
fed_value (Int n) = i64 n
fed_value (Text bytes) = slice u8 bytes

abbrev pub fed_term : Term → List (List ℕ)
fed_term (term.Lit v) = fed_value v
fed_term (term.Col column) = fed_name column.column
fed_term term.Now = []
fed_term (term.Rand n) = []

abbrev pub fed_condition : Condition → List (List ℕ)
fed_condition (Test c l r) = fed_term l ++ fed_term r
fed_condition (Not x) = fed_condition x
fed_condition (And x y) = fed_condition x ++ fed_condition y
fed_condition (Or x y) = fed_condition x ++ fed_condition y

abbrev pub fed_where : Option Condition → List (List ℕ)
fed_where None = []
fed_where (Some x) = fed_condition x

abbrev pub fed_limit : Option ℕ → List (List ℕ)
fed_limit None = []
fed_limit (Some n) = u64 n

abbrev pub fed_statement : Select → List (List ℕ)
fed_statement s = slice fed_name s.tables ++ fed_where s.cond ++ fed_limit s.limit

pub names_alike : (m n : List ℕ) → bytes_eq m n ≡ true → fed_name m ≡ fed_name n
names_alike = (same_Alike fed_name bytes_eq-Decides).fed

pub statements_alike : (s t : Select) → same_statement s t ≡ true → fed_statement s ≡ fed_statement t
statements_alike = (same_Alike fed_statement same_statement-Decides).fed
