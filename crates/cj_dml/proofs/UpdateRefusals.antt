-- The refusals of UPDATE in their order.
use Rattle.std.proofs.Common.{◌≡◌, Bool, true, false, List, [], ◌∷◌, map, ap, sym, ◌∙◌, subst}
use Rattle.std.specs.Prelude.{◌||◌, option_map}
use Rattle.cj_dml.proofs.Common.{Changed, Err, list_any, Option, or_parts, Refusal, refusal_of_code, refuse_if, Result, Set, Table}
use Rattle.cj_model.specs.declared.codes.TheConstants.{NO_COLUMN, BAD_COLUMNS, WRONG_TYPE}
use Rattle.cj_model.specs.Database.Conditions.{Condition}
use Rattle.cj_model.specs.Database.Scopes.{Scope, scope_of, where_has_unknown_column, where_mixes_kinds, predicate_of}
use Rattle.cj_model.specs.Database.Updates.{set_has_unknown_column, sets_twice, sets_key, set_mixes_kinds, assignment_of, with_new_values, updated}
use Rattle.cj_model.proofs.UpdateLaws.{key_assigned}
use Rattle.cj_dml.specs.Assignments.{KeepsKey}
use Rattle.cj_dml.specs.Changes.{Makes}
use Rattle.cj_dml.specs.declared.plan.Change.{Change}
use Rattle.cj_dml.proofs.InPlace.{makes_refused, makes_past}

module _ (free : Bool) (t : Table) (sets : List Set) (when : Option Condition) where
  abbrev unknown : Scope → Bool
  unknown s = list_any (set_has_unknown_column s) sets || where_has_unknown_column s when

  abbrev bad : Scope → Bool
  bad s = sets_twice sets || list_any (sets_key s t.schema.key) sets

  abbrev mixed : Scope → Bool
  mixed s = list_any (set_mixes_kinds s) sets || where_mixes_kinds s when

  abbrev made : Scope → Changed
  made s = with_new_values t.rows (map (assignment_of s) sets) (option_map (predicate_of s) when)

  abbrev own : Scope
  own = scope_of (t.schema ∷ [])

  abbrev after_columns : Changed
  after_columns = refuse_if (mixed own) (refusal_of_code WRONG_TYPE) (made own)

  abbrev after_names : Changed
  after_names = refuse_if (bad own) (refusal_of_code BAD_COLUMNS) after_columns

  module _ (s : Scope) (is : s ≡ own) where
    pub first_refused : (r : Refusal) → unknown s ≡ true → r ≡ refusal_of_code NO_COLUMN → Makes free t (updated t sets when) (Err r)
    first_refused r h e = makes_refused free t (unknown own) (refusal_of_code NO_COLUMN) r after_names (ap unknown (sym is) ∙ h) e

    pub second_refused : (r : Refusal) → unknown s ≡ false → bad s ≡ true → r ≡ refusal_of_code BAD_COLUMNS → Makes free t (updated t sets when) (Err r)
    second_refused r f h e = makes_past free t (unknown own) (refusal_of_code NO_COLUMN) after_names (Err r) (ap unknown (sym is) ∙ f) (makes_refused free t (bad own) (refusal_of_code BAD_COLUMNS) r after_columns (ap bad (sym is) ∙ h) e)

    pub third_refused : (r : Refusal) → unknown s ≡ false → bad s ≡ false → mixed s ≡ true → r ≡ refusal_of_code WRONG_TYPE → Makes free t (updated t sets when) (Err r)
    third_refused r f g h e = makes_past free t (unknown own) (refusal_of_code NO_COLUMN) after_names (Err r) (ap unknown (sym is) ∙ f) (makes_past free t (bad own) (refusal_of_code BAD_COLUMNS) after_columns (Err r) (ap bad (sym is) ∙ g) (makes_refused free t (mixed own) (refusal_of_code WRONG_TYPE) r (made own) (ap mixed (sym is) ∙ h) e))

    pub all_past : (x : Result Change Refusal) → unknown s ≡ false → bad s ≡ false → mixed s ≡ false → Makes free t (made s) x → Makes free t (updated t sets when) x
    all_past x f g h p =
        makes_past free t (unknown own) (refusal_of_code NO_COLUMN) after_names x (ap unknown (sym is) ∙ f) (makes_past free t (bad own) (refusal_of_code BAD_COLUMNS) after_columns x (ap bad (sym is) ∙ g) (makes_past free t (mixed own) (refusal_of_code WRONG_TYPE) (made own) x (ap mixed (sym is) ∙ h) (subst (λ s. Makes free t (made s) x) is p)))

    pub keeps_key : bad s ≡ false → KeepsKey t.schema.key (map (assignment_of s) sets)
    keeps_key g = record { same = λ row. key_assigned t.schema.table t.schema.columns t.schema.key s sets row row (or_parts (sets_twice sets) (list_any (sets_key s t.schema.key) sets) g).1 }
