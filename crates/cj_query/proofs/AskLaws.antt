-- The tables that a query names, and its first refusal.
use Rattle.std.proofs.Common.{◌≡◌, ℕ, ◌+◌, ◌<◌, ◌≤◌, Bool, true, false, ◌||◌, cond, List, [], ◌∷◌, ◌++◌, length, map, take, get_or, refl, ap, sym, ◌∙◌, arith}
use Rattle.std.specs.Prelude.{filter_map, option_map, is_none}
use Rattle.std.specs.List.{list_any, cons_option}
use Rattle.std.specs.declared.option.Option.{Option}
use Rattle.std.specs.declared.option.Option.TheVariants.{None, Some}
use Rattle.std.proofs.lemmas.List.Elements.{filter_map-append}
use Rattle.cj_query.proofs.Common.{answer_from, code_of, Column, Err, is_unknown_column, predicate_of, product, Refusal, refusal_of_code, refuse_if, Refused, Result, scope_of, Select, slot_of, Table, tables_named, take_more, where_has_unknown_column, where_mixes_kinds}
use Rattle.cj_model.specs.declared.database.Slot.{Slot}
use Rattle.cj_model.specs.declared.codes.TheConstants.{NO_TABLE, NO_COLUMN, BAD_COLUMNS, WRONG_TYPE}
use Rattle.cj_model.specs.Database.Queries.{answer_over, ask, asked_by, columns_named, has_bad_columns, items_listed, sums_text, tables_seen}
use Rattle.cj_model.specs.Database.Steps.{seen}
use Rattle.cj_query.proofs.JoinLaws.{product_one}
use Rattle.cj_query.proofs.MapLaws.{map_itself}
use Rattle.cj_query.proofs.WalkLaws.{none_next}

-- ---- tables

filter_map_end : {X Y : Type 0} (f : X → Option Y) (xs : List X) (x : X) (y : Y) → f x ≡ Some y → filter_map f (xs ++ x ∷ []) ≡ filter_map f xs ++ y ∷ []
filter_map_end f xs x y e = filter_map-append f xs (x ∷ []) ∙ ap (λ o. filter_map f xs ++ cons_option o []) e

none_of : {X Y : Type 0} (f : X → Y) (o : Option X) (y : Y) → Some y ≡ option_map f o → is_none o ≡ false
none_of f None y e = cc e
none_of f (Some x) y e = refl

-- one more table that is there
module _ (db : List Slot) (tx : ℕ) (names : List (List ℕ)) (i : ℕ) (name : List ℕ) (view : Table) (lt : i < length names) (is : name ≡ get_or names i name) (there : Some view ≡ option_map (λ s. seen s tx) (slot_of db name)) where
  pub named_next : list_any (λ n. is_none (slot_of db n)) (take i names) ≡ false → list_any (λ n. is_none (slot_of db n)) (take (i + 1) names) ≡ false
  named_next all =
      ap (list_any (λ n. is_none (slot_of db n))) (sym (map_itself (take (i + 1) names)))
      ∙ none_next (λ n. n) (λ n. is_none (slot_of db n)) names i name lt is (ap (list_any (λ n. is_none (slot_of db n))) (map_itself (take i names)) ∙ all) (none_of (λ s. seen s tx) (slot_of db name) view there)

  pub seen_next : (out new : List Table) → out ≡ tables_seen db tx (take i names) → new ≡ out ++ view ∷ [] → new ≡ tables_seen db tx (take (i + 1) names)
  seen_next out new so_far more =
      more ∙ ap (λ l. l ++ view ∷ []) so_far
      ∙ sym (ap (tables_seen db tx) (take_more names i name lt ∙ ap (λ n. take i names ++ n ∷ []) (sym is))
      ∙ filter_map_end (λ n. option_map (λ s. seen s tx) (slot_of db n)) (take i names) name view (sym there))

-- a table alone
pub one_table : (views : List Table) (view : Table) → 1 ≤ length views → length views < 2 → view ≡ get_or views 0 view → view.rows ≡ product (map (λ (t : Table). t.rows) views)
one_table [] view some one is = absurd (omega (arith, some))
one_table (t ∷ []) view some one is = ap (λ (t : Table). t.rows) is ∙ sym (product_one t.rows)
one_table (t ∷ u ∷ us) view some one is = absurd (omega (arith, one))

-- ---- refusals

module _ {A : Type 0} (a b c : Bool) (rest : Result A Refusal) where
  abbrev first_code : Option ℕ
  first_code = cond a (Some NO_COLUMN) (cond b (Some BAD_COLUMNS) (cond c (Some WRONG_TYPE) None))

  abbrev in_turn : Result A Refusal
  in_turn = refuse_if a (refusal_of_code NO_COLUMN) (refuse_if b (refusal_of_code BAD_COLUMNS) (refuse_if c (refusal_of_code WRONG_TYPE) rest))

the_code : (n m : ℕ) → ◌≡◌ {A = Option ℕ} (Some n) (Some m) → m ≡ n
the_code n m e = sym (ap (λ o. elim o [ None ↦ n | Some k ↦ k ]) e)

refused_first : {A : Type 0} (a b c : Bool) (rest : Result A Refusal) (code : ℕ) → Some code ≡ first_code a b c rest → in_turn a b c rest ≡ Err (refusal_of_code code)
refused_first true b c rest code e = ap (λ n. Err (refusal_of_code n)) (the_code code NO_COLUMN e)
refused_first false true c rest code e = ap (λ n. Err (refusal_of_code n)) (the_code code BAD_COLUMNS e)
refused_first false false true rest code e = ap (λ n. Err (refusal_of_code n)) (the_code code WRONG_TYPE e)
refused_first false false false rest code e = cc e

accepted : {A : Type 0} (a b c : Bool) (rest : Result A Refusal) → None ≡ first_code a b c rest → in_turn a b c rest ≡ rest
accepted true b c rest e = cc e
accepted false true c rest e = cc e
accepted false false true rest e = cc e
accepted false false false rest e = refl

module _ (tables : List Table) (s : Select) where
  abbrev scope : List (List ℕ × Column)
  scope = scope_of (map (λ (t : Table). t.schema) tables)

  pub refused_is : (code : ℕ) → Some code ≡ code_of scope s → Refused (refusal_of_code code) ≡ asked_by (answer_over tables s)
  refused_is code e = sym (ap asked_by (refused_first (list_any (is_unknown_column scope) (columns_named s) || where_has_unknown_column scope s.cond) (has_bad_columns scope s.items s.order s.group) (where_mixes_kinds scope s.cond || list_any (sums_text scope) (items_listed s.items)) _ code e))

  pub accepted_is : None ≡ code_of scope s → answer_from scope s (option_map (predicate_of scope) s.cond) (product (map (λ (t : Table). t.rows) tables)) ≡ asked_by (answer_over tables s)
  accepted_is e = sym (ap asked_by (accepted (list_any (is_unknown_column scope) (columns_named s) || where_has_unknown_column scope s.cond) (has_bad_columns scope s.items s.order s.group) (where_mixes_kinds scope s.cond || list_any (sums_text scope) (items_listed s.items)) _ e))

-- ---- the whole

named_cases : (b : Bool) (s : Select) (tables : List Table) (o : Option (List Table)) → o ≡ cond b None (Some tables) → (v : List Table) → o ≡ Some v → asked_by (answer_over v s) ≡ asked_by (refuse_if b (refusal_of_code NO_TABLE) (answer_over tables s))
named_cases true s tables o e v f = cc (sym e ∙ f)
named_cases false s tables o e v f = ap (λ t. asked_by (answer_over t s)) (ap (λ o. elim o [ None ↦ v | Some t ↦ t ]) (sym f ∙ e))

pub asked_is : (db : List Slot) (tx : ℕ) (s : Select) (v : List Table) → Some v ≡ tables_named db tx s.tables → asked_by (answer_over v s) ≡ ask db tx s
asked_is db tx s v e = named_cases (list_any (λ n. is_none (slot_of db n)) s.tables) s (tables_seen db tx s.tables) (tables_named db tx s.tables) refl v (sym e)
