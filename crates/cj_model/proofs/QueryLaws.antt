-- An answer has a column, and not too many.
use Rattle.std.proofs.Common.{◌≡◌, ℕ, suc, ◌+◌, ◌*◌, ◌<◌, ◌≤◌, Bool, true, false, ◌||◌, List, [], ◌∷◌, length, map, refl, ap, ◌∙◌, subst, arith}
use Rattle.std.specs.Prelude.{All, IfOk, IfSome, filter, is_none, option_map}
use Rattle.std.specs.declared.option.Option.{Option}
use Rattle.std.specs.declared.option.Option.TheVariants.{None, Some}
use Rattle.std.specs.declared.result.Result.{Result}
use Rattle.std.specs.declared.result.Result.TheVariants.{Ok, Err}
use Rattle.std.proofs.lemmas.Bool.{or_parts}
use Rattle.std.proofs.lemmas.List.{length-map, length-append}
use Rattle.cj_model.proofs.Common.{All-cons, All-head, All-nil, All-tail, Answer, Column, Items, Refusal, Schema, Select, Slot, Table, Value, cons_option, list_any, refusal_of_code, refuse_if}
use Rattle.cj_model.specs.declared.select.Items.TheVariants.{All as Whole, Listed}
use Rattle.cj_model.specs.declared.answer.Asked.TheVariants.{Rows}
use Rattle.cj_model.specs.declared.codes.TheConstants.{NO_TABLE, NO_COLUMN, BAD_COLUMNS, OVERFLOW, WRONG_TYPE}
use Rattle.cj_model.specs.declared.limits.TheConstants.{ANSWER_LIMIT, COLUMN_LIMIT, ITEM_LIMIT, TABLE_LIMIT}
use Rattle.cj_model.specs.Database.Tables.{IsTable, IsSlot, IsDatabase, slot_of}
use Rattle.cj_model.specs.Database.Steps.{seen}
use Rattle.cj_model.specs.Database.Scopes.{Scope, scope_of, is_unknown_column, where_has_unknown_column, where_mixes_kinds, predicate_of}
use Rattle.cj_model.specs.Database.Evaluation.{satisfies}
use Rattle.cj_model.specs.Database.Order.{product}
use Rattle.cj_model.specs.Database.Queries.{items_listed, columns_named, has_bad_columns, sums_text, groups_answered, answer_row, is_sum_out_of_range, names_answered, name_of_item, answer_of, answer_over, tables_seen, asked_by, ask}
use Rattle.cj_model.proofs.DatabaseLaws.{found_is_slot, seen_is_table}
use Rattle.cj_model.proofs.TableLaws.{unless_IfOk}

-- what SQL can ask for: some tables and `*` or some items, not too many
abbrev pub HasItems : Items → Type 0
HasItems Whole = Unit {0}
HasItems (Listed items) = (0 < length items) × (length items ≤ ITEM_LIMIT)

pub record IsAskable (s : Select) : Type 0 where
  pub some : 0 < length s.tables
  pub few : length s.tables ≤ TABLE_LIMIT
  pub items : HasItems s.items

pub record HasColumns (a : Answer) : Type 0 where
  pub some : 0 < length a.columns
  pub few : length a.columns ≤ ANSWER_LIMIT

-- ---- columns of tables

abbrev schemas : List Table → List Schema
schemas ts = map (λ (t : Table). t.schema) ts

width-cons : (t : Table) (ts : List Table) → length (scope_of (schemas (t ∷ ts))) ≡ length t.schema.columns + length (scope_of (schemas ts))
width-cons t ts = length-append (map (λ (c : Column). (t.schema.table, c)) t.schema.columns) (scope_of (schemas ts)) ∙ ap (λ n. n + length (scope_of (schemas ts))) (length-map t.schema.columns (λ (c : Column). (t.schema.table, c)))

-- each table has not too many columns
columns_few : (ts : List Table) → All IsTable ts → length (scope_of (schemas ts)) ≤ length ts * COLUMN_LIMIT
columns_few [] a = omega arith
columns_few (t ∷ ts) a = omega (arith, width-cons t ts, columns_few ts (All-tail IsTable t ts a), (All-head IsTable t ts a).few)

columns_some : (ts : List Table) → All IsTable ts → 0 < length ts → 0 < length (scope_of (schemas ts))
columns_some [] a h = absurd (omega (arith, h))
columns_some (t ∷ ts) a h = omega (arith, width-cons t ts, (All-head IsTable t ts a).key)

-- ---- answers

module _ (ts : List Table) (tables : All IsTable ts) (some : 0 < length ts) (few : length ts ≤ TABLE_LIMIT) where
  abbrev scope : Scope
  scope = scope_of (schemas ts)

  names_some : (items : Items) → HasItems items → 0 < length (names_answered scope items)
  names_some Whole h = omega (arith, length-map scope (λ (c : List ℕ × Column). c.1.name), columns_some ts tables some)
  names_some (Listed items) h = omega (arith, length-map items name_of_item, h.0)

  names_few : (items : Items) → HasItems items → length (names_answered scope items) ≤ ANSWER_LIMIT
  names_few Whole h = omega (arith, length-map scope (λ (c : List ℕ × Column). c.1.name), columns_few ts tables, few)
  names_few (Listed items) h = omega (arith, length-map items name_of_item, h.1)

  answer_holds : (s : Select) (groups : List (List (List Value))) → HasItems s.items → IfOk (answer_of scope s groups) HasColumns
  answer_holds s groups h = by (list_any (λ g. list_any (is_sum_out_of_range scope g) (items_listed s.items)) groups)
    where
      by : (b : Bool) → IfOk (refuse_if b (refusal_of_code OVERFLOW) (Ok (record { columns = names_answered scope s.items; rows = map (answer_row scope s.items) groups }))) HasColumns
      by true = tt
      by false = record { some = names_some s.items h; few = names_few s.items h }

  pub answered_holds : (s : Select) → HasItems s.items → IfOk (answer_over ts s) HasColumns
  answered_holds s h =
      let rows = filter (satisfies (option_map (predicate_of scope) s.cond)) (product (map (λ (t : Table). t.rows) ts)) in
      let given : Result Answer Refusal = answer_of scope s (groups_answered scope s rows) in
      let mixed : Bool = where_mixes_kinds scope s.cond || list_any (sums_text scope) (items_listed s.items) in
      let unknown : Bool = list_any (is_unknown_column scope) (columns_named s) || where_has_unknown_column scope s.cond in
      unless_IfOk HasColumns unknown (refusal_of_code NO_COLUMN) (refuse_if (has_bad_columns scope s.items s.order s.group) (refusal_of_code BAD_COLUMNS) (refuse_if mixed (refusal_of_code WRONG_TYPE) given)) (λ known.
      unless_IfOk HasColumns (has_bad_columns scope s.items s.order s.group) (refusal_of_code BAD_COLUMNS) (refuse_if mixed (refusal_of_code WRONG_TYPE) given) (λ good.
      unless_IfOk HasColumns mixed (refusal_of_code WRONG_TYPE) given (λ even. answer_holds s (groups_answered scope s rows) h)))

-- ---- the tables that are seen

module _ (db : List Slot) (tx : ℕ) (is : IsDatabase db) where
  -- they are tables
  with_one : (ts : List Table) (o : Option Slot) → IfSome o IsSlot → All IsTable ts → All IsTable (cons_option (option_map (λ s. seen s tx) o) ts)
  with_one ts None h a = a
  with_one ts (Some s) h a = All-cons IsTable (seen s tx) ts (seen_is_table s tx h) a

  seen_tables : (names : List (List ℕ)) → All IsTable (tables_seen db tx names)
  seen_tables [] = All-nil IsTable
  seen_tables (n ∷ names) = with_one (tables_seen db tx names) (slot_of db n) (found_is_slot db n is) (seen_tables names)

  -- one for each name, where none is missing
  one_more : (ts : List Table) (o : Option Slot) (n : ℕ) → is_none o ≡ false → length ts ≡ n → length (cons_option (option_map (λ s. seen s tx) o) ts) ≡ suc n
  one_more ts None n h e = cc h
  one_more ts (Some s) n h e = ap (λ k. suc k) e

  seen_each : (names : List (List ℕ)) → list_any (λ n. is_none (slot_of db n)) names ≡ false → length (tables_seen db tx names) ≡ length names
  seen_each [] h = refl
  seen_each (n ∷ names) h =
      let parts = or_parts (is_none (slot_of db n)) (list_any (λ m. is_none (slot_of db m)) names) h in
      one_more (tables_seen db tx names) (slot_of db n) (length names) parts.0 (seen_each names parts.1)

  asked_holds : (r : Result Answer Refusal) (a : Answer) → IfOk r HasColumns → asked_by r ≡ Rows a → HasColumns a
  asked_holds (Ok x) a h e = subst HasColumns (rows_are x a e) h where
    rows_are : (x a : Answer) → Rows x ≡ Rows a → x ≡ a
    rows_are x a e = cc e
  asked_holds (Err r) a h e = cc e

  -- any answer
  pub ask_has_columns : (s : Select) (a : Answer) → IsAskable s → ask db tx s ≡ Rows a → HasColumns a
  ask_has_columns s a may e =
      let missing : Bool = list_any (λ n. is_none (slot_of db n)) s.tables in
      let ts : List Table = tables_seen db tx s.tables in
      asked_holds (refuse_if missing (refusal_of_code NO_TABLE) (answer_over ts s)) a
      (unless_IfOk HasColumns missing (refusal_of_code NO_TABLE) (answer_over ts s) (λ there.
      let count : length ts ≡ length s.tables = seen_each s.tables there in
      answered_holds ts (seen_tables s.tables) (omega (arith, count, may.some)) (omega (arith, count, may.few)) s may.items)) e
