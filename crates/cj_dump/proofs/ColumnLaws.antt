-- Columns that fit their layout: free names, of which none stands twice.
use Rattle.std.proofs.Common.{◌≡◌, ℕ, ◌≤◌, ◌<◌, Bool, true, false, ◌||◌, not, List, [], ◌∷◌, ◌++◌, length, refl, sym, ap, ◌∙◌, arith, nat_le}
use Rattle.std.specs.List.{list_any}
use Rattle.std.specs.Str.{bytes_eq}
use Rattle.std.proofs.lemmas.Bool.{and_parts, and_from, not-true, leb-true, le-leb, ltb-true, lt-ltb}
use Rattle.std.proofs.lemmas.Slice.Eq.{bytes_eq-Decides}
use Rattle.cj_dump.proofs.Common.{All, All-cons, All-head, All-nil, All-tail, Column, None, Option, Schema, Some, fields_hold, is_some, listed_fits}
use Rattle.cj_model.specs.declared.limits.TheConstants.{COLUMN_LIMIT}
use Rattle.cj_model.specs.declared.token.Keyword.{Keyword}
use Rattle.cj_model.specs.declared.value.Kind.{Kind}
use Rattle.cj_model.specs.declared.value.Kind.TheVariants as kinds
use Rattle.cj_model.specs.Database.Storable.{IsFreeName}
use Rattle.cj_model.specs.Database.Tables.{column_names, is_distinct}
use Rattle.cj_model.specs.Sql.Lexical.{keyword}
use Rattle.cj_dump.specs.DumpLayout.{is_free, is_named, free_name, kind, column, rises_above, schema}

-- ---- names

none_of : (o : Option Keyword) → not (is_some o) ≡ true → o ≡ None
none_of None e = refl
none_of (Some k) e = absurd cc

free_is : (n : List ℕ) → is_free n ≡ true → keyword n ≡ None
free_is n e = none_of (keyword n) e

is_free_if : (n : List ℕ) → keyword n ≡ None → is_free n ≡ true
is_free_if n e = ap (λ (o : Option Keyword). not (is_some o)) e

free_to : (n : List ℕ) → free_name.fits n → IsFreeName n
free_to n h = ((fields_hold.of_name n).0 h.0, free_is n h.1)

free_from : (n : List ℕ) → IsFreeName n → free_name.fits n
free_from n h = ((fields_hold.of_name n).1 h.0, is_free_if n h.1)

-- ---- a column behind others

kind_fits : (k : Kind) → kind.fits k
kind_fits kinds.Integer = ((omega arith, refl), refl)
kind_fits kinds.Text = ((omega arith, refl), refl)

column_to : (before : List Column) (c : Column) → (column before).fits c → IsFreeName c.name × (is_named before c.name ≡ false)
column_to before c h =
    let tests = and_parts (is_free c.name) (not (is_named before c.name)) h.0.0.0.1 in
    (free_to c.name (h.0.0.0.0, tests.0), not-true (is_named before c.name) tests.1)

column_from : (before : List Column) (c : Column) → IsFreeName c.name → is_named before c.name ≡ false → (column before).fits c
column_from before c free e =
    let n = free_from c.name free in
    ((((n.0, and_from (is_free c.name) (not (is_named before c.name)) n.1 (ap not e)), refl), ((kind_fits c.kind, refl), refl)), refl)

-- ---- no name twice

neither : (p q : Bool) → (p || q) ≡ false → (p ≡ false) × (q ≡ false)
neither true q e = absurd cc
neither false q e = (refl, e)

none_either : (p q : Bool) → p ≡ false → q ≡ false → (p || q) ≡ false
none_either true q e f = absurd cc
none_either false q e f = f

either_second : (p q : Bool) → q ≡ true → (p || q) ≡ true
either_second true q e = refl
either_second false q e = e

fewer_named : (before : List Column) (x : Column) (n : List ℕ) → is_named (before ++ x ∷ []) n ≡ false → (is_named before n ≡ false) × (bytes_eq x.name n ≡ false)
fewer_named [] x n e = (refl, (neither (bytes_eq x.name n) false e).0)
fewer_named (b ∷ before) x n e =
    let t = neither (bytes_eq b.name n) (is_named (before ++ x ∷ []) n) e in
    let rest = fewer_named before x n t.1 in
    (none_either (bytes_eq b.name n) (is_named before n) t.0 rest.0, rest.1)

more_named : (before : List Column) (x : Column) (n : List ℕ) → is_named before n ≡ false → bytes_eq x.name n ≡ false → is_named (before ++ x ∷ []) n ≡ false
more_named [] x n e f = none_either (bytes_eq x.name n) false f refl
more_named (b ∷ before) x n e f =
    let t = neither (bytes_eq b.name n) (is_named before n) e in
    none_either (bytes_eq b.name n) (is_named (before ++ x ∷ []) n) t.0 (more_named before x n t.1 f)

not_later : (y : List ℕ) (before xs : List Column) → ((n : List ℕ) → is_named before n ≡ false → bytes_eq y n ≡ false) → listed_fits column before xs → list_any (bytes_eq y) (column_names xs) ≡ false
not_later y before [] seen fits = refl
not_later y before (x ∷ xs) seen fits =
    none_either (bytes_eq y x.name) (list_any (bytes_eq y) (column_names xs)) (seen x.name (column_to before x fits.0).1)
    (not_later y (before ++ x ∷ []) xs (λ n e. seen n (fewer_named before x n e).0) fits.1)

columns_to : (before xs : List Column) → listed_fits column before xs → All (λ (c : Column). IsFreeName c.name) xs × (is_distinct (column_names xs) ≡ true)
columns_to before [] fits = (All-nil (λ (c : Column). IsFreeName c.name), refl)
columns_to before (x ∷ xs) fits =
    let rest = columns_to (before ++ x ∷ []) xs fits.1 in
    let none = not_later x.name (before ++ x ∷ []) xs (λ n e. (fewer_named before x n e).1) fits.1 in
    (All-cons (λ (c : Column). IsFreeName c.name) x xs (column_to before x fits.0).0 rest.0, and_from (not (list_any (bytes_eq x.name) (column_names xs))) (is_distinct (column_names xs)) (ap not none) rest.1)

-- two names of which the second stands among names that the first doesn't are two
differ : (x n : List ℕ) (names : List (List ℕ)) (b : Bool) → bytes_eq x n ≡ b → list_any (bytes_eq x) names ≡ false → list_any (bytes_eq n) names ≡ true → bytes_eq x n ≡ false
differ x n names false is none some = is
differ x n names true is none some =
    let same : x ≡ n = (bytes_eq-Decides x n).0 is in
    let no : true ≡ false = sym some ∙ ap (λ (m : List ℕ). list_any (bytes_eq m) names) (sym same) ∙ none in
    absurd cc

columns_from : (before xs : List Column) → All (λ (c : Column). IsFreeName c.name) xs → is_distinct (column_names xs) ≡ true → ((n : List ℕ) → list_any (bytes_eq n) (column_names xs) ≡ true → is_named before n ≡ false) → listed_fits column before xs
columns_from before [] free distinct clear = tt
columns_from before (x ∷ xs) free distinct clear =
    let d = and_parts (not (list_any (bytes_eq x.name) (column_names xs))) (is_distinct (column_names xs)) distinct in
    let none = not-true (list_any (bytes_eq x.name) (column_names xs)) d.0 in
    let here : is_named before x.name ≡ false = clear x.name (rw ((bytes_eq-Decides x.name x.name).1 refl) refl) in (
      column_from before x (All-head (λ (c : Column). IsFreeName c.name) x xs free) here,
      columns_from (before ++ x ∷ []) xs (All-tail (λ (c : Column). IsFreeName c.name) x xs free) d.1
          (λ n e. more_named before x n (clear n (either_second (bytes_eq n x.name) (list_any (bytes_eq n) (column_names xs)) e)) (differ x.name n (column_names xs) (bytes_eq x.name n) refl none e)),
    )

-- ---- schemas

-- what holds of a schema that a dump has
pub record IsSchema (s : Schema) : Type 0 where
  pub table : IsFreeName s.table
  pub columns : All (λ (c : Column). IsFreeName c.name) s.columns
  pub few : length s.columns ≤ COLUMN_LIMIT
  pub distinct : is_distinct (column_names s.columns) ≡ true
  pub key : s.key < length s.columns

pub schema_to : (before : Option (List ℕ)) (s : Schema) → (schema before).fits s → IsSchema s × (rises_above before s.table ≡ true)
schema_to before s h =
    let cs = columns_to [] s.columns h.0.1.0.0.1.1 in
    let count = and_parts (nat_le 1 (length s.columns)) (nat_le (length s.columns) COLUMN_LIMIT) h.0.1.0.0.0.0.1 in (
      record {
        table = free_to s.table h.0.0.0;
        columns = cs.0;
        few = leb-true (length s.columns) COLUMN_LIMIT count.1;
        distinct = cs.1;
        key = ltb-true s.key (length s.columns) h.0.1.0.1.0.0.1;
      },
      h.0.0.1,
    )

pub schema_from : (before : Option (List ℕ)) (s : Schema) → IsSchema s → rises_above before s.table ≡ true → (schema before).fits s
schema_from before s is rises =
    let some : 1 ≤ length s.columns = omega (arith, is.key) in
    let small : length s.columns < 65536 = omega (arith, is.few) in
    let count = and_from (nat_le 1 (length s.columns)) (nat_le (length s.columns) COLUMN_LIMIT) (le-leb 1 (length s.columns) some) (le-leb (length s.columns) COLUMN_LIMIT is.few) in
    let cs = columns_from [] s.columns is.columns is.distinct (λ n e. refl) in
    (((free_from s.table is.table, rises), (((((small, count), refl), (refl, cs)), ((((omega (arith, is.key, small)), lt-ltb s.key (length s.columns) is.key), refl), refl)), refl)), refl)
