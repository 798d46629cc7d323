-- The rows of an answer have a value for each of its columns.
use Rattle.std.proofs.Common.{◌≡◌, ℕ, suc, ◌+◌, Bool, true, false, cond, ◌||◌, List, [], ◌∷◌, ◌++◌, length, map, refl, ap, sym, ◌∙◌, subst, length-append, take, get_or, ◌<◌}
use Rattle.std.specs.Prelude.{All, IfOk, filter, flat_map, option_map}
use Rattle.std.specs.declared.option.Option.{Option}
use Rattle.std.specs.declared.option.Option.TheVariants.{None, Some}
use Rattle.cj_query.proofs.Common.{All-append, All-cons, All-filter, All-head, All-map, All-nil, All-tail, All-take, All-weaker, and_parts, answer_of, answer_over, answer_row, Asked, asked_by, at_most, BAD_COLUMNS, ColRef, Column, columns_named, Err, first_row, gathered, groups_answered, has_bad_columns, insert_before, is_sum_out_of_range, is_unknown_column, Item, item_value, Items, items_listed, length-map, list_any, names_answered, NO_COLUMN, Ok, OVERFLOW, predicate_of, product, Refusal, refusal_of_code, refuse_if, Result, satisfies, Schema, Scope, scope_of, Select, sort_key_of, sorted_by, sorts_before, sums_text, Table, take_more, Value, where_has_unknown_column, where_mixes_kinds, WRONG_TYPE}
use Rattle.cj_model.specs.declared.select.Items.TheVariants as select_items
use Rattle.cj_model.specs.declared.answer.Answer.{Answer}
use Rattle.cj_model.specs.Database.Values.{kind_of}
use Rattle.cj_model.specs.declared.memory.NoMemory.{NoMemory}
use Rattle.cj_model.specs.Database.Tables.{IsTable, fits_columns, same_kind}
use Rattle.cj_query.specs.Even.{HasEvenRows}

-- ---- rows of tables

abbrev pub IsWide : ℕ → List Value → Type 0
IsWide n row = length row ≡ n

fits_width : (cs : List Column) (row : List Value) → fits_columns cs row ≡ true → length row ≡ length cs
fits_width [] [] h = refl
fits_width [] (v ∷ vs) h = cc h
fits_width (c ∷ cs) [] h = cc h
fits_width (c ∷ cs) (v ∷ vs) h = ap suc (fits_width cs vs (and_parts (same_kind c.kind (kind_of v)) (fits_columns cs vs) h).1)

pub table_wide : (t : Table) → IsTable t → All (IsWide (length t.schema.columns)) t.rows
table_wide t is = All-weaker (λ row. fits_columns t.schema.columns row ≡ true) (IsWide (length t.schema.columns)) (fits_width t.schema.columns) t.rows is.kinds

-- each row of a table has a value for each column
pub wide_rows : (t : Table) → IsTable t → (n : ℕ) → n < length t.schema.columns → All (λ row. n < length row) t.rows
wide_rows t is n within = All-weaker (λ row. fits_columns t.schema.columns row ≡ true) (λ row. n < length row) (λ row h. subst (λ m. n < m) (sym (fits_width t.schema.columns row h)) within) t.rows is.kinds

-- and so a key
pub keyed_rows : (t : Table) → IsTable t → All (λ row. t.schema.key < length row) t.rows
keyed_rows t is = wide_rows t is t.schema.key is.key

beside_wide : (n m : ℕ) (row : List Value) (rows : List (List Value)) → length row ≡ n → All (IsWide m) rows → All (IsWide (n + m)) (map (λ s. row ++ s) rows)
beside_wide n m row [] e a = All-nil (IsWide (n + m))
beside_wide n m row (s ∷ rows) e a = All-cons (IsWide (n + m)) (row ++ s) (map (λ s. row ++ s) rows)
    (length-append row s ∙ ap (λ k. k + length s) e ∙ ap (λ k. n + k) (All-head (IsWide m) s rows a))
    (beside_wide n m row rows e (All-tail (IsWide m) s rows a))

product_wide : (n m : ℕ) (rows rest : List (List Value)) → All (IsWide n) rows → All (IsWide m) rest → All (IsWide (n + m)) (flat_map (λ r. map (λ s. r ++ s) rest) rows)
product_wide n m [] rest a b = All-nil (IsWide (n + m))
product_wide n m (r ∷ rows) rest a b = All-append (IsWide (n + m)) (map (λ s. r ++ s) rest) (flat_map (λ r. map (λ s. r ++ s) rest) rows)
    (beside_wide n m r rest (All-head (IsWide n) r rows a) b)
    (product_wide n m rows rest (All-tail (IsWide n) r rows a) b)

abbrev schemas_in : List Table → List Schema
schemas_in tables = map (λ (t : Table). t.schema) tables

joined_wide : (tables : List Table) → All IsTable tables → All (IsWide (length (scope_of (schemas_in tables)))) (product (map (λ (t : Table). t.rows) tables))
joined_wide [] a = All-cons (IsWide 0) [] [] refl (All-nil (IsWide 0))
joined_wide (t ∷ ts) a =
    let rows : All (IsWide (length t.schema.columns)) t.rows = All-weaker (λ row. fits_columns t.schema.columns row ≡ true) (IsWide (length t.schema.columns)) (fits_width t.schema.columns) t.rows (All-head IsTable t ts a).kinds in
    let width : length t.schema.columns + length (scope_of (schemas_in ts)) ≡ length (scope_of (schemas_in (t ∷ ts)))
    = ap (λ n. n + length (scope_of (schemas_in ts))) (sym (length-map t.schema.columns (λ (c : Column). (t.schema.table, c))))
    ∙ sym (length-append (map (λ (c : Column). (t.schema.table, c)) t.schema.columns) (scope_of (schemas_in ts))) in
    subst (λ n. All (IsWide n) (product (map (λ (t : Table). t.rows) (t ∷ ts)))) width
    (product_wide (length t.schema.columns) (length (scope_of (schemas_in ts))) t.rows (product (map (λ (t : Table). t.rows) ts)) rows (joined_wide ts (All-tail IsTable t ts a)))

-- ---- groups

pub All-put_before : {X : Type 0} (P : X → Type 0) (lt : X → X → Bool) (x : X) (ys : List X) → P x → All P ys → All P (insert_before lt x ys)
All-put_before P lt x [] p a = All-cons P x [] p a
All-put_before P lt x (y ∷ ys) p a = elim (lt y x) as (λ b. All P (cond b (y ∷ insert_before lt x ys) (x ∷ y ∷ ys))) [
  | true ↦ All-cons P y (insert_before lt x ys) (All-head P y ys a) (All-put_before P lt x ys p (All-tail P y ys a))
  | false ↦ All-cons P x (y ∷ ys) p a
]

pub All-ordered : {X : Type 0} (P : X → Type 0) (lt : X → X → Bool) (xs : List X) → All P xs → All P (sorted_by lt xs)
All-ordered P lt [] a = a
All-ordered P lt (x ∷ xs) a = All-put_before P lt x (sorted_by lt xs) (All-head P x xs a) (All-ordered P lt xs (All-tail P x xs a))

All-cut : {X : Type 0} (P : X → Type 0) (limit : Option ℕ) (xs : List X) → All P xs → All P (at_most limit xs)
All-cut P None xs a = a
All-cut P (Some n) xs a = All-take P n xs a

-- what holds of any
pub always : {X : Type 0} (P : X → Type 0) → ((x : X) → P x) → (xs : List X) → All P xs
always P h [] = All-nil P
always P h (x ∷ xs) = All-cons P x xs (h x) (always P h xs)

-- ---- answers

module _ (scope : Scope) (s : Select) where
  abbrev columns : List (List ℕ)
  columns = names_answered scope s.items

  abbrev IsEvenRow : List Value → Type 0
  IsEvenRow row = length row ≡ length columns

  -- the rows that are made of groups are even
  abbrev MakesEven : List (List (List Value)) → Type 0
  MakesEven groups = All IsEvenRow (map (answer_row scope s.items) groups)

  answer_even : (groups : List (List (List Value))) (b : Bool) (refusal : Refusal) → MakesEven groups → HasEvenRows (asked_by (refuse_if b refusal (Ok (record { columns = columns; rows = map (answer_row scope s.items) groups }))))
  answer_even groups true refusal a = tt
  answer_even groups false refusal a = a

even_listed : (scope : Scope) (items : List Item) (groups : List (List (List Value))) → All (λ row. length row ≡ length (names_answered scope (select_items.Listed items))) (map (answer_row scope (select_items.Listed items)) groups)
even_listed scope items groups = All-map (λ (row : List Value). length row ≡ length (names_answered scope (select_items.Listed items))) (answer_row scope (select_items.Listed items)) groups
    (always (λ g. length (answer_row scope (select_items.Listed items) g) ≡ length (names_answered scope (select_items.Listed items))) (λ g. length-map items (item_value scope g) ∙ sym (length-map items _)) groups)

even_all : (scope : Scope) (limit : Option ℕ) (lt : List (List Value) → List (List Value) → Bool) (rows : List (List Value)) → All (IsWide (length scope)) rows → All (λ row. length row ≡ length (names_answered scope select_items.All)) (map (answer_row scope select_items.All) (at_most limit (sorted_by lt (map (λ r. r ∷ []) rows))))
even_all scope limit lt rows a =
    let P : List (List Value) → Type 0 = λ g. length (first_row g) ≡ length (names_answered scope select_items.All) in
    All-map (λ (row : List Value). length row ≡ length (names_answered scope select_items.All)) (answer_row scope select_items.All) (at_most limit (sorted_by lt (map (λ r. r ∷ []) rows)))
    (All-cut P limit (sorted_by lt (map (λ r. r ∷ []) rows)) (All-ordered P lt (map (λ r. r ∷ []) rows) (All-map P (λ r. r ∷ []) rows
    (All-weaker (IsWide (length scope)) (λ r. length r ≡ length (names_answered scope select_items.All)) (λ r e. e ∙ sym (length-map scope _)) rows a))))

refused_even : (b : Bool) (refusal : Refusal) (r : Result Answer Refusal) → (b ≡ false → HasEvenRows (asked_by r)) → HasEvenRows (asked_by (refuse_if b refusal r))
refused_even true refusal r h = tt
refused_even false refusal r h = h refl

-- whatever the items and the group are
groups_even : (scope : Scope) (s : Select) (items : Items) (group : Option ColRef) (rows : List (List Value)) (lt : List (List Value) → List (List Value) → Bool) → All (IsWide (length scope)) rows → has_bad_columns scope items s.order group ≡ false → All (λ row. length row ≡ length (names_answered scope items)) (map (answer_row scope items) (at_most s.limit (sorted_by lt (gathered scope items group rows))))
groups_even scope s select_items.All None rows lt a ok = even_all scope s.limit lt rows a
groups_even scope s select_items.All (Some group) rows lt a ok = cc ok
groups_even scope s (select_items.Listed items) group rows lt a ok = even_listed scope items (at_most s.limit (sorted_by lt (gathered scope (select_items.Listed items) group rows)))

pub answered_even : (tables : List Table) (s : Select) → All IsTable tables → HasEvenRows (asked_by (answer_over tables s))
answered_even tables s legal =
    let scope = scope_of (schemas_in tables) in
    let rows = filter (satisfies (option_map (predicate_of scope) s.cond)) (product (map (λ (t : Table). t.rows) tables)) in
    let wide : All (IsWide (length scope)) rows = All-filter (satisfies (option_map (predicate_of scope) s.cond)) (IsWide (length scope)) (product (map (λ (t : Table). t.rows) tables)) (joined_wide tables legal) in
    let groups = groups_answered scope s rows in
    let last : Result Answer Refusal = answer_of scope s groups in
    let mixes = where_mixes_kinds scope s.cond || list_any (sums_text scope) (items_listed s.items) in
    let bad = has_bad_columns scope s.items s.order s.group in
    refused_even (list_any (is_unknown_column scope) (columns_named s) || where_has_unknown_column scope s.cond) (refusal_of_code NO_COLUMN) (refuse_if bad (refusal_of_code BAD_COLUMNS) (refuse_if mixes (refusal_of_code WRONG_TYPE) last)) (λ known.
    refused_even bad (refusal_of_code BAD_COLUMNS) (refuse_if mixes (refusal_of_code WRONG_TYPE) last) (λ good.
    refused_even mixes (refusal_of_code WRONG_TYPE) last (λ kinds.
    answer_even scope s groups (list_any (λ g. list_any (is_sum_out_of_range scope g) (items_listed s.items)) groups) (refusal_of_code OVERFLOW) (groups_even scope s s.items s.group rows (λ g h. sorts_before (map (sort_key_of scope) s.order) (first_row g) (first_row h)) wide good))))

-- an answer of which it is known what it is
pub known_even : (r : Result Asked NoMemory) (x : Asked) → IfOk r (λ asked. asked ≡ x) → HasEvenRows x → IfOk r HasEvenRows
known_even (Ok asked) x e h = subst HasEvenRows (sym e) h
known_even (Err error) x e h = tt

-- ---- a walk that looks at each table

pub legal_next : (views : List Table) (i : ℕ) (view : Table) → i < length views → view ≡ get_or views i view → All IsTable (take i views) → IsTable view → All IsTable (take (i + 1) views)
legal_next views i view lt is a h = subst (All IsTable) (sym (take_more views i view lt ∙ ap (λ v. take i views ++ v ∷ []) (sym is))) (All-append IsTable (take i views) (view ∷ []) a (All-cons IsTable view [] h (All-nil IsTable)))
