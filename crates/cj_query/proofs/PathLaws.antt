-- Where less than all rows are looked at, the answer is the same.
use Rattle.std.proofs.Common.{◌≡◌, ℕ, ◌≤◌, Bool, true, false, not, cond, eqb, List, [], ◌∷◌, ◌++◌, length, map, get_or, refl, ap, sym, ◌∙◌, Less, arith}
use Rattle.std.specs.Prelude.{All, is_none, reverse}
use Rattle.std.specs.declared.option.Option.{Option}
use Rattle.std.specs.declared.option.Option.TheVariants.{None, Some}
use Rattle.cj_query.proofs.Common.{All-cons, All-head, All-nil, All-tail, and_parts, at_most, by_key, by_sort_key, by_sort_keys, ColRef, column_place, cond-false, first_row, gathered, groups_answered, has_aggregate, is_lt, Key, nil_from_length, not-true, ordering_then, Rises, Scope, Select, sort_key_of, sorted_by, SortKey, sorts_before, Value}
use Rattle.cj_query.specs.Paths.{OrdersAs, answers_each, falls_by, follows_rows, is_falling_at, is_led_by, is_rising_at, follows_join, reverses_rows}
use Rattle.std.proofs.lemmas.Bool.{eqb-true}
use Rattle.cj_query.proofs.KeyLaws.{always_in_order}
use Rattle.cj_query.proofs.MapLaws.{cut-map}
use Rattle.cj_query.proofs.OrderLaws.{ordered-map}
use Rattle.cj_query.proofs.ReverseLaws.{IsFalling, map-reverse, ordered_falling}
use Rattle.cj_query.proofs.RiseLaws.{keys_ordered, rises_weaker}

-- ---- the order of the rows

pub led_by_first : (scope : Scope) (n : ℕ) (keys : List Key) (k : Key) → 1 ≤ length keys → k ≡ get_or keys 0 k → is_rising_at scope n k ≡ is_led_by scope n keys
led_by_first scope n [] k l is = absurd (omega (arith, l))
led_by_first scope n (x ∷ keys) k l is = ap (is_rising_at scope n) is

-- rows that rise at a place stand as they are by a key that rises there
pub orders_as : (n : ℕ) (front rest : List SortKey) (k : SortKey) → k.desc ≡ false → k.place ≡ n → OrdersAs n front (front ++ k ∷ rest)
orders_as n front rest k d p =
    let less : (r s : List Value) → by_key n r s ≡ Less → by_sort_keys (k ∷ rest) r s ≡ Less = λ r s l.
    ap (λ b. ordering_then (cond b (by_key k.place s r) (by_key k.place r s)) (by_sort_keys rest r s)) d
    ∙ ap (λ m. ordering_then (by_key m r s) (by_sort_keys rest r s)) p ∙ ap (λ o. ordering_then o (by_sort_keys rest r s)) l in
    record { at = λ rows r. sym (keys_ordered front (k ∷ rest) rows rows (record { at = λ f. refl }) (rises_weaker (by_key n) (by_sort_keys (k ∷ rest)) less rows r)) }

abbrev earlier : Scope → List Key → List (List Value) → List (List Value) → Bool
earlier scope keys g h = sorts_before (map (sort_key_of scope) keys) (first_row g) (first_row h)

abbrev alone : List (List Value) → List (List (List Value))
alone rows = map (λ r. r ∷ []) rows

ordered_alone : (scope : Scope) (n : ℕ) (keys : List Key) (rows : List (List Value)) → is_led_by scope n keys ≡ true → Rises (by_key n) rows → sorted_by (earlier scope keys) (alone rows) ≡ alone rows
ordered_alone scope n [] rows h r = always_in_order (alone rows)
ordered_alone scope n (k ∷ keys) rows h r =
    let parts = and_parts (not k.desc) (eqb (column_place scope k.col) n) h in
    sym (ordered-map (λ r. r ∷ []) (earlier scope (k ∷ keys)) rows)
    ∙ ap alone (sym ((orders_as n [] (map (sort_key_of scope) keys) (sort_key_of scope k) (not-true _ parts.0) (eqb-true _ n parts.1)).at rows r))
    ∙ ordered-map (λ r. r ∷ []) (earlier scope []) rows ∙ always_in_order (alone rows)

gathered_alone : (scope : Scope) (s : Select) (group : Option ColRef) (rows : List (List Value)) → is_none group ≡ true → has_aggregate s.items ≡ false → gathered scope s.items group rows ≡ map (λ r. r ∷ []) rows
gathered_alone scope s None rows g a = cond-false _ _ _ a
gathered_alone scope s (Some c) rows g a = cc g

each_alone : (scope : Scope) (s : Select) (rows : List (List Value)) → answers_each s ≡ true → gathered scope s.items s.group rows ≡ map (λ r. r ∷ []) rows
each_alone scope s rows h =
    let parts = and_parts (is_none s.group) (not (has_aggregate s.items)) h in
    gathered_alone scope s s.group rows parts.0 (not-true _ parts.1)

-- each row is answered by itself, in the order of the rows
pub groups_alone : (scope : Scope) (s : Select) (n : ℕ) (rows : List (List Value)) → follows_rows scope s n ≡ true → Rises (by_key n) rows → groups_answered scope s rows ≡ map (λ r. r ∷ []) (at_most s.limit rows)
groups_alone scope s n rows h r =
    let parts = and_parts (answers_each s) (is_led_by scope n s.order) h in
    ap (λ gs. at_most s.limit (sorted_by (earlier scope s.order) gs)) (each_alone scope s rows parts.0)
    ∙ ap (at_most s.limit) (ordered_alone scope n s.order rows parts.1 r)
    ∙ sym (cut-map (λ r. r ∷ []) s.limit rows)

-- each row is answered by itself, in the order of the keys
pub groups_ranked : (scope : Scope) (s : Select) (rows : List (List Value)) → answers_each s ≡ true → groups_answered scope s rows ≡ map (λ r. r ∷ []) (at_most s.limit (sorted_by (sorts_before (map (sort_key_of scope) s.order)) rows))
groups_ranked scope s rows h =
    ap (λ gs. at_most s.limit (sorted_by (earlier scope s.order) gs)) (each_alone scope s rows h)
    ∙ ap (at_most s.limit) (sym (ordered-map (λ r. r ∷ []) (earlier scope s.order) rows))
    ∙ sym (cut-map (λ r. r ∷ []) s.limit (sorted_by (sorts_before (map (sort_key_of scope) s.order)) rows))

-- ---- no keys

each_unordered : (scope : Scope) (s : Select) (rows : List (List Value)) → answers_each s ≡ true → s.order ≡ [] → groups_answered scope s rows ≡ alone (at_most s.limit rows)
each_unordered scope s rows h e =
    ap (λ gs. at_most s.limit (sorted_by (earlier scope s.order) gs)) (each_alone scope s rows h)
    ∙ ap (λ ks. at_most s.limit (sorted_by (earlier scope ks) (alone rows))) e
    ∙ ap (at_most s.limit) (always_in_order (alone rows))
    ∙ sym (cut-map (λ r. r ∷ []) s.limit rows)

no_keys : (n : ℕ) → eqb n 0 ≡ true → n ≡ 0
no_keys n h = grind arith

pub groups_joined : (scope : Scope) (s : Select) (rows : List (List Value)) → follows_join s ≡ true → groups_answered scope s rows ≡ map (λ r. r ∷ []) (at_most s.limit rows)
groups_joined scope s rows h =
    let parts = and_parts (answers_each s) (eqb (length s.order) 0) h in
    each_unordered scope s rows parts.0 (nil_from_length s.order (no_keys (length s.order) parts.1))

-- ---- the order of the rows, reversed

pub falls_by_first : (scope : Scope) (n : ℕ) (keys : List Key) (k : Key) → 1 ≤ length keys → k ≡ get_or keys 0 k → is_falling_at scope n k ≡ falls_by scope n keys
falls_by_first scope n [] k l is = absurd (omega (arith, l))
falls_by_first scope n (x ∷ keys) k l is = ap (is_falling_at scope n) is

-- a row above another is before it
before_below : (scope : Scope) (n : ℕ) (k : Key) (keys : List SortKey) (r s : List Value) → is_falling_at scope n k ≡ true → by_key n r s ≡ Less → sorts_before (sort_key_of scope k ∷ keys) s r ≡ true
before_below scope n k keys r s h l =
    let parts = and_parts k.desc (eqb (column_place scope k.col) n) h in
    let first : by_sort_key (sort_key_of scope k) s r ≡ Less
    = ap (λ b. cond b (by_key (column_place scope k.col) r s) (by_key (column_place scope k.col) s r)) parts.0
    ∙ ap (λ m. by_key m r s) (eqb-true (column_place scope k.col) n parts.1) ∙ l in
    ap (λ o. is_lt (ordering_then o (by_sort_keys keys s r))) first

all_before : (scope : Scope) (n : ℕ) (k : Key) (keys : List Key) (r : List Value) (rows : List (List Value)) → is_falling_at scope n k ≡ true → All (λ s. by_key n r s ≡ Less) rows → All (λ g. earlier scope (k ∷ keys) g (r ∷ []) ≡ true) (alone rows)
all_before scope n k keys r [] h a = All-nil (λ g. earlier scope (k ∷ keys) g (r ∷ []) ≡ true)
all_before scope n k keys r (s ∷ rows) h a = All-cons (λ g. earlier scope (k ∷ keys) g (r ∷ []) ≡ true) (s ∷ []) (alone rows)
    (before_below scope n k (map (sort_key_of scope) keys) r s h (All-head (λ s. by_key n r s ≡ Less) s rows a))
    (all_before scope n k keys r rows h (All-tail (λ s. by_key n r s ≡ Less) s rows a))

rows_fall : (scope : Scope) (n : ℕ) (k : Key) (keys : List Key) (rows : List (List Value)) → is_falling_at scope n k ≡ true → Rises (by_key n) rows → IsFalling (earlier scope (k ∷ keys)) (alone rows)
rows_fall scope n k keys [] h r = tt
rows_fall scope n k keys (row ∷ rows) h r = (all_before scope n k keys row rows h r.0, rows_fall scope n k keys rows h r.1)

ordered_back : (scope : Scope) (n : ℕ) (keys : List Key) (rows : List (List Value)) → falls_by scope n keys ≡ true → Rises (by_key n) rows → sorted_by (earlier scope keys) (alone rows) ≡ alone (reverse rows)
ordered_back scope n [] rows h r = cc h
ordered_back scope n (k ∷ keys) rows h r = ordered_falling (earlier scope (k ∷ keys)) (alone rows) (rows_fall scope n k keys rows h r) ∙ sym (map-reverse (λ r. r ∷ []) rows)

-- each row is answered by itself, from the last row to the first
pub groups_reversed : (scope : Scope) (s : Select) (n : ℕ) (rows : List (List Value)) → reverses_rows scope s n ≡ true → Rises (by_key n) rows → groups_answered scope s rows ≡ map (λ r. r ∷ []) (at_most s.limit (reverse rows))
groups_reversed scope s n rows h r =
    let parts = and_parts (answers_each s) (falls_by scope n s.order) h in
    ap (λ gs. at_most s.limit (sorted_by (earlier scope s.order) gs)) (each_alone scope s rows parts.0)
    ∙ ap (at_most s.limit) (ordered_back scope n s.order rows parts.1 r)
    ∙ sym (cut-map (λ r. r ∷ []) s.limit (reverse rows))
