-- What INSERT, UPDATE and DELETE are to change of a table.
use Rattle.std.proofs.Common.{◌≡◌, ℕ, zero, suc, ◌+◌, ◌<◌, ◌≤◌, Bool, true, false, cond, List, [], ◌∷◌, ◌++◌, length, map, get_or, take, refl, ap, sym, ◌∙◌, subst, ⊎_elim, Ordering, is_eq, arith}
use Rattle.std.specs.Prelude.{filter, find, fold, not, is_some, count_by, ◌||◌, ◌&&◌, option_copied}
use Rattle.cj_rowstore.proofs.Common.{Bor, IsChangeOf, PairsRise, at, match_ordering, merged, value_cmp, value_exact, value_total, values_of}
use Rattle.std.specs.declared.option.Option.TheVariants.{None, Some}
use Rattle.std.proofs.lemmas.Bool.{cases_Bool, or_left, or_right, or_parts}
use Rattle.std.proofs.lemmas.List.{length-map, map-append, map_more}
use Rattle.std.proofs.lemmas.List.Filters.{length-filter_both}
use Rattle.std.proofs.lemmas.List.Sums.{length-filter, count_by-le-length}
use Rattle.cj_dml.proofs.Common.{Changed, has_key, has_key_twice, insert_entry, list_any, Option, Plan, Refusal, refuse_if, Result, row_with_key, Table, Value}
use Rattle.cj_model.specs.Database.Tables.{IsTable, cell, by_key, put_by}
use Rattle.cj_model.proofs.RisingLaws.{by_order, found_put}
use Rattle.cj_model.proofs.TableLaws.{by_key_total}
use Rattle.cj_rowstore.specs.RowEntries.{RowEntries, keyed, puts, removals}
use Rattle.cj_dml.specs.Plans.{Leaves, Plans}
use Rattle.cj_rowstore.proofs.EntryLaws.{at_insert}
use Rattle.cj_rowstore.proofs.RowLaws.{values_keyed, is_eq-flip, merged_puts, merged_removals, put_changed, rise_each}

-- ---- tests over lists

-- an item of which a test of its image holds
pub any_at : {A X : Type 0} (f : A → X) (test : X → Bool) (xs : List A) (i : ℕ) (x : A) → i < length xs → x ≡ get_or xs i x → test (f x) ≡ true → list_any test (map f xs) ≡ true
any_at f test [] i x l is t = absurd (omega (arith, l))
any_at f test (y ∷ ys) zero x l is t = or_left _ _ (ap (λ z. test (f z)) (sym is) ∙ t)
any_at f test (y ∷ ys) (suc i) x l is t = or_right (test (f y)) _ (any_at f test ys i x (omega (arith, l)) is t)

pub from_none : {X : Type 0} (b : Bool) (y : X) → ◌≡◌ {A = Option X} None (cond b None (Some y)) → b ≡ true
from_none true y e = refl
from_none false y e = cc e

pub from_some : {X : Type 0} (b : Bool) (x y : X) → ◌≡◌ {A = Option X} (Some x) (cond b None (Some y)) → (b ≡ false) × (x ≡ y)
from_some true x y e = cc e
from_some false x y e = (refl, ap (λ s. elim s [ None ↦ x | Some z ↦ z ]) e)

is_some-find : {A : Type 0} (p : A → Bool) (xs : List A) → is_some (find p xs) ≡ list_any p xs
is_some-find p [] = refl
is_some-find p (x ∷ xs) = elim (p x) as (λ b. is_some (cond b (Some x) (find p xs)) ≡ (b || list_any p xs)) [ true ↦ refl | false ↦ is_some-find p xs ]

pub is_some-copied : {X : Type 0} (o : Option (Bor X)) → is_some o ≡ is_some (option_copied o)
is_some-copied None = refl
is_some-copied (Some x) = refl

any_same : {A : Type 0} (p q : A → Bool) → ((x : A) → p x ≡ q x) → (xs : List A) → list_any p xs ≡ list_any q xs
any_same p q h [] = refl
any_same p q h (x ∷ xs) = ap (λ b. b || list_any p xs) (h x) ∙ ap (λ b. q x || b) (any_same p q h xs)

pub any_both : {A : Type 0} (p q : A → Bool) (xs : List A) → list_any q (filter p xs) ≡ list_any (λ x. p x && q x) xs
any_both p q [] = refl
any_both p q (x ∷ xs) = elim (p x) as (λ b. list_any q (cond b (x ∷ filter p xs) (filter p xs)) ≡ ((b && q x) || list_any (λ x. p x && q x) xs)) [
  | true ↦ ap (λ b. q x || b) (any_both p q xs)
  | false ↦ any_both p q xs
]

-- ---- look-ups

pub found_key : (k : ℕ) (rows : List (List Value)) (r : List Value) → is_some (row_with_key k rows (cell r k)) ≡ has_key k rows r
found_key k rows r =
    is_some-find (λ x. is_eq (value_cmp (cell x k) (cell r k))) rows
    ∙ any_same (λ x. is_eq (value_cmp (cell x k) (cell r k))) (λ x. is_eq (by_key k r x)) (λ x. is_eq-flip (cell x k) (cell r k)) rows

-- ---- keys that stand twice

known_test : (b : Bool) (x : Option (List Value)) (o : Option (Option (List Value))) → is_some (cond b (Some x) o) ≡ (b || is_some o)
known_test true x o = refl
known_test false x o = refl

or-assoc : (a b c : Bool) → (a || (b || c)) ≡ ((a || b) || c)
or-assoc true b c = refl
or-assoc false b c = refl

or-comm : (a b : Bool) → (a || b) ≡ (b || a)
or-comm true true = refl
or-comm true false = refl
or-comm false true = refl
or-comm false false = refl

pub or-false : (a : Bool) → (a || false) ≡ a
or-false true = refl
or-false false = refl

known_among : (k : ℕ) (v : Value) (cs : RowEntries) (ys : List (List Value))
    → is_some (at value_cmp v (fold (λ (cs : RowEntries) r. insert_entry value_cmp cs (cell r k) (Some r)) cs ys)) ≡ (list_any (λ y. is_eq (value_cmp v (cell y k))) ys || is_some (at value_cmp v cs))
known_among k v cs [] = refl
known_among k v cs (y ∷ ys) =
    known_among k v (insert_entry value_cmp cs (cell y k) (Some y)) ys
    ∙ ap (λ b. list_any (λ y. is_eq (value_cmp v (cell y k))) ys || b) (ap is_some (at_insert value_cmp value_total value_exact v cs (cell y k) (Some y)) ∙ known_test (is_eq (value_cmp v (cell y k))) (Some y) (at value_cmp v cs))
    ∙ or-assoc (list_any (λ y. is_eq (value_cmp v (cell y k))) ys) (is_eq (value_cmp v (cell y k))) (is_some (at value_cmp v cs))
    ∙ ap (λ b. b || is_some (at value_cmp v cs)) (or-comm (list_any (λ y. is_eq (value_cmp v (cell y k))) ys) (is_eq (value_cmp v (cell y k))))

-- a key is known where a row that was put has it
pub known_put : (k : ℕ) (ys : List (List Value)) (r : List Value) → is_some (at value_cmp (cell r k) (puts k ys)) ≡ has_key k ys r
known_put k ys r = known_among k (cell r k) [] ys ∙ or-false (has_key k ys r)

any_append : {A : Type 0} (p : A → Bool) (xs ys : List A) → list_any p (xs ++ ys) ≡ (list_any p xs || list_any p ys)
any_append p [] ys = refl
any_append p (x ∷ xs) ys = ap (λ b. p x || b) (any_append p xs ys) ∙ or-assoc (p x) (list_any p xs) (list_any p ys)

has_key_more : (k : ℕ) (ys zs : List (List Value)) (r : List Value) → has_key k (ys ++ zs) r ≡ (has_key k ys r || has_key k zs r)
has_key_more k ys zs r = any_append (λ x. is_eq (by_key k r x)) ys zs

swap : (a b c d : Bool) → ((a || (b || false)) || (c || d)) ≡ ((a || c) || (b || d))
swap true b c d = refl
swap false true true d = refl
swap false true false d = refl
swap false false c d = refl

pub twice_more : (k : ℕ) (ys : List (List Value)) (r : List Value) → has_key_twice k (ys ++ r ∷ []) ≡ (has_key_twice k ys || has_key k ys r)
twice_more k [] r = refl
twice_more k (y ∷ ys) r =
    ap (λ b. b || has_key_twice k (ys ++ r ∷ [])) (has_key_more k ys (r ∷ []) y)
    ∙ ap (λ b. (has_key k ys y || (is_eq (by_key k y r) || false)) || b) (twice_more k ys r)
    ∙ swap (has_key k ys y) (is_eq (by_key k y r)) (has_key_twice k ys) (has_key k ys r)
    ∙ ap (λ b. (has_key k ys y || has_key_twice k ys) || (b || has_key k ys r)) (is_eq-flip (cell y k) (cell r k))

pub twice_still : (k : ℕ) (ys zs : List (List Value)) → has_key_twice k ys ≡ true → has_key_twice k (ys ++ zs) ≡ true
twice_still k [] zs h = cc h
twice_still k (y ∷ ys) zs h = ⊎_elim
    (λ (t : has_key k ys y ≡ true). or_left _ _ (has_key_more k ys zs y ∙ or_left _ _ t))
    (λ (f : has_key k ys y ≡ false). or_right (has_key k (ys ++ zs) y) _ (twice_still k ys zs (ap (λ b. b || has_key_twice k ys) (sym f) ∙ h)))
    (cases_Bool (has_key k ys y))

-- ---- how many rows there are

length_fresh : (k : ℕ) (rows : List (List Value)) (r : List Value) → has_key k rows r ≡ false → length (put_by (by_key k) rows r) ≡ length rows + 1
length_fresh k [] r h = refl
length_fresh k (x ∷ rows) r h =
    let parts = or_parts (is_eq (by_key k r x)) (has_key k rows r) h in
    let size : Ordering → ℕ = λ o. length (match_ordering o (r ∷ x ∷ rows) (r ∷ rows) (x ∷ put_by (by_key k) rows r)) in
    by_order (by_key k r x)
    (λ l. ap size l ∙ omega arith)
    (λ e. let c : true ≡ false = sym (ap is_eq e) ∙ parts.0 in cc c)
    (λ g. ap size g ∙ ap (λ n. suc n) (length_fresh k rows r parts.1) ∙ omega arith)

has_key_put : (k : ℕ) (rows : List (List Value)) (r s : List Value) → has_key k (put_by (by_key k) rows r) s ≡ (is_eq (by_key k s r) || has_key k rows s)
has_key_put k rows r s =
    sym (is_some-find (λ x. is_eq (by_key k s x)) (put_by (by_key k) rows r))
    ∙ ap is_some (found_put (by_key k) (by_key_total k) s rows r)
    ∙ elim (is_eq (by_key k s r)) as (λ b. is_some (cond b (Some r) (find (λ x. is_eq (by_key k s x)) rows)) ≡ (b || has_key k rows s)) [ true ↦ refl | false ↦ is_some-find (λ x. is_eq (by_key k s x)) rows ]

none_there : (k : ℕ) (rows new : List (List Value)) (r : List Value) → list_any (has_key k rows) new ≡ false → has_key k new r ≡ false → list_any (has_key k (put_by (by_key k) rows r)) new ≡ false
none_there k rows [] r h g = refl
none_there k rows (s ∷ new) r h g =
    let there = or_parts (has_key k rows s) (list_any (has_key k rows) new) h in
    let other = or_parts (is_eq (by_key k r s)) (has_key k new r) g in
    ap (λ b. b || list_any (has_key k (put_by (by_key k) rows r)) new) (has_key_put k rows r s ∙ ap (λ b. b || has_key k rows s) (is_eq-flip (cell s k) (cell r k) ∙ other.0) ∙ there.0)
    ∙ none_there k rows new r there.1 other.1

pub length_put : (k : ℕ) (rows new : List (List Value)) → list_any (has_key k rows) new ≡ false → has_key_twice k new ≡ false → length (fold (put_by (by_key k)) rows new) ≡ length rows + length new
length_put k rows [] h g = omega arith
length_put k rows (r ∷ new) h g =
    let there = or_parts (has_key k rows r) (list_any (has_key k rows) new) h in
    let twice = or_parts (has_key k new r) (has_key_twice k new) g in
    omega (arith, length_put k (put_by (by_key k) rows r) new (none_there k rows new r there.1 twice.0) twice.1, length_fresh k rows r there.0)

-- ---- plans

-- changes that leave rows
pub change_into : (k : ℕ) (old rows : List (List Value)) (changes : RowEntries) (n : ℕ) → PairsRise value_cmp changes → merged value_cmp (keyed k old) changes ≡ keyed k rows → n ≡ length rows → IsChangeOf k old changes n
change_into k old rows changes n r e c =
    let values : values_of (merged value_cmp (keyed k old) changes) ≡ rows = ap values_of e ∙ values_keyed k rows in
    record { rises = r; rows = record { own_keys = e ∙ ap (keyed k) (sym values); count = c ∙ ap length (sym values) } }

leaves : (t : Table) (p : Plan) (rows : List (List Value)) (n : ℕ) → PairsRise value_cmp p.changes → merged value_cmp (keyed t.schema.key t.rows) p.changes ≡ keyed t.schema.key rows → p.count ≡ length rows → p.written ≡ n → Leaves t p rows n
leaves t p rows n r e c w = record {
  change = change_into t.schema.key t.rows rows p.changes p.count r e c;
  after = ap values_of e ∙ values_keyed t.schema.key rows;
  written = w;
}

pub delete_leaves : (t : Table) (is : IsTable t) (p : Plan) (test : List Value → Bool) → p.changes ≡ removals t.schema.key (filter test t.rows) → p.count + length (filter test t.rows) ≡ length t.rows → p.written ≡ length (filter test t.rows)
    → Leaves t p (filter (λ r. not (test r)) t.rows) (count_by test t.rows)
delete_leaves t is p test e c w = leaves t p (filter (λ r. not (test r)) t.rows) (count_by test t.rows)
    (subst (PairsRise value_cmp) (sym e) (rise_each t.schema.key (λ _. None) [] (filter test t.rows) tt))
    (ap (merged value_cmp (keyed t.schema.key t.rows)) e ∙ merged_removals t.schema.key test t.rows is.rises)
    (omega (arith, c, length-filter_both test (λ r. not (test r)) (λ r. refl) t.rows))
    (w ∙ length-filter test t.rows)

pub update_leaves : (t : Table) (is : IsTable t) (p : Plan) (test : List Value → Bool) (f : List Value → List Value) → ((r : List Value) → cell (f r) t.schema.key ≡ cell r t.schema.key)
    → p.changes ≡ puts t.schema.key (map f (filter test t.rows)) → p.count ≡ length t.rows → p.written ≡ length (filter test t.rows)
    → Leaves t p (map (λ r. cond (test r) (f r) r) t.rows) (count_by test t.rows)
update_leaves t is p test f keeps e c w = leaves t p (map (λ r. cond (test r) (f r) r) t.rows) (count_by test t.rows)
    (subst (PairsRise value_cmp) (sym e) (rise_each t.schema.key Some [] (map f (filter test t.rows)) tt))
    (ap (merged value_cmp (keyed t.schema.key t.rows)) e ∙ merged_puts t.schema.key t.rows (map f (filter test t.rows)) is.rises ∙ ap (keyed t.schema.key) (put_changed t.schema.key test f keeps t.rows is.rises))
    (c ∙ sym (length-map t.rows (λ r. cond (test r) (f r) r)))
    (w ∙ length-filter test t.rows)

pub insert_leaves : (t : Table) (is : IsTable t) (p : Plan) (new : List (List Value)) → list_any (has_key t.schema.key t.rows) new ≡ false → has_key_twice t.schema.key new ≡ false
    → p.changes ≡ puts t.schema.key new → p.count ≡ length t.rows + length new → p.written ≡ length new
    → Leaves t p (fold (put_by (by_key t.schema.key)) t.rows new) (length new)
insert_leaves t is p new there twice e c w = leaves t p (fold (put_by (by_key t.schema.key)) t.rows new) (length new)
    (subst (PairsRise value_cmp) (sym e) (rise_each t.schema.key Some [] new tt))
    (ap (merged value_cmp (keyed t.schema.key t.rows)) e ∙ merged_puts t.schema.key t.rows new is.rises)
    (c ∙ sym (length_put t.schema.key t.rows new there twice))
    w

-- ---- refusals

pub past : (t : Table) (b : Bool) (r : Refusal) (rest : Changed) (x : Result Plan Refusal) → b ≡ false → Plans t rest x → Plans t (refuse_if b r rest) x
past t true r rest x h p = cc h
past t false r rest x h p = p

pub none_of : (a b : Bool) → a ≡ false → b ≡ false → (a || b) ≡ false
none_of true b h g = cc h
none_of false b h g = g

pub part-le : {A : Type 0} (p : A → Bool) (xs : List A) → length (filter p xs) ≤ length xs
part-le p xs = omega (arith, length-filter p xs, count_by-le-length p xs)

pub put_one_more : (k : ℕ) (ys : List (List Value)) (r : List Value) (cs : RowEntries) → insert_entry value_cmp (fold (λ (cs : RowEntries) r. insert_entry value_cmp cs (cell r k) (Some r)) cs ys) (cell r k) (Some r) ≡ fold (λ (cs : RowEntries) r. insert_entry value_cmp cs (cell r k) (Some r)) cs (ys ++ r ∷ [])
put_one_more k [] r cs = refl
put_one_more k (y ∷ ys) r cs = put_one_more k ys r (insert_entry value_cmp cs (cell y k) (Some y))

pub images_more : {A B C : Type 0} (f : A → C) (g : B → C) (made : List A) (a : A) (xs : List B) (i : ℕ) (x : B) → map f made ≡ map g (take i xs) → i < length xs → x ≡ get_or xs i x → f a ≡ g x → map f (made ++ a ∷ []) ≡ map g (take (i + 1) xs)
images_more f g made a xs i x h l is e =
    map-append f made (a ∷ []) ∙ ap (λ (ys : List _). ys ++ f a ∷ []) h ∙ ap (λ c. map g (take i xs) ++ c ∷ []) (e ∙ ap g is) ∙ sym (map_more g xs i x l)
