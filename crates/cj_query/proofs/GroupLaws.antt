-- Rows in order, cut into runs of one value, are the rows with each value.
use Rattle.std.proofs.Common.{◌≡◌, ℕ, Bool, true, false, cond, ◌||◌, List, [], ◌∷◌, map, refl, ap, sym, subst, ◌∙◌, ⊎_elim, Ordering, Less, Equal, Greater, is_eq}
use Rattle.std.specs.Prelude.{All, find, fold}
use Rattle.std.specs.declared.option.Option.{Option}
use Rattle.std.specs.declared.option.Option.TheVariants.{None, Some}
use Rattle.std.proofs.lemmas.Bool.{cases_Bool, cond-true, cond-false, or_parts}
use Rattle.cj_query.proofs.Common.{All-cons, All-head, All-nil, All-tail, ColRef, column_place, is_lt, Items, list_any, map-map, ordering_reverse, Scope, tied_itself, Value, value_cmp, value_exact, value_total}
use Rattle.cj_model.specs.Database.Tables.{cell, by_key, put_by, Rises}
use Rattle.cj_model.specs.Database.Queries.{first_row, distinct_values, rows_with, gathered}
use Rattle.cj_model.proofs.RisingLaws.{by_order, equal_from, found_above, found_put, rises_put_each}
use Rattle.cj_query.specs.Gathered.{same_at, run_with, runs, sorted_at, arranged, cut_into}
use Rattle.cj_query.proofs.KeyLaws.{row_orders}
use Rattle.cj_query.proofs.MapLaws.{map_alike}
use Rattle.cj_query.proofs.OrderLaws.{IsInOrder, ordered_rises, filter-ordered, list_any-ordered}

-- ---- values

is_eq-reverse : (o : Ordering) → is_eq (ordering_reverse o) ≡ is_eq o
is_eq-reverse Less = refl
is_eq-reverse Equal = refl
is_eq-reverse Greater = refl

equal_back : (v w : Value) → is_eq (value_cmp v w) ≡ is_eq (value_cmp w v)
equal_back v w = ap is_eq (value_total.antisymm v w) ∙ is_eq-reverse (value_cmp w v)

equal_self : (v : Value) → is_eq (value_cmp v v) ≡ true
equal_self v = ap is_eq (tied_itself value_total v)

pub equal_is : (v w : Value) → is_eq (value_cmp v w) ≡ true → v ≡ w
equal_is v w h = value_exact v w (equal_from _ h)

-- a test that was false already
again : {X : Type 0} (b c : Bool) (x y z : X) → b ≡ c → cond b x z ≡ cond b x (cond c y z)
again true c x y z h = refl
again false c x y z h = sym (cond-false c y z (sym h))

from_none : (b : Bool) (v : Value) → ◌≡◌ {A = Option Value} (cond b (Some v) None) None → b ≡ false
from_none true v h = cc h
from_none false v h = refl

below_from : (o : Ordering) → is_lt (ordering_reverse o) ≡ false → is_eq o ≡ false → o ≡ Less
below_from Less h f = refl
below_from Equal h f = cc f
below_from Greater h f = cc h

-- a value that is found is that value
cond_found : (b c : Bool) (v q : Value) (o : Option Value) → (b ≡ true → q ≡ v) → cond b (Some v) (cond c (Some q) o) ≡ cond (b || c) (Some q) o
cond_found true c v q o h = ap Some (sym (h refl))
cond_found false c v q o h = refl

cond_found_after : (b c : Bool) (v q : Value) (o : Option Value) → (b ≡ true → q ≡ v) → cond c (Some q) (cond b (Some v) o) ≡ cond (b || c) (Some q) o
cond_found_after true true v q o h = refl
cond_found_after true false v q o h = ap Some (sym (h refl))
cond_found_after false c v q o h = refl

below : (u v : Value) (zs : List Value) → value_cmp u v ≡ Less → All (λ z. value_cmp v z ≡ Less) zs → All (λ z. value_cmp u z ≡ Less) zs
below u v [] l a = All-nil (λ z. value_cmp u z ≡ Less)
below u v (z ∷ zs) l a = All-cons (λ z. value_cmp u z ≡ Less) z zs (value_total.trans u v z l (All-head (λ z. value_cmp v z ≡ Less) z zs a)) (below u v zs l (All-tail (λ z. value_cmp v z ≡ Less) z zs a))

-- rising lists in which the same is found are one list
same_found : (xs ys : List Value) → Rises value_cmp xs → Rises value_cmp ys → ((q : Value) → find (λ y. is_eq (value_cmp q y)) xs ≡ find (λ y. is_eq (value_cmp q y)) ys) → xs ≡ ys
same_found [] [] p q h = refl
same_found [] (y ∷ ys) p q h = cc (h y ∙ cond-true _ _ _ (equal_self y))
same_found (x ∷ xs) [] p q h = cc (sym (h x) ∙ cond-true _ _ _ (equal_self x))
same_found (x ∷ xs) (y ∷ ys) p q h = by_order (value_cmp x y)
    (λ l. cc (sym (cond-true _ _ _ (equal_self x)) ∙ h x ∙ cond-false _ _ _ (ap is_eq l) ∙ found_above value_cmp value_total x ys (below x y ys l q.0)))
    (λ e. let s : x ≡ y = value_exact x y e in
    let rest : (v : Value) → find (λ z. is_eq (value_cmp v z)) xs ≡ find (λ z. is_eq (value_cmp v z)) ys = λ v. ⊎_elim
    (λ (t : is_eq (value_cmp v x) ≡ true).
    let same : v ≡ x = equal_is v x t in
    let none : (zs : List Value) → All (λ z. value_cmp x z ≡ Less) zs → find (λ z. is_eq (value_cmp v z)) zs ≡ None = λ zs a. subst (λ u. find (λ z. is_eq (value_cmp u z)) zs ≡ None) (sym same) (found_above value_cmp value_total x zs a) in
    none xs p.0 ∙ sym (none ys (subst (λ u. All (λ z. value_cmp u z ≡ Less) ys) (sym s) q.0)))
    (λ (f : is_eq (value_cmp v x) ≡ false).
    sym (cond-false _ _ _ f) ∙ h v ∙ cond-false _ _ _ (subst (λ u. is_eq (value_cmp v u) ≡ false) s f))
    (cases_Bool (is_eq (value_cmp v x))) in
    ap (λ u. u ∷ xs) s ∙ ap (λ l. y ∷ l) (same_found xs ys p.1 q.1 rest))
    (λ g. let l : value_cmp y x ≡ Less = value_total.antisymm y x ∙ ap ordering_reverse g in
    cc (sym (cond-true _ _ _ (equal_self y)) ∙ sym (h y) ∙ cond-false _ _ _ (ap is_eq l) ∙ found_above value_cmp value_total y xs (below y x xs l p.0)))

-- ---- the values that are met

-- some row has the value
abbrev met_in : ℕ → List (List Value) → Value → Bool
met_in n rows v = list_any (λ r. is_eq (value_cmp v (cell r n))) rows

found_in_fold : (n : ℕ) (q : Value) (acc : List Value) (rows : List (List Value)) → find (λ y. is_eq (value_cmp q y)) (fold (put_by value_cmp) acc (map (λ r. cell r n) rows)) ≡ cond (met_in n rows q) (Some q) (find (λ y. is_eq (value_cmp q y)) acc)
found_in_fold n q acc [] = refl
found_in_fold n q acc (r ∷ rs) =
    found_in_fold n q (put_by value_cmp acc (cell r n)) rs
    ∙ ap (λ o. cond (met_in n rs q) (Some q) o) (found_put value_cmp value_total q acc (cell r n))
    ∙ cond_found_after (is_eq (value_cmp q (cell r n))) (met_in n rs q) (cell r n) q (find (λ y. is_eq (value_cmp q y)) acc) (equal_is q (cell r n))

found_met : (n : ℕ) (q : Value) (rows : List (List Value)) → find (λ y. is_eq (value_cmp q y)) (distinct_values n rows) ≡ cond (met_in n rows q) (Some q) None
found_met n q rows = found_in_fold n q [] rows

-- ---- runs

-- the values that runs begin with
abbrev heads : ℕ → List (List (List Value)) → List Value
heads n gs = map (λ g. cell (first_row g) n) gs

found_run_with : (n : ℕ) (q : Value) (r : List Value) (gs : List (List (List Value))) → find (λ y. is_eq (value_cmp q y)) (heads n (run_with n r gs)) ≡ cond (is_eq (value_cmp q (cell r n))) (Some (cell r n)) (find (λ y. is_eq (value_cmp q y)) (heads n gs))
found_run_with n q r [] = refl
found_run_with n q r (g ∷ gs) =
    let joined : Bool → Option Value = λ b. find (λ y. is_eq (value_cmp q y)) (heads n (cond b ((r ∷ g) ∷ gs) ((r ∷ []) ∷ g ∷ gs))) in
    let rest = find (λ y. is_eq (value_cmp q y)) (heads n gs) in
    ⊎_elim
    (λ (t : same_at n r (first_row g) ≡ true).
    ap joined t ∙ again (is_eq (value_cmp q (cell r n))) (is_eq (value_cmp q (cell (first_row g) n))) (Some (cell r n)) (Some (cell (first_row g) n)) rest
    (ap (λ v. is_eq (value_cmp q v)) (equal_is (cell r n) (cell (first_row g) n) t)))
    (λ (f : same_at n r (first_row g) ≡ false). ap joined f)
    (cases_Bool (same_at n r (first_row g)))

found_heads : (n : ℕ) (q : Value) (rows : List (List Value)) → find (λ y. is_eq (value_cmp q y)) (heads n (runs n rows)) ≡ cond (met_in n rows q) (Some q) None
found_heads n q [] = refl
found_heads n q (r ∷ rs) =
    found_run_with n q r (runs n rs)
    ∙ ap (λ o. cond (is_eq (value_cmp q (cell r n))) (Some (cell r n)) o) (found_heads n q rs)
    ∙ cond_found (is_eq (value_cmp q (cell r n))) (met_in n rs q) (cell r n) q None (equal_is q (cell r n))

-- ---- rows in order

none_with : (n : ℕ) (v : Value) (rows : List (List Value)) → met_in n rows v ≡ false → rows_with n rows v ≡ []
none_with n v [] h = refl
none_with n v (r ∷ rs) h =
    let parts = or_parts (is_eq (value_cmp v (cell r n))) (met_in n rs v) h in
    cond-false _ _ _ (equal_back (cell r n) v ∙ parts.0) ∙ none_with n v rs parts.1

not_met : (n : ℕ) (v : Value) (rows : List (List Value)) → All (λ z. value_cmp v z ≡ Less) (heads n (runs n rows)) → met_in n rows v ≡ false
not_met n v rows a = from_none (met_in n rows v) v (sym (found_heads n v rows) ∙ found_above value_cmp value_total v (heads n (runs n rows)) a)

-- a run is all rows with its value
abbrev IsRunOf : ℕ → List (List Value) → List (List Value) → Type 0
IsRunOf n rows g = g ≡ rows_with n rows (cell (first_row g) n)

-- runs are all rows with their values, and these rise
pub record AreGroups (n : ℕ) (rows : List (List Value)) (gs : List (List (List Value))) : Type 0 where
  pub rises : Rises value_cmp (heads n gs)
  pub each : All (IsRunOf n rows) gs

-- one more row in front, with another value than all these runs
kept_runs : (n : ℕ) (r : List Value) (rs : List (List Value)) (gs : List (List (List Value))) → All (λ z. value_cmp (cell r n) z ≡ Less) (heads n gs) → All (IsRunOf n rs) gs → All (IsRunOf n (r ∷ rs)) gs
kept_runs n r rs [] a e = All-nil (IsRunOf n (r ∷ rs))
kept_runs n r rs (g ∷ gs) a e =
    let least : value_cmp (cell r n) (cell (first_row g) n) ≡ Less = All-head (λ z. value_cmp (cell r n) z ≡ Less) (cell (first_row g) n) (heads n gs) a in
    All-cons (IsRunOf n (r ∷ rs)) g gs
    (All-head (IsRunOf n rs) g gs e ∙ sym (cond-false _ _ _ (ap is_eq least)))
    (kept_runs n r rs gs (All-tail (λ z. value_cmp (cell r n) z ≡ Less) (cell (first_row g) n) (heads n gs) a) (All-tail (IsRunOf n rs) g gs e))

-- the first run begins with the first row
abbrev BeginsWith : List Value → List (List (List Value)) → Type 0
BeginsWith r gs = (g : List (List Value)) × (hs : List (List (List Value))) × (gs ≡ (r ∷ g) ∷ hs)

begins : (n : ℕ) (r : List Value) (gs : List (List (List Value))) → BeginsWith r (run_with n r gs)
begins n r [] = ([], [], refl)
begins n r (g ∷ gs) = elim (same_at n r (first_row g)) as (λ b. BeginsWith r (cond b ((r ∷ g) ∷ gs) ((r ∷ []) ∷ g ∷ gs))) [
  | true ↦ (g, gs, refl)
  | false ↦ ([], g ∷ gs, refl)
]

-- one row in front of rows that begin with s, none of which stands before it
module _ (n : ℕ) (r s : List Value) (rs g : List (List Value)) (gs : List (List (List Value))) (are : AreGroups n rs ((s ∷ g) ∷ gs)) (runs_are : runs n rs ≡ (s ∷ g) ∷ gs) (in_order : is_lt (by_key n s r) ≡ false) where
  abbrev Joined : Bool → Type 0
  Joined b = AreGroups n (r ∷ rs) (cond b ((r ∷ s ∷ g) ∷ gs) ((r ∷ []) ∷ (s ∷ g) ∷ gs))

  self : is_eq (value_cmp (cell r n) (cell r n)) ≡ true
  self = equal_self (cell r n)

  joins_same : same_at n r s ≡ true → Joined true
  joins_same t =
      let e : cell r n ≡ cell s n = equal_is (cell r n) (cell s n) t in
      let above : All (λ z. value_cmp (cell r n) z ≡ Less) (heads n gs) = subst (λ v. All (λ z. value_cmp v z ≡ Less) (heads n gs)) (sym e) are.rises.0 in
      record {
        rises = (above, are.rises.1);
        each = All-cons (IsRunOf n (r ∷ rs)) (r ∷ s ∷ g) gs
            (ap (λ l. r ∷ l) (All-head (IsRunOf n rs) (s ∷ g) gs are.each ∙ ap (rows_with n rs) (sym e)) ∙ sym (cond-true _ _ _ self))
            (kept_runs n r rs gs above (All-tail (IsRunOf n rs) (s ∷ g) gs are.each));
      }

  joins_other : same_at n r s ≡ false → Joined false
  joins_other f =
      let less : value_cmp (cell r n) (cell s n) ≡ Less = below_from (value_cmp (cell r n) (cell s n)) (ap is_lt (sym (value_total.antisymm (cell s n) (cell r n))) ∙ in_order) f in
      let above : All (λ z. value_cmp (cell r n) z ≡ Less) (heads n ((s ∷ g) ∷ gs)) = All-cons (λ z. value_cmp (cell r n) z ≡ Less) (cell s n) (heads n gs) less (below (cell r n) (cell s n) (heads n gs) less are.rises.0) in
      let none : rows_with n rs (cell r n) ≡ [] = none_with n (cell r n) rs (not_met n (cell r n) rs (subst (λ hs. All (λ z. value_cmp (cell r n) z ≡ Less) (heads n hs)) (sym runs_are) above)) in
      record {
        rises = (above, are.rises);
        each = All-cons (IsRunOf n (r ∷ rs)) (r ∷ []) ((s ∷ g) ∷ gs)
            (ap (λ l. r ∷ l) (sym none) ∙ sym (cond-true _ _ _ self))
            (kept_runs n r rs ((s ∷ g) ∷ gs) above are.each);
      }

  joins : AreGroups n (r ∷ rs) (run_with n r ((s ∷ g) ∷ gs))
  joins = ⊎_elim
      (λ (t : same_at n r s ≡ true). subst Joined (sym t) (joins_same t))
      (λ (f : same_at n r s ≡ false). subst Joined (sym f) (joins_other f))
      (cases_Bool (same_at n r s))

are_groups : (n : ℕ) (rows : List (List Value)) → IsInOrder (λ r s. is_lt (by_key n r s)) rows → AreGroups n rows (runs n rows)
are_groups n [] h = record { rises = tt; each = All-nil (IsRunOf n []) }
are_groups n (r ∷ []) h = record {
  rises = (All-nil (λ z. value_cmp (cell r n) z ≡ Less), tt);
  each = All-cons (IsRunOf n (r ∷ [])) (r ∷ []) [] (sym (cond-true _ _ _ (equal_self (cell r n)))) (All-nil (IsRunOf n (r ∷ [])));
}
are_groups n (r ∷ s ∷ ss) h =
    let b = begins n s (runs n ss) in
    subst (λ gs. AreGroups n (r ∷ s ∷ ss) (run_with n r gs)) (sym b.2)
    (joins n r s (s ∷ ss) b.0 b.1 (subst (AreGroups n (s ∷ ss)) b.2 (are_groups n (s ∷ ss) h.1)) b.2 h.0.0)

map_same : {X : Type 0} (f : X → X) (xs : List X) → All (λ x. x ≡ f x) xs → xs ≡ map f xs
map_same f [] a = refl
map_same f (x ∷ xs) a = ap (λ y. y ∷ xs) (All-head (λ x. x ≡ f x) x xs a) ∙ ap (λ l. f x ∷ l) (map_same f xs (All-tail (λ x. x ≡ f x) x xs a))

-- the order of rows by a place doesn't part rows with one value
with_sorted : (n : ℕ) (rows : List (List Value)) (v : Value) → rows_with n (sorted_at n rows) v ≡ rows_with n rows v
with_sorted n rows v = filter-ordered (λ r s. is_lt (by_key n r s)) (λ r. is_eq (value_cmp (cell r n) v)) (λ r s p q.
    let e : cell r n ≡ cell s n = equal_is (cell r n) v p ∙ sym (equal_is (cell s n) v q) in
    ap (λ u. is_lt (value_cmp u (cell s n))) e ∙ ap is_lt (tied_itself value_total (cell s n))) rows

-- the runs of sorted rows are the rows with each value that is met
pub runs_sorted : (n : ℕ) (rows : List (List Value)) → runs n (sorted_at n rows) ≡ map (rows_with n rows) (distinct_values n rows)
runs_sorted n rows =
    let lt : List Value → List Value → Bool = λ r s. is_lt (by_key n r s) in
    let sorted = sorted_at n rows in
    let are : AreGroups n sorted (runs n sorted) = are_groups n sorted (ordered_rises lt (row_orders n) rows) in
    let values : heads n (runs n sorted) ≡ distinct_values n rows = same_found (heads n (runs n sorted)) (distinct_values n rows) are.rises (rises_put_each value_cmp value_total [] (map (λ r. cell r n) rows) tt)
    (λ q. found_heads n q sorted ∙ ap (λ b. cond b (Some q) None) (list_any-ordered lt (λ r. is_eq (value_cmp q (cell r n))) rows) ∙ sym (found_met n q rows)) in
    map_same (λ g. rows_with n sorted (cell (first_row g) n)) (runs n sorted) are.each
    ∙ sym (map-map (rows_with n sorted) (λ g. cell (first_row g) n) (runs n sorted))
    ∙ ap (map (rows_with n sorted)) values
    ∙ map_alike (rows_with n sorted) (rows_with n rows) (with_sorted n rows) (distinct_values n rows)

-- what is gathered
pub gathered_is : (scope : Scope) (items : Items) (group : Option ColRef) (rows : List (List Value)) → cut_into scope items group (arranged scope group rows) ≡ gathered scope items group rows
gathered_is scope items None rows = refl
gathered_is scope items (Some group) rows = runs_sorted (column_place scope group) rows
