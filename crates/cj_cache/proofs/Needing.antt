-- The lists of a set's tables name each kept statement that needs one of them: without these, the other entries are left.
use Rattle.std.proofs.Common.{◌≡◌, ℕ, Bool, true, false, ◌&&◌, ◌||◌, cond, not, ◌<◌, List, [], ◌∷◌, filter, get_or, length, map, slice_index_or, refl, sym, subst, ap, ◌∙◌, ⊎_elim}
use Rattle.std.specs.Prelude.{All, IfSome, find, is_some}
use Rattle.std.specs.List.{IsDistinct, cons_option, list_any}
use Rattle.std.specs.declared.option.Option.{Option}
use Rattle.std.specs.declared.option.Option.TheVariants.{None, Some}
use Rattle.std.proofs.Math.Bool.{and-true, or-true}
use Rattle.std.proofs.lemmas.Bool.{and_parts, both_ways, cases_Bool, false_from_ne_true, or_parts}
use Rattle.std.proofs.lemmas.List.Elements.{All-cons, All-contains, All-from_recursion, All-head, All-nil, All-tail, All-weaker}
use Rattle.std.proofs.lemmas.List.Folds.{Any-from_list_any, list_any-append, list_any_at, list_any_none}
use Rattle.std.proofs.lemmas.Map.Keys.{IsDistinct-head, IsDistinct-tail}
use Rattle.std.proofs.lemmas.Map.Views.{any-filter_same}
use Rattle.std.proofs.lemmas.Slice.Eq.{bytes_eq-Decides}
use Rattle.cj_cache.proofs.Common.{Cached, Select, bytes_eq, without_each}
use Rattle.cj_model.specs.Cluster.Caching.{cached_entry, is_entry_for, needs_one_of, without}
use Rattle.cj_model.specs.Proving.SameStatements.{same_statement, same_statement-Decides}
use Rattle.cj_model.proofs.CachingLaws.{all_looked, none_without}
use Rattle.cj_model.proofs.FilterLaws.{filter_goes, filter_stays, found_passes}
use Rattle.cj_model.proofs.RisingLaws.{found_All}
use Rattle.cj_cache.specs.Proving.ByTable.{AreListed, ByTable, IsListed, all_listed, is_due, listed, lists}
use Rattle.cj_cache.proofs.Maps.{none_left}

some-find : {X : Type 0} (p : X → Bool) (xs : List X) → is_some (find p xs) ≡ list_any p xs
some-find p [] = refl
some-find p (x ∷ xs) = from (p x) (some-find p xs)
  where
    from : (b : Bool) → is_some (find p xs) ≡ list_any p xs → is_some (cond b (Some x) (find p xs)) ≡ (b || list_any p xs)
    from true rest = refl
    from false rest = rest

any-map : {X Y : Type 0} (p : Y → Bool) (f : X → Y) (xs : List X) → list_any p (map f xs) ≡ list_any (λ x. p (f x)) xs
any-map p f [] = refl
any-map p f (x ∷ xs) = ap (λ b. p (f x) || b) (any-map p f xs)

all-unmapped : {X Y : Type 0} (P : Y → Type 0) (f : X → Y) (xs : List X) → All P (map f xs) → All (λ x. P (f x)) xs
all-unmapped P f [] all = All-nil (λ x. P (f x))
all-unmapped P f (x ∷ xs) all = All-cons (λ x. P (f x)) x xs (All-head P (f x) (map f xs) all) (all-unmapped P f xs (All-tail P (f x) (map f xs) all))

-- ---- which statements a list names

abbrev names : List Select → Select → Bool
names ss s = list_any (same_statement s) ss

same : (s t : Select) → same_statement s t ≡ true → s ≡ t
same s t = (same_statement-Decides s t).0

module _ (set : List (List ℕ)) (entries : List Cached) where
  module _ {S T : Type 0} (m : ByTable S T) where
    -- each of its tables lists a kept statement
    kept_listed : (s : Select) → AreListed m entries → is_some (cached_entry s entries) ≡ true → All (λ table. lists m table s ≡ true) s.tables
    unfolding AreListed
    kept_listed s all kept = from (cached_entry s entries) kept (found_All (IsListed m) (is_entry_for s) entries all) (found_passes (is_entry_for s) entries)
      where
        from : (o : Option Cached) → is_some o ≡ true → IfSome o (IsListed m) → IfSome o (λ e. is_entry_for s e ≡ true) → All (λ table. lists m table s ≡ true) s.tables
        from None kept listed is = cc
        from (Some e) kept listed is = subst (λ (t : Select). All (λ table. lists m table t ≡ true) t.tables) (sym (same s e.select is)) listed

    -- what is listed under one of some tables is among what is listed under them
    among_listed : (s : Select) (name : List ℕ) → lists m name s ≡ true → (tables : List (List ℕ)) → list_any (λ table. bytes_eq table name) tables ≡ true → names (all_listed m tables) s ≡ true
    among_listed s name here [] is = is
    among_listed s name here (t ∷ ts) is = list_any-append (same_statement s) (listed m t) (all_listed m ts) ∙ from (bytes_eq t name) refl (among_listed s name here ts) is
      where
        from : (b : Bool) → bytes_eq t name ≡ b → (list_any (λ table. bytes_eq table name) ts ≡ true → names (all_listed m ts) s ≡ true) → (b || list_any (λ table. bytes_eq table name) ts) ≡ true → (lists m t s || names (all_listed m ts) s) ≡ true
        from true e later is = ap (λ b. b || names (all_listed m ts) s) (subst (λ u. lists m u s ≡ true) (sym ((bytes_eq-Decides t name).0 e)) here)
        from false e later is = ap (λ b. lists m t s || b) (later is) ∙ or-true (lists m t s)

    due_listed : (s : Select) → AreListed m entries → is_due set entries s ≡ true → names (all_listed m set) s ≡ true
    due_listed s all due =
        let both = and_parts _ _ due in
        let needed = Any-from_list_any (λ name. list_any (λ table. bytes_eq table name) set) s.tables both.0 in
        among_listed s needed.1 (All-contains (λ table. lists m table s ≡ true) s.tables needed.1 (kept_listed s all both.1) (needed.0, needed.2, needed.3)) set needed.4

    -- so of what the tables list, those that need one of them are the kept ones that do
    needing_listed : (s : Select) → AreListed m entries → is_some (cached_entry s entries) ≡ true → names (filter (needs_one_of set) (all_listed m set)) s ≡ needs_one_of set s
    needing_listed s all kept =
        any-filter_same (same_statement s) (needs_one_of set) (needs_one_of set s) (λ t same_one. ap (needs_one_of set) (sym (same s t same_one))) (all_listed m set)
        ∙ absorbed (needs_one_of set s) (names (all_listed m set) s) (λ needs. due_listed s all (ap (λ b. needs_one_of set s && b) kept ∙ (and-true (needs_one_of set s) ∙ needs)))
      where
        absorbed : (a b : Bool) → (a ≡ true → b ≡ true) → (a && b) ≡ a
        absorbed true b h = h refl
        absorbed false b h = refl

-- ---- dropping

turned : (s t : Select) → same_statement s t ≡ false → same_statement t s ≡ false
turned s t other = false_from_ne_true (same_statement t s) (λ is. both_ways (same_statement s t) other ((same_statement-Decides s t).1 (sym (same t s is))))

all_without : (P : Cached → Type 0) (s : Select) (xs : List Cached) → All P xs → All P (without s xs)
all_without P s xs all = from (cached_entry s xs) (all_looked P s (record { entries = xs; hits = 0; misses = 0; capacity = 0 }) all)
  where
    from : (o : Option Cached) → All P (cons_option o (without s xs)) → All P (without s xs)
    from None h = h
    from (Some e) h = All-tail P e (without s xs) h

-- an entry that is none of the statements stays
stays : (x : Cached) (ss : List Select) (xs : List Cached) → names ss x.select ≡ false → without_each ss (x ∷ xs) ≡ x ∷ without_each ss xs
stays x [] xs e = refl
stays x (s ∷ ss) xs e =
    let parts = or_parts (same_statement x.select s) (names ss x.select) e in
    ap (λ b. without_each ss (cond b xs (x ∷ without s xs))) (turned x.select s parts.0) ∙ stays x ss (without s xs) parts.1

-- one that is goes, where no other is of its statement
goes : (x : Cached) (ss : List Select) (xs : List Cached) → names ss x.select ≡ true → All (λ y. same_statement x.select y.select ≡ false) xs → without_each ss (x ∷ xs) ≡ without_each ss xs
goes x [] xs is others = cc
goes x (s ∷ ss) xs is others = ⊎_elim
    (λ (here : same_statement x.select s ≡ true).
    let it : x.select ≡ s = same x.select s here in
    ap (λ b. without_each ss (cond b xs (x ∷ without s xs))) ((same_statement-Decides s x.select).1 (sym it))
    ∙ ap (without_each ss) (sym (none_without s xs (subst (λ t. cached_entry t xs ≡ None) it (none_found x.select xs others)))))
    (λ (other : same_statement x.select s ≡ false).
    ap (λ b. without_each ss (cond b xs (x ∷ without s xs))) (turned x.select s other)
    ∙ goes x ss (without s xs) (sym (ap (λ b. b || names ss x.select) other) ∙ is) (all_without (λ y. same_statement x.select y.select ≡ false) s xs others))
    (cases_Bool (same_statement x.select s))
  where
    none_found : (s : Select) (ys : List Cached) → All (λ y. same_statement s y.select ≡ false) ys → cached_entry s ys ≡ None
    none_found s [] all = refl
    none_found s (y ∷ ys) all = ap (λ b. cond b (Some y) (cached_entry s ys)) (All-head (λ y. same_statement s y.select ≡ false) y ys all) ∙ none_found s ys (All-tail (λ y. same_statement s y.select ≡ false) y ys all)

module _ (set : List (List ℕ)) where
  abbrev needs : Cached → Bool
  needs e = needs_one_of set e.select

  each_dropped : (ss : List Select) (xs : List Cached) → IsDistinct same_statement (map (λ (e : Cached). e.select) xs) → All (λ e. names ss e.select ≡ needs e) xs → without_each ss xs ≡ filter (λ e. not (needs e)) xs
  each_dropped ss [] distinct found = none_left ss
  each_dropped ss (x ∷ xs) distinct found =
      let here = All-head (λ e. names ss e.select ≡ needs e) x xs found in
      let rest = each_dropped ss xs (IsDistinct-tail same_statement x.select _ distinct) (All-tail (λ e. names ss e.select ≡ needs e) x xs found) in
      ⊎_elim
      (λ (is : needs x ≡ true).
      goes x ss xs (here ∙ is) (all-unmapped (λ s. same_statement x.select s ≡ false) (λ (e : Cached). e.select) xs (All-from_recursion (λ s. same_statement x.select s ≡ false) _ (IsDistinct-head same_statement x.select _ distinct)))
      ∙ rest ∙ sym (filter_goes (λ e. not (needs e)) x xs (ap not is)))
      (λ (fine : needs x ≡ false).
      stays x ss xs (here ∙ fine) ∙ ap (λ r. x ∷ r) rest ∙ sym (filter_stays (λ e. not (needs e)) x xs (ap not fine)))
      (cases_Bool (needs x))

  -- without the statements that are listed and need one of the tables, the others are left
  pub needing_dropped : {S T : Type 0} (m : ByTable S T) (xs : List Cached) → IsDistinct same_statement (map (λ (e : Cached). e.select) xs) → AreListed m xs → without_each (filter (needs_one_of set) (all_listed m set)) xs ≡ filter (λ e. not (needs e)) xs
  needing_dropped m xs distinct all = each_dropped (filter (needs_one_of set) (all_listed m set)) xs distinct (λ k d lt. let e = slice_index_or xs k d in
      needing_listed set xs m e.select all (some-find (is_entry_for e.select) xs ∙ list_any_at (is_entry_for e.select) xs k d lt ((same_statement-Decides e.select e.select).1 refl)))

  -- what is left needs none of them
  pub none_needs : (xs : List Cached) → All (λ e. needs_one_of set e.select ≡ false) (filter (λ e. not (needs e)) xs)
  none_needs [] = All-nil (λ e. needs_one_of set e.select ≡ false)
  none_needs (x ∷ xs) = from (needs x) refl (none_needs xs)
    where
      from : (b : Bool) → needs x ≡ b → All (λ e. needs_one_of set e.select ≡ false) (filter (λ e. not (needs e)) xs) → All (λ e. needs_one_of set e.select ≡ false) (cond (not b) (x ∷ filter (λ e. not (needs e)) xs) (filter (λ e. not (needs e)) xs))
      from true is rest = rest
      from false is rest = All-cons (λ e. needs_one_of set e.select ≡ false) x (filter (λ e. not (needs e)) xs) is rest

-- who needs none of some tables doesn't need one of them
pub one_unneeded : (set : List (List ℕ)) (k : ℕ) (d : List ℕ) → k < length set → (s : Select) → needs_one_of set s ≡ false → list_any (bytes_eq (get_or set k d)) s.tables ≡ false
one_unneeded set k d lt s none = list_any_none (bytes_eq (get_or set k d)) s.tables (each s.tables none)
  where
    each : (names : List (List ℕ)) → list_any (λ name. list_any (λ table. bytes_eq table name) set) names ≡ false → All (λ n. bytes_eq (get_or set k d) n ≡ false) names
    each [] none = All-nil (λ n. bytes_eq (get_or set k d) n ≡ false)
    each (n ∷ ns) none =
        let parts = or_parts (list_any (λ table. bytes_eq table n) set) (list_any (λ name. list_any (λ table. bytes_eq table name) set) ns) none in
        All-cons (λ n. bytes_eq (get_or set k d) n ≡ false) n ns
        (false_from_ne_true (bytes_eq (get_or set k d) n) (λ is. both_ways (list_any (λ t. bytes_eq t n) set) parts.0 (list_any_at (λ t. bytes_eq t n) set k d lt is)))
        (each ns parts.1)

pub one_unneeded_by_all : (set : List (List ℕ)) (k : ℕ) (d : List ℕ) → k < length set → (xs : List Cached) → All (λ e. needs_one_of set e.select ≡ false) xs → All (λ e. list_any (bytes_eq (get_or set k d)) e.select.tables ≡ false) xs
one_unneeded_by_all set k d lt xs = All-weaker (λ e. needs_one_of set e.select ≡ false) (λ e. list_any (bytes_eq (get_or set k d)) e.select.tables ≡ false) (λ e. one_unneeded set k d lt e.select) xs
