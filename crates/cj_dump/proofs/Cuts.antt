-- A dump that lacks nothing of a backend, cut to it, is the backend's part.
use Rattle.std.proofs.Common.{◌≡◌, ℕ, ◌<◌, ◌==◌, ◌&&◌, ◌||◌, not, nat_lt, Bool, true, false, cond, List, [], ◌∷◌, length, map, refl, ap, sym, subst, ◌∙◌, Ordering, Less, Equal, Greater, ⊎_elim}
use Rattle.std.specs.Prelude.{find, filter, Contains}
use Rattle.std.specs.Ordering.{match_ordering}
use Rattle.std.specs.List.{list_any}
use Rattle.std.specs.Str.{bytes_eq}
use Rattle.std.proofs.lemmas.Bool.{and_from, and_parts, both_ways, cases_Bool, false_from_ne_true, lt-ltb, not_from_false, or_cases, or_left, or_right}
use Rattle.std.proofs.lemmas.List.Concat.{flat_map-cons}
use Rattle.std.proofs.lemmas.List.Elements.{All-contains, All-filter, Contains-get_or, filter_passes}
use Rattle.std.proofs.lemmas.List.Folds.{Any-from_list_any, list_any-append}
use Rattle.std.proofs.lemmas.Map.Lookups.{exact_bytes}
use Rattle.std.proofs.lemmas.Slice.Eq.{bytes_eq-Decides}
use Rattle.cj_model.specs.declared.placement.PlaceRow.{PlaceRow}
use Rattle.cj_model.specs.Database.Tables.{table_of}
use Rattle.cj_model.specs.Cluster.Placements.{Hosting, hosts, part}
use Rattle.cj_model.specs.Sql.Names.{is_name}
use Rattle.cj_model.proofs.FilterLaws.{filter_after}
use Rattle.cj_model.proofs.RisingLaws.{all_put_each}
use Rattle.cj_place.specs.Layouts.{Layout, backend_number, covered, first_outside, is_outside, placement_of, row_hostings, hosted_tables}
use Rattle.cj_place.proofs.Placing.{any_map}
use Rattle.cj_dump.proofs.Common.{All, All-head, All-nil, All-tail, All-weaker, Dump, None, Slot, Some, flat_map, fold, name_cmp, put_by}
use Rattle.cj_dump.specs.Coverage.{HasCoveredTables, covers_table, cut, lacks}

-- where nothing is found nothing passes
none_found : {A : Type 0} (q : A → Bool) (xs : List A) → find q xs ≡ None → list_any q xs ≡ false
none_found q [] e = refl
none_found {A} q (x ∷ xs) e = by_test (q x) e (λ is. none_found q xs is)
  where
    by_test : (t : Bool) → cond t (Some x) (find q xs) ≡ None → (find q xs ≡ None → list_any q xs ≡ false) → (t || list_any q xs) ≡ false
    by_test true is later = absurd (cc is)
    by_test false is later = later is

module _ (names : List (List ℕ)) (b : ℕ) (table : List ℕ) where
  abbrev is_listed : Hosting → Bool
  is_listed h = bytes_eq h.table table && h.backend == b

  -- a table that is listed with a backend has a row
  has_row : (test : List ℕ → Bool) → test table ≡ true → (rows : List PlaceRow) → list_any is_listed (flat_map (row_hostings names) rows) ≡ true → list_any test (map (λ (row : PlaceRow). row.table) rows) ≡ true
  has_row test passes [] listed = absurd (cc listed)
  has_row test passes (row ∷ rows) listed =
      let here : Bool = list_any is_listed (row_hostings names row) in
      let later : Bool = list_any is_listed (flat_map (row_hostings names) rows) in
      let split : (here || later) ≡ true =
      sym (list_any-append is_listed (row_hostings names row) (flat_map (row_hostings names) rows)) ∙ (ap (list_any is_listed) (sym (flat_map-cons (row_hostings names) row rows)) ∙ listed)
      in
      ⊎_elim
      (λ (in_row : here ≡ true).
      let one = Any-from_list_any (λ host. bytes_eq row.table table && backend_number names host == b) row.hosts
      (sym (any_map is_listed (λ host. record { table = row.table; backend = backend_number names host }) row.hosts) ∙ in_row) in
      let same : row.table ≡ table = (bytes_eq-Decides row.table table).0 (and_parts (bytes_eq row.table table) (backend_number names one.1 == b) one.4).0 in
      or_left (test row.table) (list_any test (map (λ (r : PlaceRow). r.table) rows)) (ap test same ∙ passes))
      (λ (in_rows : later ≡ true). or_right (test row.table) (list_any test (map (λ (r : PlaceRow). r.table) rows)) (has_row test passes rows in_rows))
      (or_cases here later split)

module _ (l : Layout) (b : ℕ) (d : Dump) (nothing : lacks d l b ≡ None) where
  abbrev is_covered : List ℕ → Bool
  is_covered table = list_any (λ t. bytes_eq t table) d.covers

  -- each table that the backend hosts is covered
  covers_hosted : (table : List ℕ) → hosts (placement_of l) b table ≡ true → covers_table d table ≡ true
  covers_hosted table hosted = by_all d.all nothing
    where
      by_full : (full : Bool) → l.full ≡ full → cond full (Some []) (first_outside l b d.covers) ≡ None → is_covered table ≡ true
      by_full true is none = absurd (cc none)
      by_full false is none =
          let listed : Bool = list_any (is_listed l.names b table) (flat_map (row_hostings l.names) l.rows) in
          let row_listed : listed ≡ true = ap (λ x. x || listed) (sym is) ∙ (and_parts (nat_lt b (length l.names)) (l.full || listed) hosted).1 in
          ⊎_elim (λ (on : is_covered table ≡ true). on)
          (λ (off : is_covered table ≡ false).
          let outside : is_outside (placement_of l) b d.covers table ≡ true = and_from (hosts (placement_of l) b table) (not (is_covered table)) hosted (not_from_false (is_covered table) off) in
          absurd
          (both_ways (list_any (is_outside (placement_of l) b d.covers) (map (λ (row : PlaceRow). row.table) l.rows))
          (none_found (is_outside (placement_of l) b d.covers) (map (λ (row : PlaceRow). row.table) l.rows) none)
          (has_row l.names b table (is_outside (placement_of l) b d.covers) outside l.rows row_listed)))
          (cases_Bool (is_covered table))

      by_all : (all : Bool) → cond all None (cond l.full (Some []) (first_outside l b d.covers)) ≡ None → (all || is_covered table) ≡ true
      by_all true none = refl
      by_all false none = by_full l.full refl none

  -- so the dump of a database, cut to the backend, is its part
  pub cut_is_part : (db : List Slot) → HasCoveredTables d db → (cut d l b).db ≡ part (placement_of l) b db
  cut_is_part db has =
      ap (part (placement_of l) b) has
      ∙ filter_after (λ s. hosts (placement_of l) b (table_of s)) (λ s. covers_table d (table_of s))
      (λ s off. false_from_ne_true (hosts (placement_of l) b (table_of s)) (λ yes. both_ways (covers_table d (table_of s)) off (covers_hosted (table_of s) yes)))
      db

-- ---- a dump that was taken under a placement

same_Bool : (a b : Bool) → (a ≡ true → b ≡ true) → (b ≡ true → a ≡ true) → a ≡ b
same_Bool true b there back = sym (there refl)
same_Bool false true there back = back refl
same_Bool false false there back = refl

-- tests that agree on the items leave the same
filter_equal : {A : Type 0} (f g : A → Bool) (xs : List A) → All (λ x. f x ≡ g x) xs → filter f xs ≡ filter g xs
filter_equal f g [] all = refl
filter_equal f g (x ∷ xs) all =
    ap (λ t. cond t (x ∷ filter f xs) (filter f xs)) (All-head (λ y. f y ≡ g y) x xs all) ∙ ap (λ ys. cond (g x) (x ∷ ys) ys) (filter_equal f g xs (All-tail (λ y. f y ≡ g y) x xs all))

-- an item that passes both tests is left by one and passes the other
any_filter : {A : Type 0} (p q : A → Bool) (xs : List A) → list_any (λ x. p x && q x) xs ≡ true → list_any q (filter p xs) ≡ true
any_filter p q [] any = any
any_filter {A} p q (x ∷ xs) any = by_test (p x) any (λ later. any_filter p q xs later)
  where
    by_test : (t : Bool) → ((t && q x) || list_any (λ y. p y && q y) xs) ≡ true → (list_any (λ y. p y && q y) xs ≡ true → list_any q (filter p xs) ≡ true) → list_any q (cond t (x ∷ filter p xs) (filter p xs)) ≡ true
    by_test true is later = ⊎_elim (λ (here : q x ≡ true). or_left (q x) (list_any q (filter p xs)) here) (λ behind. or_right (q x) (list_any q (filter p xs)) (later behind)) (or_cases (q x) (list_any (λ y. p y && q y) xs) is)
    by_test false is later = later is

module _ (table : List ℕ) where
  abbrev is_name_of : List ℕ → Bool
  is_name_of n = bytes_eq n table

  -- what is put in a set of names is there, and so is what was there before
  any_put : (xs : List (List ℕ)) (n : List ℕ) → (is_name_of n || list_any is_name_of xs) ≡ true → list_any is_name_of (put_by name_cmp xs n) ≡ true
  any_put [] n any = any
  any_put (y ∷ ys) n any = by_order (name_cmp n y) refl (λ later. any_put ys n later)
    where
      by_order : (o : Ordering) → name_cmp n y ≡ o → ((is_name_of n || list_any is_name_of ys) ≡ true → list_any is_name_of (put_by name_cmp ys n) ≡ true)
          → list_any is_name_of (match_ordering o (n ∷ y ∷ ys) (n ∷ ys) (y ∷ put_by name_cmp ys n)) ≡ true
      by_order Less is later = any
      by_order Equal is later =
          let same : n ≡ y = exact_bytes n y is in
          ⊎_elim (λ (here : is_name_of n ≡ true). or_left (is_name_of n) (list_any is_name_of ys) here)
          (λ behind.
          ⊎_elim (λ (next : is_name_of y ≡ true). or_left (is_name_of n) (list_any is_name_of ys) (ap is_name_of same ∙ next)) (λ rest. or_right (is_name_of n) (list_any is_name_of ys) rest)
          (or_cases (is_name_of y) (list_any is_name_of ys) behind))
          (or_cases (is_name_of n) (is_name_of y || list_any is_name_of ys) any)
      by_order Greater is later =
          ⊎_elim (λ (here : is_name_of n ≡ true). or_right (is_name_of y) (list_any is_name_of (put_by name_cmp ys n)) (later (or_left (is_name_of n) (list_any is_name_of ys) here)))
          (λ behind.
          ⊎_elim (λ (next : is_name_of y ≡ true). or_left (is_name_of y) (list_any is_name_of (put_by name_cmp ys n)) next)
          (λ rest. or_right (is_name_of y) (list_any is_name_of (put_by name_cmp ys n)) (later (or_right (is_name_of n) (list_any is_name_of ys) rest)))
          (or_cases (is_name_of y) (list_any is_name_of ys) behind))
          (or_cases (is_name_of n) (is_name_of y || list_any is_name_of ys) any)

  any_put_each : (xs new : List (List ℕ)) → (list_any is_name_of xs || list_any is_name_of new) ≡ true → list_any is_name_of (fold (put_by name_cmp) xs new) ≡ true
  any_put_each xs [] any = ⊎_elim (λ (there : list_any is_name_of xs ≡ true). there) (λ none. absurd (cc none)) (or_cases (list_any is_name_of xs) false any)
  any_put_each xs (n ∷ new) any =
      any_put_each (put_by name_cmp xs n) new
      (⊎_elim
      (λ (there : list_any is_name_of xs ≡ true).
      or_left (list_any is_name_of (put_by name_cmp xs n)) (list_any is_name_of new) (any_put xs n (or_right (is_name_of n) (list_any is_name_of xs) there)))
      (λ later.
      ⊎_elim (λ (here : is_name_of n ≡ true). or_left (list_any is_name_of (put_by name_cmp xs n)) (list_any is_name_of new) (any_put xs n (or_left (is_name_of n) (list_any is_name_of xs) here)))
      (λ rest. or_right (list_any is_name_of (put_by name_cmp xs n)) (list_any is_name_of new) rest) (or_cases (is_name_of n) (list_any is_name_of new) later))
      (or_cases (list_any is_name_of xs) (is_name_of n || list_any is_name_of new) any))

module _ (l : Layout) (b : ℕ) (within : b < length l.names) (d : Dump) (all : d.all ≡ l.full) (covers : d.covers ≡ covered l b) where
  abbrev at : List ℕ → Bool
  at table = hosts (placement_of l) b table

  -- a name is covered where the backend hosts its table
  covers_where_full : l.full ≡ true → (table : List ℕ) → at table ≡ covers_table d table
  covers_where_full full table =
      let listed : Bool = list_any (is_listed l.names b table) (flat_map (row_hostings l.names) l.rows) in
      let hosted : at table ≡ true = and_from (nat_lt b (length l.names)) (l.full || listed) (lt-ltb b (length l.names) within) (or_left l.full listed full) in
      hosted ∙ sym (or_left d.all (list_any (λ t. bytes_eq t table) d.covers) (all ∙ full))

  covers_where_listed : l.full ≡ false → (table : List ℕ) → is_name table ≡ true → at table ≡ covers_table d table
  covers_where_listed part table name =
      let names : List (List ℕ) = filter is_name (hosted_tables l b) in
      let set : d.covers ≡ fold (put_by name_cmp) [] names = covers ∙ ap (λ (t : Bool). cond t [] (fold (put_by name_cmp) [] names)) part in
      let listed : Bool = list_any (is_listed l.names b table) (flat_map (row_hostings l.names) l.rows) in
      let there : at table ≡ true → list_any (λ t. bytes_eq t table) (fold (put_by name_cmp) [] names) ≡ true =
      λ hosted.
      let row_listed : listed ≡ true = ap (λ x. x || listed) (sym part) ∙ (and_parts (nat_lt b (length l.names)) (l.full || listed) hosted).1 in
      let itself : bytes_eq table table ≡ true = (bytes_eq-Decides table table).1 refl in
      let row = has_row l.names b table (λ n. at n && (is_name n && bytes_eq n table)) (and_from (at table) (is_name table && bytes_eq table table) hosted (and_from (is_name table) (bytes_eq table table) name itself)) l.rows row_listed in
      any_put_each table [] names (any_filter is_name (λ t. bytes_eq t table) (hosted_tables l b) (any_filter at (λ n. is_name n && bytes_eq n table) (map (λ (r : PlaceRow). r.table) l.rows) row))
      in
      let back : list_any (λ t. bytes_eq t table) (fold (put_by name_cmp) [] names) ≡ true → at table ≡ true =
      λ any.
      let tables : List (List ℕ) = map (λ (r : PlaceRow). r.table) l.rows in
      let each = all_put_each name_cmp (λ n. at n ≡ true) [] names (All-nil (λ n. at n ≡ true)) (All-filter is_name (λ n. at n ≡ true) (hosted_tables l b) (filter_passes at tables)) in
      let one = Any-from_list_any (λ t. bytes_eq t table) (fold (put_by name_cmp) [] names) any in
      let hosted : at one.1 ≡ true = All-contains (λ n. at n ≡ true) (fold (put_by name_cmp) [] names) one.1 each (subst (Contains (fold (put_by name_cmp) [] names)) one.3 (Contains-get_or (fold (put_by name_cmp) [] names) one.0 one.1 one.2)) in
      ap at (sym ((bytes_eq-Decides one.1 table).0 one.4)) ∙ hosted
      in
      same_Bool (at table) (list_any (λ t. bytes_eq t table) (fold (put_by name_cmp) [] names)) there back
      ∙ ap (λ (ts : List (List ℕ)). list_any (λ t. bytes_eq t table) ts) (sym set) ∙ ap (λ (t : Bool). t || list_any (λ n. bytes_eq n table) d.covers) (sym (all ∙ part))

  -- the dump of what the backend held of a database has the tables that it covers
  pub taken_covers : (db : List Slot) → All (λ (s : Slot). is_name (table_of s) ≡ true) db → d.db ≡ part (placement_of l) b db → HasCoveredTables d db
  taken_covers db names holds =
      let alike : (s : Slot) → is_name (table_of s) ≡ true → at (table_of s) ≡ covers_table d (table_of s) =
      λ s name. ⊎_elim (λ (full : l.full ≡ true). covers_where_full full (table_of s)) (λ (part : l.full ≡ false). covers_where_listed part (table_of s) name) (cases_Bool l.full)
      in
      holds ∙ filter_equal (λ s. at (table_of s)) (λ s. covers_table d (table_of s)) db (All-weaker (λ (s : Slot). is_name (table_of s) ≡ true) (λ (s : Slot). at (table_of s) ≡ covers_table d (table_of s)) alike db names)
