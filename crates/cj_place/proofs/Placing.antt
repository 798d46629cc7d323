-- Rows with their masks, put in their places, and looked up.
use Rattle.std.proofs.Common.{◌≡◌, ℕ, ◌==◌, ◌&&◌, ◌||◌, Bool, true, false, cond, nat_lt, List, [], ◌∷◌, length, map, refl, sym, ap, ◌∙◌, subst, Ordering, Less, Equal, Greater, ⊎_elim}
use Rattle.std.specs.BTreeMap.{insert_entry}
use Rattle.std.specs.Cmp.{IsTotalOrder}
use Rattle.std.specs.Global.{Vec}
use Rattle.std.specs.Map.{values_of}
use Rattle.std.specs.Ordering.{match_ordering}
use Rattle.std.proofs.lemmas.Bool.{and_left, and_parts, cases_Bool, false_from_ne_true, leb-true, or_from}
use Rattle.std.proofs.lemmas.Cmp.{nat_list_cmp_total, on_total, tied_itself}
use Rattle.std.proofs.lemmas.List.Elements.{All-cons, All-head, All-tail}
use Rattle.std.proofs.lemmas.Map.Lookups.{exact_bytes}
use Rattle.std.proofs.lemmas.List.Folds.{list_any-append}
use Rattle.cj_place.proofs.Common.{All, HostRow, Hosting, PlaceRow, Rises, Some, backend_number, by_row, bytes_eq, bytes_eq-Decides, find, flat_map, flat_map-cons, fold, hosts, in_mask, list_any, name_cmp, option_map_or, placement_of, put_by, row_hostings}
use Rattle.cj_model.proofs.Masks.{has-zero}
use Rattle.cj_model.proofs.RisingLaws.{by_order, rises_put_each}
use Rattle.cj_place.specs.Kept.{IsKeptPlacement, IsMasked, given_rows, mask_in}
use Rattle.cj_place.specs.Refusals.{has_count}

-- ---- putting in

-- the key is the name of the row's table
abbrev pub HasTable : Vec ℕ × HostRow → Type 0
HasTable e = e.0.items ≡ e.1.given.table

abbrev pub bytes_cmp : Vec ℕ → Vec ℕ → Ordering
bytes_cmp k l = name_cmp k.items l.items

-- keys go as the rows by their tables
same_order : (k : Vec ℕ) (row : HostRow) (e : Vec ℕ × HostRow) → HasTable (k, row) → HasTable e → bytes_cmp k e.0 ≡ by_row row.given e.1.given
same_order k row e is has = ap (λ n. name_cmp n e.0.items) is ∙ ap (name_cmp row.given.table) has

-- a row with its mask is put where the row is put
pub given_put : (es : List (Vec ℕ × HostRow)) (k : Vec ℕ) (row : HostRow) → HasTable (k, row) → All HasTable es → given_rows (values_of (insert_entry bytes_cmp es k row)) ≡ put_by by_row (given_rows (values_of es)) row.given
given_put [] k row is all = refl
given_put (e ∷ es) k row is all =
    let made : Ordering → List PlaceRow = λ o. given_rows (values_of (match_ordering o ((k, row) ∷ e ∷ es) ((e.0, row) ∷ es) (e ∷ insert_entry bytes_cmp es k row))) in
    ap made (same_order k row e is (All-head HasTable e es all))
    ∙ elim (by_row row.given e.1.given) as (λ o. made o ≡ match_ordering o (row.given ∷ e.1.given ∷ given_rows (values_of es)) (row.given ∷ given_rows (values_of es)) (e.1.given ∷ put_by by_row (given_rows (values_of es)) row.given)) [
      | Less ↦ refl
      | Equal ↦ refl
      | Greater ↦ ap (λ (rs : List PlaceRow). e.1.given ∷ rs) (given_put es k row is (All-tail HasTable e es all))
    ]

-- its key stays the name of its table
pub tables_put : (es : List (Vec ℕ × HostRow)) (k : Vec ℕ) (row : HostRow) → HasTable (k, row) → All HasTable es → All HasTable (insert_entry bytes_cmp es k row)
tables_put [] k row is all = All-cons HasTable (k, row) [] is all
tables_put (e ∷ es) k row is all =
    let behind = All-tail HasTable e es all in
    by_order (bytes_cmp k e.0)
    (λ l. subst (λ o. All HasTable (match_ordering o ((k, row) ∷ e ∷ es) ((e.0, row) ∷ es) (e ∷ insert_entry bytes_cmp es k row))) (sym l) (All-cons HasTable (k, row) (e ∷ es) is all))
    (λ q. subst (λ o. All HasTable (match_ordering o ((k, row) ∷ e ∷ es) ((e.0, row) ∷ es) (e ∷ insert_entry bytes_cmp es k row))) (sym q) (All-cons HasTable (e.0, row) es (sym (exact_bytes k.items e.0.items q) ∙ is) behind))
    (λ g. subst (λ o. All HasTable (match_ordering o ((k, row) ∷ e ∷ es) ((e.0, row) ∷ es) (e ∷ insert_entry bytes_cmp es k row))) (sym g) (All-cons HasTable e (insert_entry bytes_cmp es k row) (All-head HasTable e es all) (tables_put es k row is behind)))

-- rows have a total order by their tables
by_row_total : IsTotalOrder by_row
by_row_total = on_total (λ (row : PlaceRow). row.table) nat_list_cmp_total

-- the rows put in their places, with their masks, are kept
pub makes_kept : (names : List (List ℕ)) (rows : List PlaceRow) (made : List HostRow) (empty : List ℕ) → has_count names ≡ true → All (IsMasked names) made → given_rows made ≡ fold (put_by by_row) [] rows → empty ≡ [] → IsKeptPlacement names made empty
makes_kept names rows made empty count masks is nameless =
    let counts = and_parts _ _ count in
    record {
      some = leb-true 1 (length names) counts.0;
      most = leb-true (length names) 16 counts.1;
      masks = masks;
      rises = subst (Rises by_row) (sym is) (rises_put_each by_row by_row_total [] rows tt);
      nameless = nameless;
    }

-- ---- looking up

on_bool : {G : Type 0} (b : Bool) → (b ≡ true → G) → (b ≡ false → G) → G
on_bool b f g = ⊎_elim (λ (t : b ≡ true). f t) (λ (t : b ≡ false). g t) (cases_Bool b)

-- what some item of a list comes from
pub any_map : {A B : Type 0} (q : B → Bool) (f : A → B) (xs : List A) → list_any q (map f xs) ≡ list_any (λ x. q (f x)) xs
any_map q f [] = refl
any_map q f (x ∷ xs) = ap (λ b. q (f x) || b) (any_map q f xs)

any_and : {A : Type 0} (a : Bool) (f : A → Bool) (xs : List A) → list_any (λ x. a && f x) xs ≡ (a && list_any f xs)
any_and true f xs = refl
any_and false f [] = refl
any_and false f (x ∷ xs) = any_and false f xs

or-false : (b : Bool) → (b || false) ≡ b
or-false true = refl
or-false false = refl

and-false : (b : Bool) → (b && false) ≡ false
and-false true = refl
and-false false = refl

module _ (names : List (List ℕ)) (table : List ℕ) (b : ℕ) where
  abbrev is_it : Hosting → Bool
  is_it h = bytes_eq h.table table && h.backend == b

  abbrev has_number : PlaceRow → Bool
  has_number row = list_any (λ host. backend_number names host == b) row.hosts

  -- the first row, and those behind it
  one_more : (row : PlaceRow) (rows : List PlaceRow) → list_any is_it (flat_map (row_hostings names) (row ∷ rows)) ≡ ((bytes_eq row.table table && has_number row) || list_any is_it (flat_map (row_hostings names) rows))
  one_more row rows =
      ap (list_any is_it) (flat_map-cons (row_hostings names) row rows)
      ∙ list_any-append is_it (row_hostings names row) (flat_map (row_hostings names) rows)
      ∙ ap (λ x. x || list_any is_it (flat_map (row_hostings names) rows))
      (any_map is_it (λ host. record { table = row.table; backend = backend_number names host }) row.hosts
      ∙ any_and (bytes_eq row.table table) (λ host. backend_number names host == b) row.hosts)

  -- a row that stands above one of the table isn't of it
  other_table : (r s : PlaceRow) → bytes_eq r.table table ≡ true → by_row r s ≡ Less → bytes_eq s.table table ≡ false
  other_table r s t below = false_from_ne_true (bytes_eq s.table table) (λ u.
      let same : r.table ≡ s.table = (bytes_eq-Decides r.table table).0 t ∙ sym ((bytes_eq-Decides s.table table).0 u) in
      let e : Less ≡ Equal = sym below ∙ ap (λ n. name_cmp n s.table) same ∙ tied_itself nat_list_cmp_total s.table in
      cc)

  none_behind : (r : PlaceRow) (rows : List PlaceRow) → bytes_eq r.table table ≡ true → All (λ s. by_row r s ≡ Less) rows → list_any is_it (flat_map (row_hostings names) rows) ≡ false
  none_behind r [] t below = refl
  none_behind r (s ∷ rows) t below =
      one_more s rows
      ∙ or_from (bytes_eq s.table table && has_number s) (list_any is_it (flat_map (row_hostings names) rows))
      (and_left (bytes_eq s.table table) (has_number s) (other_table r s t (All-head (λ s. by_row r s ≡ Less) s rows below)))
      (none_behind r rows t (All-tail (λ s. by_row r s ≡ Less) s rows below))

  abbrev Finds : List HostRow → Type 0
  Finds rows = in_mask (mask_in rows table) b ≡ (nat_lt b (length names) && list_any is_it (flat_map (row_hostings names) (given_rows rows)))

  -- the mask that is found has the hosts that the rows list
  mask_hosts : (rows : List HostRow) → All (IsMasked names) rows → Rises by_row (given_rows rows) → Finds rows
  mask_hosts [] masks rises = has-zero b ∙ sym (and-false (nat_lt b (length names)))
  mask_hosts (r ∷ rows) masks rises =
      let found : Bool → Bool = λ o. in_mask (option_map_or (λ (row : HostRow). row.mask) (cond o (Some r) (find (λ (row : HostRow). bytes_eq row.given.table table) rows)) 0) b in
      let rest : Bool = list_any is_it (flat_map (row_hostings names) (given_rows rows)) in
      let lists : Bool → Bool = λ o. nat_lt b (length names) && ((o && has_number r.given) || rest) in
      let listed : (nat_lt b (length names) && list_any is_it (flat_map (row_hostings names) (given_rows (r ∷ rows)))) ≡ lists (bytes_eq r.given.table table) =
      ap (λ x. nat_lt b (length names) && x) (one_more r.given (given_rows rows)) in
      on_bool (bytes_eq r.given.table table)
      (λ t. ap found t ∙ All-head (IsMasked names) r rows masks b
      ∙ sym (listed ∙ ap lists t ∙ ap (λ x. nat_lt b (length names) && (has_number r.given || x)) (none_behind r.given (given_rows rows) t rises.0)
      ∙ ap (λ x. nat_lt b (length names) && x) (or-false (has_number r.given))))
      (λ f. ap found f ∙ mask_hosts rows (All-tail (IsMasked names) r rows masks) rises.1 ∙ sym (listed ∙ ap lists f))

  -- it has the hosts of the table, where not every backend hosts all
  pub part_hosts : (full : Bool) (rows : List HostRow) → full ≡ false → All (IsMasked names) rows → Rises by_row (given_rows rows) → in_mask (mask_in rows table) b ≡ hosts (placement_of (record { names = names; full = full; rows = given_rows rows })) b table
  part_hosts full rows f masks rises =
      mask_hosts rows masks rises ∙ ap (λ k. nat_lt b (length names) && (k || list_any is_it (flat_map (row_hostings names) (given_rows rows)))) (sym f)
