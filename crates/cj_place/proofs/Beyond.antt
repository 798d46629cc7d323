-- The masks of the rows tell whether a backend hosts a table that another doesn't.
use Rattle.std.proofs.Common.{◌≡◌, ℕ, ◌<◌, ◌&&◌, ◌||◌, Bool, true, false, not, List, [], ◌∷◌, length, get_or, refl, sym, ap, ◌∙◌, ⊎_elim}
use Rattle.std.proofs.lemmas.Bool.{cases_Bool, or_from, or_parts, true_from_ne_false, both_ways}
use Rattle.std.proofs.lemmas.List.{get_or_default}
use Rattle.std.proofs.lemmas.List.Elements.{All-head, All-tail, All-map}
use Rattle.std.proofs.lemmas.List.Folds.{list_any-append, list_any_none}
use Rattle.cj_place.proofs.Common.{All, HostRow, Hosting, IsMasked, Option, PlaceRow, Placement, Rises, backend_number, by_row, flat_map, flat_map-cons, given_rows, hosts, hosts_beyond, in_mask, list_any, mask_in, nat_list_cmp_total, option_map_or, placement_of, row_hostings, tied_itself}
use Rattle.cj_place.proofs.Halves.{found_here}
use Rattle.cj_place.proofs.Parts.{none_beyond}
use Rattle.cj_place.proofs.Placing.{any_map, part_hosts}

-- tests that agree at each item are passed alike
any_agree : {A : Type 0} (test other : A → Bool) (xs : List A) → All (λ x. test x ≡ other x) xs → list_any test xs ≡ list_any other xs
any_agree test other [] agree = refl
any_agree test other (x ∷ xs) agree =
    ap (λ r. r || list_any test xs) (All-head (λ y. test y ≡ other y) x xs agree)
    ∙ ap (λ r. other x || r) (any_agree test other xs (All-tail (λ y. test y ≡ other y) x xs agree))

-- where no row's table passes a test, no listed table does
none_listed : (test : List ℕ → Bool) (names : List (List ℕ)) (rows : List PlaceRow) → list_any (λ (row : PlaceRow). test row.table) rows ≡ false → list_any (λ (h : Hosting). test h.table) (flat_map (row_hostings names) rows) ≡ false
none_listed test names [] none = refl
none_listed test names (row ∷ rows) none =
    let passes : Hosting → Bool = λ h. test h.table in
    let parts = or_parts (test row.table) (list_any (λ (r : PlaceRow). test r.table) rows) none in
    let hosting : List ℕ → Hosting = λ host. record { table = row.table; backend = backend_number names host } in
    ap (list_any passes) (flat_map-cons (row_hostings names) row rows)
    ∙ list_any-append passes (row_hostings names row) (flat_map (row_hostings names) rows)
    ∙ or_from _ _
    (list_any_none passes (row_hostings names row) (All-map (λ h. passes h ≡ false) hosting row.hosts (λ k d within. parts.0)))
    (none_listed test names rows parts.1)

module _ (names : List (List ℕ)) (full : Bool) (rows : List HostRow) (b other : ℕ) (part : full ≡ false) (masks : All (IsMasked names) rows) (rises : Rises by_row (given_rows rows)) where
  abbrev placement : Placement
  placement = placement_of (record { names = names; full = full; rows = given_rows rows })

  abbrev is_beyond : List ℕ → Bool
  is_beyond table = hosts placement b table && not (hosts placement other table)

  -- a row is found by its table, so it has the mask of its table
  own_mask : (k : ℕ) (d : HostRow) → k < length rows → mask_in rows (get_or rows k d).given.table ≡ (get_or rows k d).mask
  own_mask k d within =
      let row : HostRow = get_or rows k d in
      ap (λ (o : Option HostRow). option_map_or (λ (r : HostRow). r.mask) o 0)
      (found_here row.given.table rows k row within (get_or_default rows k d row within) rises (tied_itself nat_list_cmp_total row.given.table))

  -- which tells the hosts of the table
  own_hosts : (k : ℕ) (d : HostRow) (c : ℕ) → k < length rows → in_mask (get_or rows k d).mask c ≡ hosts placement c (get_or rows k d).given.table
  own_hosts k d c within = ap (λ m. in_mask m c) (sym (own_mask k d within)) ∙ part_hosts names (get_or rows k d).given.table c full rows part masks rises

  -- what the mask of a row tells of its table
  own_tells : All (λ (row : HostRow). (in_mask row.mask b && not (in_mask row.mask other)) ≡ is_beyond row.given.table) rows
  own_tells k d within =
      let row : HostRow = get_or rows k d in
      ap (λ x. x && not (in_mask row.mask other)) (own_hosts k d b within) ∙ ap (λ x. hosts placement b row.given.table && not x) (own_hosts k d other within)

  -- it holds of some row's table where it holds of some listed table
  rows_beyond : other < length names → list_any (λ (row : HostRow). is_beyond row.given.table) rows ≡ hosts_beyond placement b other
  rows_beyond within = ⊎_elim
      (λ (yes : hosts_beyond placement b other ≡ true). true_from_ne_false (list_any (λ (row : HostRow). is_beyond row.given.table) rows) (λ none.
      both_ways (hosts_beyond placement b other) (none_listed is_beyond names (given_rows rows) (any_map (λ (row : PlaceRow). is_beyond row.table) (λ (row : HostRow). row.given) rows ∙ none)) yes) ∙ sym yes)
      (λ (no : hosts_beyond placement b other ≡ false).
      list_any_none (λ (row : HostRow). is_beyond row.given.table) rows (λ k d _. none_beyond placement b other within no (get_or rows k d).given.table) ∙ sym no)
      (cases_Bool (hosts_beyond placement b other))

  -- the masks tell it
  pub masks_tell : other < length names → list_any (λ (row : HostRow). in_mask row.mask b && not (in_mask row.mask other)) rows ≡ hosts_beyond placement b other
  masks_tell within =
      any_agree (λ (row : HostRow). in_mask row.mask b && not (in_mask row.mask other)) (λ (row : HostRow). is_beyond row.given.table) rows own_tells
      ∙ rows_beyond within
