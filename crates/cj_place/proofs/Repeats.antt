-- Tables that are named twice.
use Rattle.std.proofs.Common.{◌≡◌, ℕ, ◌+◌, ◌<◌, true, false, ◌||◌, cond, List, [], ◌∷◌, ◌++◌, length, get_or, take, drop, map, refl, sym, ap, ◌∙◌}
use Rattle.std.proofs.lemmas.List.{drop_more, take_more, map-append}
use Rattle.cj_place.proofs.Common.{Option, PlaceRow, Some, bytes_eq, list_any}
use Rattle.cj_place.specs.Refusals.{is_among, repeated}

abbrev pub tables : List PlaceRow → List (List ℕ)
tables rows = map (λ (row : PlaceRow). row.table) rows

-- a name is among the tables where a row has it
pub among_tables : (rows : List PlaceRow) (name : List ℕ) → is_among (tables rows) name ≡ list_any (λ (row : PlaceRow). bytes_eq row.table name) rows
among_tables [] name = refl
among_tables (row ∷ rows) name = ap (λ b. bytes_eq row.table name || b) (among_tables rows name)

-- whether the table of the next row is the first that stands among those before it
pub repeated_step : (rows : List PlaceRow) (i : ℕ) (d : PlaceRow) → i < length rows →
    repeated (tables (take i rows)) (tables (drop i rows)) ≡ cond (list_any (λ (row : PlaceRow). bytes_eq row.table (get_or rows i d).table) (take i rows)) (Some (get_or rows i d).table) (repeated (tables (take (i + 1) rows)) (tables (drop (i + 1) rows)))
repeated_step rows i d l =
    let x : PlaceRow = get_or rows i d in
    let rest : List (List ℕ) = tables (drop (i + 1) rows) in
    let seen : tables (take i rows) ++ x.table ∷ [] ≡ tables (take (i + 1) rows) =
    sym (ap tables (take_more rows i d l) ∙ map-append (λ (row : PlaceRow). row.table) (take i rows) (x ∷ [])) in
    ap (λ (r : List PlaceRow). repeated (tables (take i rows)) (tables r)) (drop_more rows i d l)
    ∙ ap (λ b. cond b (Some x.table) (repeated (tables (take i rows) ++ x.table ∷ []) rest)) (among_tables (take i rows) x.table)
    ∙ ap (λ (s : List (List ℕ)). cond (list_any (λ (row : PlaceRow). bytes_eq row.table x.table) (take i rows)) (Some x.table) (repeated s rest)) seen

module _ (rows : List PlaceRow) (i : ℕ) (l : i < length rows) (x : PlaceRow) (is : x ≡ get_or rows i x) (whole : Option (List ℕ)) (before : repeated (tables (take i rows)) (tables (drop i rows)) ≡ whole) where
  -- with what the next row's table gives
  next : cond (list_any (λ (row : PlaceRow). bytes_eq row.table x.table) (take i rows)) (Some x.table) (repeated (tables (take (i + 1) rows)) (tables (drop (i + 1) rows))) ≡ whole
  next = ap (λ (y : PlaceRow). cond (list_any (λ (row : PlaceRow). bytes_eq row.table y.table) (take i rows)) (Some y.table) (repeated (tables (take (i + 1) rows)) (tables (drop (i + 1) rows)))) is ∙ sym (repeated_step rows i x l) ∙ before

  pub repeated_found : list_any (λ (row : PlaceRow). bytes_eq row.table x.table) (take i rows) ≡ true → Some x.table ≡ whole
  repeated_found h = sym (ap (λ b. cond b (Some x.table) (repeated (tables (take (i + 1) rows)) (tables (drop (i + 1) rows)))) h) ∙ next

  pub repeated_passed : list_any (λ (row : PlaceRow). bytes_eq row.table x.table) (take i rows) ≡ false → repeated (tables (take (i + 1) rows)) (tables (drop (i + 1) rows)) ≡ whole
  repeated_passed h = sym (ap (λ b. cond b (Some x.table) (repeated (tables (take (i + 1) rows)) (tables (drop (i + 1) rows)))) h) ∙ next
