-- A part of a part: where a backend hosts no listed table beyond another, it holds of the other's part what it holds of the whole.
use Rattle.std.proofs.Common.{◌≡◌, ℕ, ◌<◌, ◌==◌, ◌&&◌, ◌||◌, Bool, true, false, not, nat_lt, List, get_or, ap, sym, ◌∙◌, ⊎_elim}
use Rattle.std.proofs.Math.Bool.{and-true}
use Rattle.std.proofs.lemmas.Bool.{and_from, and_parts, and_right, both_ways, cases_Bool, false_from_ne_true, lt-ltb, not_from_true, or_left}
use Rattle.std.proofs.lemmas.List.Folds.{Any-from_list_any, list_any_at, list_any_none}
use Rattle.cj_place.proofs.Common.{bytes_eq, bytes_eq-Decides, hosts_beyond, list_any}
use Rattle.cj_model.specs.declared.database.Slot.{Slot}
use Rattle.cj_model.specs.Database.Tables.{table_of}
use Rattle.cj_model.specs.Cluster.Placements.{Hosting, Placement, hosts, part}
use Rattle.cj_model.proofs.FilterLaws.{filter_after}

-- a table that is listed with a backend, and passes a test, is a listed table that passes it
listed_passes : (test : List ℕ → Bool) (table : List ℕ) (b : ℕ) (hostings : List Hosting) → list_any (λ (h : Hosting). bytes_eq h.table table && h.backend == b) hostings ≡ true → test table ≡ true → list_any (λ (h : Hosting). test h.table) hostings ≡ true
listed_passes test table b hostings listed passes =
    let found = Any-from_list_any (λ (h : Hosting). bytes_eq h.table table && h.backend == b) hostings listed in
    let same : found.1.table ≡ table = (bytes_eq-Decides found.1.table table).0 (and_parts (bytes_eq found.1.table table) (found.1.backend == b) found.4).0 in
    list_any_at (λ (h : Hosting). test h.table) hostings found.0 found.1 found.2 (ap (λ (h : Hosting). test h.table) found.3 ∙ ap test same ∙ passes)

-- under full replication each backend hosts every table
hosts_where_full : (p : Placement) (b : ℕ) (table : List ℕ) → p.full ≡ true → b < p.backends → hosts p b table ≡ true
hosts_where_full p b table full within =
    and_from (nat_lt b p.backends) _ (lt-ltb b p.backends within) (or_left p.full (list_any (λ (h : Hosting). bytes_eq h.table table && h.backend == b) p.hostings) full)

module _ (p : Placement) (b other : ℕ) (within : other < p.backends) where
  -- the backend hosts the table, and the other doesn't
  abbrev is_beyond : List ℕ → Bool
  is_beyond table = hosts p b table && not (hosts p other table)

  -- which holds of no table where the other hosts every table
  none_where_full : p.full ≡ true → (table : List ℕ) → is_beyond table ≡ false
  none_where_full full table = and_right (hosts p b table) (not (hosts p other table)) (not_from_true (hosts p other table) (hosts_where_full p other table full within))

  -- so of none that is listed
  pub none_beyond_full : p.full ≡ true → hosts_beyond p b other ≡ false
  none_beyond_full full = list_any_none (λ (h : Hosting). is_beyond h.table) p.hostings (λ k d _. none_where_full full (get_or p.hostings k d).table)

  -- a table that it holds of is listed, where not every backend hosts all
  none_where_listed : hosts_beyond p b other ≡ false → p.full ≡ false → (table : List ℕ) → is_beyond table ≡ false
  none_where_listed none part table = false_from_ne_true (is_beyond table) (λ yes.
      let listed : Bool = list_any (λ (h : Hosting). bytes_eq h.table table && h.backend == b) p.hostings in
      let hosted = (and_parts (hosts p b table) (not (hosts p other table)) yes).0 in
      let is : listed ≡ true = ap (λ x. x || listed) (sym part) ∙ (and_parts (nat_lt b p.backends) (p.full || listed) hosted).1 in
      both_ways (hosts_beyond p b other) none (listed_passes is_beyond table b p.hostings is yes))

  -- so where it holds of no table that is listed, it holds of none
  pub none_beyond : hosts_beyond p b other ≡ false → (table : List ℕ) → (hosts p b table && not (hosts p other table)) ≡ false
  none_beyond none table = ⊎_elim (λ (full : p.full ≡ true). none_where_full full table) (λ (part : p.full ≡ false). none_where_listed none part table) (cases_Bool p.full)

-- the backend's part of the other's part is its part of the whole
pub part_of_part : (p : Placement) (b other : ℕ) (db : List Slot) → hosts_beyond p b other ≡ false → other < p.backends → part p b (part p other db) ≡ part p b db
part_of_part p b other db none within =
    filter_after (λ s. hosts p b (table_of s)) (λ s. hosts p other (table_of s))
    (λ s off. sym (and-true (hosts p b (table_of s))) ∙ ap (λ x. hosts p b (table_of s) && not x) (sym off) ∙ none_beyond p b other within none (table_of s))
    db
