-- What is refused as a placement of tables, and for which name.
use Rattle.std.specs.Prelude.{ℕ, Bool, not, ◌&&◌, ◌==◌, nat_lt, nat_le, List, [], ◌∷◌, ◌++◌, length, map, find, if◌then◌else◌}
use Rattle.std.specs.declared.option.Option.{Option}
use Rattle.std.specs.declared.option.Option.TheVariants.{None, Some}
use Rattle.std.specs.Option.{option_map, option_or}
use Rattle.std.specs.List.{list_all, list_any}
use Rattle.std.specs.Str.{bytes_eq}
use Rattle.cj_model.specs.declared.placement.Level.{Level}
use Rattle.cj_model.specs.declared.placement.Level.TheVariants.{Raidb0, Raidb1, Raidb2}
use Rattle.cj_model.specs.declared.placement.PlaceRow.{PlaceRow}
use Rattle.cj_model.specs.declared.limits.TheConstants.{BACKEND_LIMIT}
use Rattle.cj_place.specs.declared.error.PlaceError.{PlaceError}
use Rattle.cj_place.specs.declared.error.PlaceError.TheVariants.{BackendCount, Twice, Stranger, NoHost, ManyHosts, NotAll}

-- ---- words

-- the name is one of the names
abbrev pub is_among : List (List ℕ) → List ℕ → Bool
is_among names name = list_any (λ n. bytes_eq n name) names

-- the first of the names that is among those seen, or among those before it
abbrev pub repeated : List (List ℕ) → List (List ℕ) → Option (List ℕ)
repeated seen [] = None
repeated seen (n ∷ ns) = if is_among seen n then Some n else repeated (seen ++ n ∷ []) ns

-- the value for the first row that has one
abbrev pub some_row : {A : Type 0} → (PlaceRow → Option A) → List PlaceRow → Option A
some_row f [] = None
some_row f (row ∷ rows) = option_or (f row) (some_row f rows)

-- the first of the options that has a value
abbrev pub first_some : {A : Type 0} → List (Option A) → Option A
first_some [] = None
first_some (o ∷ os) = option_or o (first_some os)

-- the table of the first row that passes the test
abbrev pub table_where : (PlaceRow → Bool) → List PlaceRow → Option (List ℕ)
table_where p rows = option_map (λ (row : PlaceRow). row.table) (find p rows)

-- ---- each refusal

-- whether there are 1 to 16 backends
abbrev pub has_count : List (List ℕ) → Bool
has_count backends = nat_le 1 (length backends) && nat_le (length backends) BACKEND_LIMIT

-- the first backend that is named twice, or else the first table, or else the first host within a row
abbrev pub twice : List (List ℕ) → List PlaceRow → Option (List ℕ)
twice backends rows = first_some (repeated [] backends ∷ repeated [] (map (λ (row : PlaceRow). row.table) rows) ∷ some_row (λ row. repeated [] row.hosts) rows ∷ [])

-- the first host that is no backend
abbrev pub stranger : List (List ℕ) → List PlaceRow → Option (List ℕ)
stranger backends rows = some_row (λ row. find (λ host. not (is_among backends host)) row.hosts) rows

-- the first table with no host
abbrev pub no_host : List PlaceRow → Option (List ℕ)
no_host rows = table_where (λ row. length row.hosts == 0) rows

-- the first table with more than one host
abbrev pub many_hosts : List PlaceRow → Option (List ℕ)
many_hosts rows = table_where (λ row. nat_lt 1 (length row.hosts)) rows

-- the first table that some backend doesn't host
abbrev pub not_all : List (List ℕ) → List PlaceRow → Option (List ℕ)
not_all backends rows = table_where (λ row. not (list_all (is_among row.hosts) backends)) rows

-- why the level doesn't allow the rows: partitioned tables have one host, fully replicated ones every backend
abbrev pub bad_level : Level → List (List ℕ) → List PlaceRow → Option PlaceError
bad_level Raidb0 backends rows = option_map ManyHosts (many_hosts rows)
bad_level Raidb1 backends rows = option_map NotAll (not_all backends rows)
bad_level Raidb2 backends rows = None

-- ---- all of them, in order

-- why the rows make no placement of the level over the backends, if they don't
abbrev pub refusal_of_placement : Level → List (List ℕ) → List PlaceRow → Option PlaceError
refusal_of_placement level backends rows = first_some (
    (if has_count backends then None else Some BackendCount)
    ∷ option_map Twice (twice backends rows)
    ∷ option_map Stranger (stranger backends rows)
    ∷ option_map NoHost (no_host rows)
    ∷ bad_level level backends rows
    ∷ [])
