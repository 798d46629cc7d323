-- What a placement of tables is, and what its calls say.
use Rattle.std.specs.Prelude.{◌≡◌, ℕ, Bool, true, false, not, ◌&&◌, ◌||◌, ◌==◌, List, [], length, map, find, filter, fold, if◌then◌else◌}
use Rattle.std.specs.declared.option.Option.{Option}
use Rattle.std.specs.declared.option.Option.TheVariants.{None, Some}
use Rattle.std.specs.declared.result.Result.{Result}
use Rattle.std.specs.declared.result.Result.TheVariants.{Ok, Err}
use Rattle.std.specs.declared.cmp.Ordering.{Ordering}
use Rattle.std.specs.List.{list_all, list_any, flat_map, position_or_len, range_with_len}
use Rattle.std.specs.Str.{bytes_eq}
use Rattle.cj_model.specs.declared.placement.Level.{Level}
use Rattle.cj_model.specs.declared.placement.Level.TheVariants.{Raidb0, Raidb1, Raidb2}
use Rattle.cj_model.specs.declared.placement.PlaceRow.{PlaceRow}
use Rattle.cj_model.specs.Cluster.Masks.{in_mask}
use Rattle.cj_model.specs.Cluster.Placements.{Hosting, Placement, hosts}
use Rattle.cj_model.specs.Database.Tables.{name_cmp, put_by}
use Rattle.cj_model.specs.Sql.Names.{is_name}
use Rattle.cj_place.specs.declared.error.PlaceError.{PlaceError}
use Rattle.cj_place.specs.declared.error.PlaceError.TheVariants as error

-- a layout: the names of the backends, whether each hosts every table, and the rows in rising name of their table
pub record Layout : Type 0 where
  pub names : List (List ℕ)
  pub full : Bool
  pub rows : List PlaceRow

-- the number of the backend that has this name
abbrev pub backend_number : List (List ℕ) → List ℕ → ℕ
backend_number names name = position_or_len (λ n. bytes_eq n name) names

-- a row's table with each of its hosts
abbrev pub row_hostings : List (List ℕ) → PlaceRow → List Hosting
row_hostings names row = map (λ host. record { table = row.table; backend = backend_number names host }) row.hosts

-- which backends host which tables
abbrev pub placement_of : Layout → Placement
placement_of l = record { backends = length l.names; full = l.full; hostings = flat_map (row_hostings l.names) l.rows }

-- ---- making one

-- the order of rows by the name of their table
abbrev pub by_row : PlaceRow → PlaceRow → Ordering
by_row r s = name_cmp r.table s.table

-- whether each backend hosts every table at this level
abbrev pub is_full : Level → Bool
is_full Raidb0 = false
is_full Raidb1 = true
is_full Raidb2 = false

-- the layout of rows that aren't refused
abbrev pub layout_of : Level → List (List ℕ) → List PlaceRow → Layout
layout_of level names rows = record { names = names; full = is_full level; rows = fold (put_by by_row) [] rows }

-- the answer is the refusal, if there is one; otherwise the layout, unless memory ran out
abbrev pub MakesLayout : Option PlaceError → Layout → Result Layout PlaceError → Type 0
MakesLayout (Some refusal) layout result = result ≡ Err refusal
MakesLayout None layout (Ok made) = made ≡ layout
MakesLayout None layout (Err e) = e ≡ error.NoMemory

-- ---- calls

-- the tables of the rows that backend b hosts
abbrev pub hosted_tables : Layout → ℕ → List (List ℕ)
hosted_tables l b = filter (hosts (placement_of l) b) (map (λ (row : PlaceRow). row.table) l.rows)

-- the tables that a dump of backend b covers: those that the placement names for it; none under full replication
abbrev pub covered : Layout → ℕ → List (List ℕ)
covered l b = if l.full then [] else fold (put_by name_cmp) [] (filter is_name (hosted_tables l b))

-- whether backend b is the only enabled host of the table
abbrev pub is_last_host : Placement → ℕ → ℕ → List ℕ → Bool
is_last_host p b enabled table = hosts p b table && in_mask enabled b && list_all (λ c. c == b || not (hosts p c table && in_mask enabled c)) (range_with_len 0 p.backends)

-- the first table of the rows whose only enabled host is b;
-- under full replication the empty name, if b alone is enabled
abbrev pub last_host : Layout → ℕ → ℕ → Option (List ℕ)
last_host l b enabled =
    if l.full then (if is_last_host (placement_of l) b enabled [] then Some [] else None)
    else find (is_last_host (placement_of l) b enabled) (map (λ (row : PlaceRow). row.table) l.rows)

-- whether backend b hosts the table, which is none of these
abbrev pub is_outside : Placement → ℕ → List (List ℕ) → List ℕ → Bool
is_outside p b tables table = hosts p b table && not (list_any (λ t. bytes_eq t table) tables)

-- the first table of the rows that backend b hosts and that is none of these
abbrev pub first_outside : Layout → ℕ → List (List ℕ) → Option (List ℕ)
first_outside l b tables = find (is_outside (placement_of l) b tables) (map (λ (row : PlaceRow). row.table) l.rows)

-- whether backend b hosts a table of the placement's list that the other doesn't
abbrev pub hosts_beyond : Placement → ℕ → ℕ → Bool
hosts_beyond p b other = list_any (λ (h : Hosting). hosts p b h.table && not (hosts p other h.table)) p.hostings
