-- What a placement keeps for its look-ups.
use Rattle.std.specs.Prelude.{◌≡◌, ℕ, ◌<◌, ◌≤◌, ◌&&◌, ◌==◌, nat_lt, List, [], length, map, find, All}
use Rattle.std.specs.Option.{option_map_or}
use Rattle.std.specs.Str.{bytes_eq}
use Rattle.std.specs.List.{list_any}
use Rattle.cj_model.specs.declared.placement.PlaceRow.{PlaceRow}
use Rattle.cj_model.specs.declared.limits.TheConstants.{BACKEND_LIMIT}
use Rattle.cj_model.specs.Cluster.Masks.{in_mask}
use Rattle.cj_model.specs.Database.Tables.{Rises}
use Rattle.cj_place.specs.declared.rows.HostRow.{HostRow}
use Rattle.cj_place.specs.Layouts.{backend_number, by_row}

-- the mask has the backends that are among the hosts
abbrev pub HasMask : List (List ℕ) → List (List ℕ) → ℕ → Type 0
HasMask names hosts mask = (b : ℕ) → in_mask mask b ≡ (nat_lt b (length names) && list_any (λ host. backend_number names host == b) hosts)

-- the row has the mask of its hosts
abbrev pub IsMasked : List (List ℕ) → HostRow → Type 0
IsMasked names row = HasMask names row.given.hosts row.mask

-- the rows without their masks
abbrev pub given_rows : List HostRow → List PlaceRow
given_rows rows = map (λ (row : HostRow). row.given) rows

-- the mask of the row of a table; 0 if there is no such row
abbrev pub mask_in : List HostRow → List ℕ → ℕ
mask_in rows table = option_map_or (λ (row : HostRow). row.mask) (find (λ (row : HostRow). bytes_eq row.given.table table) rows) 0

-- 1 to 16 backends, the rows in rising name of their table with their masks, and an empty name
pub record IsKeptPlacement (names : List (List ℕ)) (rows : List HostRow) (empty : List ℕ) : Type 0 where
  pub some : 0 < length names
  pub most : length names ≤ BACKEND_LIMIT
  pub masks : All (IsMasked names) rows
  pub rises : Rises by_row (given_rows rows)
  pub nameless : empty ≡ []
